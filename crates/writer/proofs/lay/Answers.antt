-- `writer::lay` meets its contract: each way out has one cause or none, and the place after a valid set's file is the
-- file's length.
use mathlib.Core.Path.{◌≡◌, refl, sym, ap, ◌∙◌}
use mathlib.Core.Bool.{true, false}
use mathlib.Core.List.{List, []}
use Prim.Native.Nat.{ℕ, ◌≤◌, ◌<◌}
use native.Mathlib.Omega.{arith}
use lib.ListN.{length}
use borrow.Author.Rules.{rules}
use borrow.Author.Tests.{lt-ltb, le-ltb}
use Rattle.theory_spec.specs.Lists.{padded}
use Rattle.model_spec.specs.How.Buffers.{filled_from}
use Rattle.model_spec.specs.Validity.{valid}
use Rattle.model_spec.specs.declared.RuleSet.{RuleSet}
use Rattle.files_spec.specs.File.{render}
use Rattle.files_spec.specs.Writing.{write_causes, written_text, written, written_buffer}
use Rattle.files_spec.proofs.LengthLaws.{render_bound}
use Rattle.output_laws.specs.How.Overlay.{last_place, Laid}
use Rattle.output_laws.proofs.OverlayLaws.{laid-length, laid_end, zeros-whole, zeros_laid}
use Rattle.output_laws.proofs.PageLaws.{page-laid}
use Rattle.writer.proofs.lay.Goals as goal

-- the answer and the buffer, by the causes
module _ (set : RuleSet) (room : ℕ) where
  not_valid : valid set ≡ false
      → (7 ≡ (written set room).outcome) × (0 ≡ (written set room).length)
      × (padded room 0 [] ≡ written_buffer set room)
  unfolding written written_buffer written_text write_causes
  not_valid t = rw t (refl, refl, refl)

  no_room : valid set ≡ true → room < length (render set)
      → (8 ≡ (written set room).outcome) × (0 ≡ (written set room).length)
      × (padded room 0 [] ≡ written_buffer set room)
  unfolding written written_buffer written_text write_causes
  no_room t h = rw (t, lt-ltb room (length (render set)) h) (refl, refl, refl)

  fits : (end : ℕ) → valid set ≡ true → end ≡ length (render set) → end ≤ room
      → (0 ≡ (written set room).outcome) × (end ≡ (written set room).length)
      × (padded room 0 (render set) ≡ written_buffer set room)
  unfolding written written_buffer written_text write_causes
  fits end t e h = rw (t, le-ltb room (length (render set)) (omega arith), e) (refl, refl, refl)

-- the file of a valid set was laid over a text, which left another
module _ (set : RuleSet) (t : valid set ≡ true) (text after : List ℕ) (end : ℕ) where
  too_long : length after < end → Laid 0 (render set) text end after
      → (8 ≡ (written set (length text)).outcome) × (0 ≡ (written set (length text)).length)
      × (filled_from 0 0 after ≡ written_buffer set (length text))
  too_long h laid =
      let same = laid-length laid in
      let long = laid_end laid (omega (arith, render_bound set t)) in
      let w = no_room set (length text) t (omega arith) in
      (w.0, w.1, zeros-whole after ∙ ap (λ n. padded n 0 []) same ∙ w.2)

  laid-whole : end ≤ length after → Laid 0 (render set) text end after
      → (0 ≡ (written set (length text)).outcome) × (end ≡ (written set (length text)).length)
      × (filled_from 0 end after ≡ written_buffer set (length text))
  laid-whole h laid =
      let same = laid-length laid in
      let low : length (render set) ≤ last_place = omega (arith, render_bound set t) in
      let long = laid_end laid low in
      let w = fits set (length text) end t long (omega arith) in
      (w.0, w.1, zeros_laid laid low (omega arith) ∙ w.2)

pub returns-then-not-is_valid : goal.returns-then-not-is_valid
returns-then-not-is_valid c =
    let s = c.args in
    let w = not_valid s.set (length s.text.now) (sym c.is_valid.ensures.0 ∙ c.if-not-is_valid.true) in
    (w.0, w.1, zeros-whole _ ∙ w.2)

pub returns-then-text-end : goal.returns-then-text-end
returns-then-text-end c =
    let s = c.args in
    let t = sym c.is_valid.ensures.0 ∙ c.if-not-is_valid.false in
    let laid = c.put_file.ensures in
    let new = c.new-page.ensures in
    let same = sym (laid.same ∙ new.same) in
    too_long s.set t s.text.now _ _ c.if-text-end.true (page-laid laid new.place new.text (search rules))

pub returns : goal.returns
returns c =
    let s = c.args in
    let t = sym c.is_valid.ensures.0 ∙ c.if-not-is_valid.false in
    let laid = c.put_file.ensures in
    let new = c.new-page.ensures in
    let same = sym (laid.same ∙ new.same) in
    laid-whole s.set t s.text.now _ _ c.if-text-end.false (page-laid laid new.place new.text (search rules))
