-- What a refused reading and a refused writing leave, which numbers a reading gives, and that the writer's buffer keeps
-- its length.
-- Assumes nothing.
use mathlib.Core.Path.{◌≡◌, refl, sym, ap}
use mathlib.Core.Logic.{◌≢◌}
use mathlib.Core.Bool.{Bool, true, false, cond}
use mathlib.Core.List.{List, [], ◌∷◌}
use Prim.Native.Nat.{ℕ, ◌-◌, ◌≤◌, ◌<◌}
use native.Mathlib.Omega.{arith}
use lib.Dec.{leb, ltb, eqb}
use lib.ListN.{length, replicate}
use borrow.Author.Tests.{eqb-true}
use Rattle.theory_spec.specs.Lists.{◌∈◌, any, padded}
use Rattle.theory_spec.proofs.ListLaws.{not-both, true-any, every_at, padded-length, in-numbers_from}
use Rattle.theory_spec.proofs.TestLaws.{leb_iff, ltb_iff, eqb_iff}
use Rattle.model_spec.specs.Refusals.{first_refusal}
use Rattle.model_spec.specs.Rules.{empty_set}
use Rattle.model_spec.specs.declared.RuleSet.{RuleSet}
use Rattle.files_spec.specs.File.{render}
use Rattle.files_spec.specs.Reading.{reading}
use Rattle.files_spec.specs.Writing.{write_causes, written_text, written, written_buffer}
use Rattle.files_spec.proofs.ReadingLaws.{Ends, in_line, too_long, duplicated, accepted, reading_ends}
use Rattle.files_spec.proofs.LineFaultLaws.{lines_limits}
use Rattle.files_spec.proofs.WriterLaws.{writes_iff}

-- ── Reading ──────────────────────────────────────────────────────────────────────────────────────

-- the numbers that a reading gives: 0, and its refusals
abbrev pub read_numbers : List ℕ
read_numbers = 0 ∷ 1 ∷ 2 ∷ 3 ∷ 4 ∷ []

pub reading-numbers : (text : List ℕ) → (reading text).outcome ∈ read_numbers
reading-numbers text = go (reading_ends text)
  where
    listed : (n : ℕ) → n ≤ 4 → n ∈ read_numbers
    listed n h = in-numbers_from 0 5 n (omega arith) (omega arith)

    go : Ends text (reading text) → (reading text).outcome ∈ read_numbers
    go (in_line n e r) = listed (reading text).outcome (omega (arith, ap (λ r. r.outcome) r, lines_limits text n e))
    go (too_long set b rest e r) = listed (reading text).outcome (omega (arith, ap (λ r. r.outcome) r))
    go (duplicated set e d r) = listed (reading text).outcome (omega (arith, ap (λ r. r.outcome) r))
    go (accepted set e d r) = listed (reading text).outcome (omega (arith, ap (λ r. r.outcome) r))

-- no other number
pub reading-other : (text : List ℕ) (n : ℕ) → any (eqb n) read_numbers ≡ false → (reading text).outcome ≢ n
reading-other text n none e =
    not-both (true-any (eqb n) (reading-numbers text) ((eqb_iff n (reading text).outcome).1 (sym e))) none

-- each fits one byte
pub reading_byte : (text : List ℕ) → (reading text).outcome < 256
reading_byte text = (ltb_iff (reading text).outcome 256).0 (every_at (λ n. ltb n 256) refl (reading-numbers text))

-- and is at most 4
pub reading_bound : (text : List ℕ) → (reading text).outcome ≤ 4
reading_bound text = (leb_iff (reading text).outcome 4).0 (every_at (λ n. leb n 4) refl (reading-numbers text))

-- a refused reading gives the empty set
pub reading-refused : (text : List ℕ) → (reading text).outcome ≢ 0 → (reading text).set ≡ empty_set
reading-refused text h = go (reading_ends text)
  where
    go : Ends text (reading text) → (reading text).set ≡ empty_set
    go (in_line n e r) = ap (λ r. r.set) r
    go (too_long set b rest e r) = ap (λ r. r.set) r
    go (duplicated set e d r) = ap (λ r. r.set) r
    go (accepted set e d r) = absurd (h (ap (λ r. r.outcome) r))

-- ── Writing ──────────────────────────────────────────────────────────────────────────────────────

module _ (set : RuleSet) (room : ℕ) where
  -- what is written fits the buffer
  text-fits : length (written_text set room) ≤ room
  unfolding written written_text
  text-fits = go (eqb (first_refusal (write_causes set room)) 0) refl
    where
      go : (b : Bool) → eqb (first_refusal (write_causes set room)) 0 ≡ b → length (cond b (render set) []) ≤ room
      go false e = omega arith
      go true e = ((writes_iff set room).0 (eqb-true (first_refusal (write_causes set room)) 0 e)).1

  -- the buffer keeps its length
  pub written_size : length (written_buffer set room) ≡ room
  unfolding written_buffer
  written_size = padded-length room 0 (written_text set room) text-fits

  -- a refused writing gives length 0 and zeroes the whole buffer
  pub written-refused : (written set room).outcome ≢ 0 → ((written set room).length ≡ 0)
      × (written_buffer set room ≡ replicate room 0)
  unfolding written written_text written_buffer
  written-refused h = go (eqb (first_refusal (write_causes set room)) 0) refl
    where
      go : (b : Bool) → eqb (first_refusal (write_causes set room)) 0 ≡ b → (length (cond b (render set) []) ≡ 0)
          × (padded room 0 (cond b (render set) []) ≡ replicate room 0)
      go true e = absurd (h (eqb-true (first_refusal (write_causes set room)) 0 e))
      go false e = let z : room - 0 ≡ room = omega arith in (refl, ap (λ n. replicate n 0) z)
