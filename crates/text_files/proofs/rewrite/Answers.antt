-- `text_files::rewrite` meets its contract: a refused text leaves its refusal and zeros, any other what the writer
-- leaves.
use mathlib.Core.Path.{◌≡◌, sym, ap, ◌∙◌}
use mathlib.Core.Logic.{◌≢◌}
use mathlib.Core.List.{List}
use Prim.Native.Nat.{ℕ}
use lib.ListN.{length, replicate}
use Rattle.model_spec.proofs.BufferLaws.{filled-whole}
use Rattle.files_spec.specs.Reading.{reading}
use Rattle.files_spec.specs.Writing.{written, written_buffer}
use Rattle.files_spec.specs.declared.Reading.{Reading}
use Rattle.files_spec.specs.declared.Written.{Written}
use Rattle.planner_spec.specs.Rewriting.{rewritten, rewritten_buffer, RewriteMeaning}
use Rattle.planner_spec.proofs.RewritingLaws.{Rewrites, not-read, was_read, rewrites_mean}
use Rattle.text_files.proofs.rewrite.Goals as goal

-- by what the reader gave
module _ (text : List ℕ) (room : ℕ) (file : Reading) (e : file ≡ reading text) (buffer : List ℕ) where
  same : file.outcome ≡ (reading text).outcome
  same = ap (λ (f : Reading). f.outcome) e

  with_meaning : {answer : Written} → Rewrites text room answer buffer
      → (answer ≡ rewritten text room) × (buffer ≡ rewritten_buffer text room) × RewriteMeaning text room answer buffer
  with_meaning w = (w.0, w.1, rewrites_mean text room w)

  refused : file.outcome ≢ 0 → buffer ≡ replicate room 0
      → Rewrites text room (record { outcome = file.outcome; length = 0 }) buffer
  refused n b =
      let w = not-read text room (λ z. n (same ∙ z)) in
      ((λ i. record { outcome = same i; length = 0 }) ∙ w.0, b ∙ w.1)

  read : file.outcome ≡ 0 → (answer : Written)
      → answer ≡ written file.set room → buffer ≡ written_buffer file.set room → Rewrites text room answer buffer
  read z answer a b =
      let w = was_read text room (sym same ∙ z) in (
        a ∙ ap (λ (f : Reading). written f.set room) e ∙ w.0,
        b ∙ ap (λ (f : Reading). written_buffer f.set room) e ∙ w.1,
      )

pub returns-then-refusal-ne0 : goal.returns-then-refusal-ne0
returns-then-refusal-ne0 c =
    let text = c.args.text.now in
    let room = length c.args.out.now in
    let zeros = c.fill_from.ensures ∙ filled-whole 0 c.args.out.now in
    with_meaning text room _ c.read-file.ensures.0 _
    (refused text room _ c.read-file.ensures.0 _ c.if-refusal-ne0.true zeros)

pub returns : goal.returns
returns c =
    let text = c.args.text.now in
    let room = length c.args.out.now in
    let out = c.write.ensures in
    with_meaning text room _ c.read-file.ensures.0 _
    (read text room _ c.read-file.ensures.0 _ c.if-refusal-ne0.false _ out.0 out.1)
