-- Demand 2's second sentence, of what the calls give: a rule file read and written again in full is the same file, and
-- a rule set written and read again is the same set.
-- Assumes nothing.
use mathlib.Core.Path.{◌≡◌, sym, ap, subst, ◌∙◌}
use mathlib.Core.List.{List}
use Prim.Native.Nat.{ℕ, ◌-◌, ◌≤◌}
use lib.ListN.{length, take, replicate}
use lib.Seq.{take-append_seam}
use borrow.Author.Tests.{eq-eqb}
use Rattle.theory_spec.specs.Lists.{padded}
use Rattle.model_spec.specs.Refusals.{first_refusal}
use Rattle.model_spec.specs.declared.RuleSet.{RuleSet}
use Rattle.files_spec.specs.File.{render}
use Rattle.files_spec.specs.Reading.{ReadAs}
use Rattle.files_spec.specs.Writing.{write_causes, written_text, written, written_buffer}
use Rattle.files_spec.proofs.RoundTrip.{written_read, read-written}
use Rattle.files_spec.proofs.WriterLaws.{writes_iff}

-- what is written, if nothing is refused, is the file
pub file-text : (set : RuleSet) (room : ℕ) → (written set room).outcome ≡ 0 → written_text set room ≡ render set
unfolding written written_text
file-text set room e = rw (eq-eqb (first_refusal (write_causes set room)) 0 e)

-- a rule file read and written again in full is the same file: the buffer holds the text, then zeros
pub file-again : (text : List ℕ) (set : RuleSet) (room : ℕ) → ReadAs text set → length text ≤ room
    → (written set room ≡ record { outcome = 0; length = length text }) × (written_buffer set room ≡ padded room 0 text)
unfolding written written_buffer
file-again text set room p h =
    let w = read-written text set p in
    let e = (writes_iff set room).1 (w.0, subst (λ t. length t ≤ room) (sym w.1) h) in
    let t = file-text set room e ∙ w.1 in
    (λ i. record { outcome = e i; length = length (t i) }, ap (padded room 0) t)

-- a rule set written and read again is the same set: read what the buffer holds, as long as the writer says
pub set-again : (set : RuleSet) (room : ℕ) → (written set room).outcome ≡ 0
    → ReadAs (take (written set room).length (written_buffer set room)) set
unfolding written written_buffer
set-again set room e =
    let front = take-append_seam (written_text set room) (replicate (room - length (written_text set room)) 0) in
    subst (λ t. ReadAs t set) (sym (front ∙ file-text set room e)) (written_read set ((writes_iff set room).0 e).0)
