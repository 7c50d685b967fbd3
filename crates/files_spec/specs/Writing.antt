-- The writer: the file of a set, into a buffer that the caller lends.
use Rattle.std.specs.Prelude.{not, cond, List, [], ◌∷◌, ℕ, ltb, eqb, length}
use Rattle.theory_spec.specs.Lists.{padded}
use Rattle.model_spec.specs.Refusals.{Cause, first_refusal}
use Rattle.model_spec.specs.Validity.{valid}
use Rattle.model_spec.specs.declared.RuleSet.{RuleSet}
use Rattle.files_spec.specs.File.{render}
use Rattle.files_spec.specs.declared.Written.{Written}

-- the writer's causes, for a buffer of `room` bytes: the set is not valid; the buffer is shorter than the file
unfoldable pub write_causes : RuleSet → ℕ → List Cause
write_causes set room = (7, not (valid set)) ∷ (8, ltb room (length (render set))) ∷ []

-- what the buffer gets: the file, or nothing when refused
unfoldable pub written_text : RuleSet → ℕ → List ℕ
written_text set room = cond (eqb (first_refusal (write_causes set room)) 0) (render set) []

-- the writer's answer
unfoldable pub written : RuleSet → ℕ → Written
written set room = record { outcome = first_refusal (write_causes set room); length = length (written_text set room) }

-- the buffer after the call: the text, then zeros
unfoldable pub written_buffer : RuleSet → ℕ → List ℕ
written_buffer set room = padded room 0 (written_text set room)
