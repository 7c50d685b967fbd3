-- A rule file read and written again.
use Rattle.std.specs.Prelude.{◌≡◌, ◌↔◌, ◌≢◌, List, ℕ, ◌≤◌, ◌<◌, length, replicate}
use Rattle.theory_spec.specs.Lists.{padded}
use Rattle.files_spec.specs.Reading.{reading, Faultless}
use Rattle.files_spec.specs.Writing.{written, written_buffer}
use Rattle.files_spec.specs.declared.Written.{Written}
use Rattle.planner_spec.specs.PackedLength.{packed_length}
use Rattle.planner_spec.specs.OfText.{of_text, TextJudged}

-- the answer for a buffer of `room` bytes: the reader's refusal, 1 to 4, with length 0; else the writer's answer
unfoldable pub rewritten : List ℕ → ℕ → Written
rewritten text room = of_text text (λ set. written set room) (λ n. record { outcome = n; length = 0 })

-- the buffer after the call: zeros for a text that is not read; else what the writer leaves
unfoldable pub rewritten_buffer : List ℕ → ℕ → List ℕ
rewritten_buffer text room = of_text text (λ set. written_buffer set room) (λ n. replicate room 0)

-- the number that the entry gives
unfoldable pub packed_rewritten : List ℕ → ℕ → ℕ
packed_rewritten text room = packed_length (rewritten text room).outcome (rewritten text room).length

-- ── As a statement ───────────────────────────────────────────────────────────────────────────────

-- what the answer and the buffer mean
pub record RewriteMeaning (text : List ℕ) (room : ℕ) (answer : Written) (buffer : List ℕ) : Type 0 where
  -- 0 exactly if the text has no fault and fits the buffer; then the buffer holds the text itself, and zeros after it
  pub again : (answer.outcome ≡ 0) ↔ (Faultless text × (length text ≤ room))
  pub same_text : answer.outcome ≡ 0 → (answer.length ≡ length text) × (buffer ≡ padded room 0 text)
  -- 8 exactly if it has no fault and is longer than the buffer
  pub too_long : (answer.outcome ≡ 8) ↔ (Faultless text × (room < length text))
  -- 1 to 4 are the text's faults, exactly as the reader gives them
  pub judged : TextJudged text answer.outcome
  pub as_read : (n : ℕ) → 1 ≤ n → n ≤ 4 → (answer.outcome ≡ n) ↔ ((reading text).outcome ≡ n)
  -- when refused, no length and zeros throughout
  pub no_text : answer.outcome ≢ 0 → (answer.length ≡ 0) × (buffer ≡ replicate room 0)
  -- a set that was read is valid
  pub never7 : answer.outcome ≢ 7
