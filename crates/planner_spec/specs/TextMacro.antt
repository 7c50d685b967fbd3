-- The C entry of the macro call: it takes the rule text in place of a set, and leaves the macro, and the positions that
-- it reads and writes, as bytes.
use Rattle.std.specs.Prelude.{◌≡◌, ◌↔◌, ◌≢◌, cond, List, [], ◌∷◌, ◌++◌, ℕ, ◌≤◌, ◌<◌, ltb, eqb, take, drop, replicate}
use Rattle.theory_spec.specs.Lists.{padded}
use Rattle.model_spec.specs.Limits.{place_count}
use Rattle.model_spec.specs.Refusals.{Cause, first_refusal}
use Rattle.model_spec.specs.declared.RuleSet.{RuleSet}
use Rattle.files_spec.specs.Reading.{reading}
use Rattle.macros_spec.specs.Answers.{macro_causes, refused_macro, macro_with, Judged, Admitted, Meaning}
use Rattle.macros_spec.specs.declared.Macro.{Macro}
use Rattle.macros_spec.specs.declared.MacroAnswer.{MacroAnswer}
use Rattle.macros_spec.specs.declared.Touched.{Touched}
use Rattle.tables_spec.specs.Table.{entry_at, entry_bytes}
use Rattle.planner_spec.specs.OfText.{of_text, TextJudged}

-- ── A macro's bytes ──────────────────────────────────────────────────────────────────────────────

-- condition, effect, and in two bytes each, as an entry of a table, low byte first: the cost, the positions read and
-- the positions written
unfoldable pub macro_bytes : Macro → Touched → List ℕ
macro_bytes m touched =
    m.condition
    ++ (m.effect ++ (entry_bytes m.cost ++ (entry_bytes touched.reads ++ entry_bytes touched.writes)))

-- how many these are
abbrev pub macro_size : ℕ
macro_size = 38

-- the macro that stands at the front of a buffer: the cost is in the two bytes behind the vectors
unfoldable pub macro_of : List ℕ → Macro
macro_of buffer = record {
  condition = take place_count buffer;
  effect = take place_count (drop place_count buffer);
  cost = entry_at buffer place_count;
}

-- and the two sets behind it
unfoldable pub touched_at : List ℕ → Touched
touched_at buffer = record { reads = entry_at buffer 17; writes = entry_at buffer 18 }

-- ── What the call gives and leaves ───────────────────────────────────────────────────────────────

-- the causes with a buffer of `room` bytes: those of the macro call, and last that the buffer is shorter than a macro
unfoldable pub room_causes : RuleSet → List ℕ → ℕ → List Cause
room_causes set moves room = macro_causes set moves ++ ((8, ltb room macro_size) ∷ [])

-- the answer: the text's refusal with a macro of zeros, else the set's answer
unfoldable pub text_macro : List ℕ → List ℕ → ℕ → MacroAnswer
text_macro text moves room =
    of_text text (λ set. macro_with set moves (first_refusal (room_causes set moves room)))
    refused_macro

-- a buffer of `room` bytes after an answer: the macro's bytes and zeros after them; zeros alone when refused
unfoldable pub macro_buffer : ℕ → MacroAnswer → List ℕ
macro_buffer room answer =
    cond (eqb answer.outcome 0) (padded room 0 (macro_bytes answer.result answer.touched)) (replicate room 0)

-- ── What it means ────────────────────────────────────────────────────────────────────────────────

-- what the entry tells and leaves in a buffer of `room` bytes
pub record TextMacroMeaning (text moves : List ℕ) (room outcome : ℕ) (buffer : List ℕ) : Type 0 where
  -- 1 to 4 are the text's faults
  pub judged : TextJudged text outcome
  -- of a refused text its own refusal
  pub refused_text : (reading text).outcome ≢ 0 → outcome ≡ (reading text).outcome
  -- 8 exactly if nothing else is wrong and the buffer is shorter than a macro
  pub short_buffer : (outcome ≡ 8)
      ↔ (((reading text).outcome ≡ 0)
      × Judged (reading text).set moves
      × Admitted (reading text).set moves
      × (room < macro_size))
  -- of a text that is read any other outcome has the meaning of the macro call on its set, and so has the macro whose
  -- bytes the buffer holds
  pub read_text : (reading text).outcome ≡ 0 → outcome ≢ 8
      → (answer : MacroAnswer)
      × (answer.outcome ≡ outcome)
      × (buffer ≡ macro_buffer room answer)
      × Meaning (reading text).set moves answer
  -- which can be read back where there is room for it
  pub read_back : (reading text).outcome ≡ 0 → macro_size ≤ room
      → Meaning (reading text).set moves
      (record { outcome = outcome; result = macro_of buffer; touched = touched_at buffer })
  -- a refusal leaves zeros
  pub zeros : outcome ≢ 0 → buffer ≡ replicate room 0
  -- a set that was read is valid
  pub never7 : outcome ≢ 7
