-- The C entries on tables: they take the rule text in place of a set, and 1 to 4 of the text come before all else.
use Rattle.std.specs.Prelude.{◌≡◌, ◌≢◌, List, ℕ, replicate}
use Rattle.files_spec.specs.Reading.{reading}
use Rattle.tables_spec.specs.declared.TableSize.{TableSize}
use Rattle.tables_spec.specs.Answers.{table_size, built_buffer}
use Rattle.tables_spec.specs.Answers.{SizeMeaning, BuildMeaning, CheckMeaning}
use Rattle.unions_spec.specs.Unions.{refused_table, build_answer, check_answer, UnionMeaning}
use Rattle.unions_spec.specs.declared.TableAnswer.{TableAnswer}
use Rattle.planner_spec.specs.PackedLength.{packed_length}
use Rattle.planner_spec.specs.OfText.{of_text, TextJudged}

-- how long a table is; a refused text has no length
unfoldable pub text_table_size : List ℕ → ℕ → TableSize
text_table_size text reach = of_text text (λ set. table_size set reach) (λ n. record { outcome = n; length = 0 })

-- the number that the entry gives
unfoldable pub packed_table_size : List ℕ → ℕ → ℕ
packed_table_size text reach = packed_length (text_table_size text reach).outcome (text_table_size text reach).length

-- the builder's answer for a table of `size` bytes; of a refused text its number, and no positions
unfoldable pub text_build_answer : List ℕ → ℕ → ℕ → TableAnswer
text_build_answer text reach size = of_text text (λ set. build_answer set reach size) refused_table

-- the table after the builder; a refused text zeroes it
unfoldable pub text_built_buffer : List ℕ → ℕ → ℕ → List ℕ
text_built_buffer text reach size = of_text text (λ set. built_buffer set reach size) (λ n. replicate size 0)

-- the check's answer, likewise
unfoldable pub text_check_answer : List ℕ → ℕ → List ℕ → TableAnswer
text_check_answer text reach table = of_text text (λ set. check_answer set reach table) refused_table

-- ── What they mean ───────────────────────────────────────────────────────────────────────────────

-- 1 to 4 are the text's faults. Of a refused text its own refusal, and no length, no positions, a table of zeros; of
-- any other what the call on its set means. No entry gives 7: a set that was read is valid.

pub record TextSizeMeaning (text : List ℕ) (reach : ℕ) (answer : TableSize) : Type 0 where
  pub judged : TextJudged text answer.outcome
  pub refused_text : (reading text).outcome ≢ 0 → (answer.outcome ≡ (reading text).outcome) × (answer.length ≡ 0)
  pub read_text : (reading text).outcome ≡ 0 → SizeMeaning (reading text).set reach answer
  pub never7 : answer.outcome ≢ 7

pub record TextBuildMeaning (text : List ℕ) (reach size : ℕ) (answer : TableAnswer) (table : List ℕ) : Type 0 where
  pub judged : TextJudged text answer.outcome
  pub refused_text : (reading text).outcome ≢ 0
      → (answer ≡ refused_table (reading text).outcome) × (table ≡ replicate size 0)
  pub read_text : (reading text).outcome ≡ 0
      → BuildMeaning (reading text).set reach size answer.outcome table
      × UnionMeaning (reading text).set reach table answer
  pub never7 : answer.outcome ≢ 7

pub record TextCheckMeaning (text : List ℕ) (reach : ℕ) (table : List ℕ) (answer : TableAnswer) : Type 0 where
  pub judged : TextJudged text answer.outcome
  pub refused_text : (reading text).outcome ≢ 0 → answer ≡ refused_table (reading text).outcome
  pub read_text : (reading text).outcome ≡ 0
      → CheckMeaning (reading text).set reach table answer.outcome
      × UnionMeaning (reading text).set reach table answer
  pub never7 : answer.outcome ≢ 7
