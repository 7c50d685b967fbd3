-- What the builder and the check tell beside their outcome: the positions that the marked sequences of the table read
-- and write, taken together.
use Rattle.std.specs.Prelude.{◌≡◌, ◌↔◌, ◌≢◌, true, not, cond, List, map, ℕ, ◌<◌, eqb}
use Rattle.theory_spec.specs.Lists.{any, keep, numbers_from}
use Rattle.theory_spec.specs.Sets.{has, set_of}
use Rattle.theory_spec.specs.Sequences.{Sequence}
use Rattle.model_spec.specs.Limits.{place_count}
use Rattle.model_spec.specs.declared.RuleSet.{RuleSet}
use Rattle.macros_spec.specs.Touched.{untouched}
use Rattle.macros_spec.specs.Answers.{touched_in, SequenceReads, SequenceWrites}
use Rattle.macros_spec.specs.declared.Touched.{Touched}
use Rattle.tables_spec.specs.Table.{table_entries, sequence_at, kept, entry_at, built_table, Marked}
use Rattle.tables_spec.specs.Answers.{build_outcome, check_outcome}
use Rattle.unions_spec.specs.declared.TableAnswer.{TableAnswer}

-- the marked sequences of a table, in the order of their indices
unfoldable pub marked_sequences : RuleSet → ℕ → List ℕ → List Sequence
marked_sequences set reach table =
    map (sequence_at set reach)
    (keep (λ k. not (eqb (entry_at table k) kept)) (numbers_from 0 (table_entries set reach)))

-- the positions that some marked sequence has in one of its two sets
unfoldable pub union_of : (Touched → ℕ) → RuleSet → ℕ → List ℕ → ℕ
union_of part set reach table =
    set_of (λ i. any (λ q. has (part (touched_in set q)) i) (marked_sequences set reach table)) place_count

-- both unions
unfoldable pub table_touched : RuleSet → ℕ → List ℕ → Touched
table_touched set reach table = record {
  reads = union_of (λ t. t.reads) set reach table;
  writes = union_of (λ t. t.writes) set reach table;
}

-- a refusal: no positions
abbrev pub refused_table : ℕ → TableAnswer
refused_table outcome = record { outcome = outcome; touched = untouched }

-- the answer with an outcome: both unions, which are empty when refused
abbrev pub answer_with : RuleSet → ℕ → List ℕ → ℕ → TableAnswer
answer_with set reach table outcome = record {
  outcome = outcome;
  touched = cond (eqb outcome 0) (table_touched set reach table) untouched;
}

-- the builder's answer for a table of `size` bytes: of the built table
unfoldable pub build_answer : RuleSet → ℕ → ℕ → TableAnswer
build_answer set reach size = answer_with set reach (built_table set reach) (build_outcome set reach size)

-- the check's answer: of the table that it is given
unfoldable pub check_answer : RuleSet → ℕ → List ℕ → TableAnswer
check_answer set reach table = answer_with set reach table (check_outcome set reach table)

-- ── What it means ────────────────────────────────────────────────────────────────────────────────

-- what an answer tells of the table that was built or given: a position is in a union exactly if some marked sequence
-- has it, and a sequence that no state admits has none; the sets have no seventeenth digit; and a refusal tells nothing
pub record UnionMeaning (set : RuleSet) (reach : ℕ) (table : List ℕ) (answer : TableAnswer) : Type 0 where
  pub reads : answer.outcome ≡ 0 → (i : ℕ) → i < place_count
      → (has answer.touched.reads i ≡ true)
      ↔ ((q : Sequence) × Marked set reach table q × SequenceReads set q i)
  pub writes : answer.outcome ≡ 0 → (i : ℕ) → i < place_count
      → (has answer.touched.writes i ≡ true)
      ↔ ((q : Sequence) × Marked set reach table q × SequenceWrites set q i)
  pub sixteen : (answer.touched.reads < 65536) × (answer.touched.writes < 65536)
  pub refused : answer.outcome ≢ 0 → answer.touched ≡ untouched
