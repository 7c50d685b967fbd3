-- One mark of a table: what the test of it on vectors tells, and which positions its sequence reads and writes.
-- Assumes nothing.
use mathlib.Core.Path.{◌≡◌, sym, ap, ap₂, ◌∙◌}
use mathlib.Core.Logic.{◌≢◌, ⊎_elim}
use mathlib.Core.Bool.{Bool, true, false, ◌&&◌}
use mathlib.Core.List.{List}
use Prim.Native.Nat.{ℕ, ◌≤◌, ◌<◌}
use native.Mathlib.Omega.{arith}
use lib.Dec.{ltb}
use borrow.Author.Tests.{eq-eqb, ne_eqb, lt-ltb, le-ltb}
use Rattle.theory_spec.proofs.TestLaws.{below?}
use Rattle.model_spec.specs.Rules.{sequence_cost, redundant}
use Rattle.model_spec.specs.Validity.{WellFormed}
use Rattle.model_spec.specs.declared.RuleSet.{RuleSet}
use Rattle.macros_spec.specs.Answers.{touched_in}
use Rattle.macros_spec.specs.Composition.{composed, as_vectors, lines_of}
use Rattle.macros_spec.specs.Redundancy.{redundant_by_lines}
use Rattle.macros_spec.specs.declared.Vectors.{Vectors}
use Rattle.macros_spec.specs.How.Touching.{wide_positions, touched_within}
use Rattle.macros_spec.proofs.CoverLaws.{redundant_by-lines}
use Rattle.macros_spec.proofs.ExtensionLaws.{lines_vectors}
use Rattle.macros_spec.proofs.TouchedLaws.{touched-within}
use Rattle.tables_spec.specs.Table.{table_entries, sequence_at, kept, entry_at, entry_justified}
use Rattle.tables_spec.proofs.TableLaws.{index_sequence}
use Rattle.tables_laws.specs.How.ShortSequences.{short_sequence}
use Rattle.tables_laws.proofs.SequenceLoopLaws.{near_at}

module _ (set : RuleSet) (valid : WellFormed set) (reach : ℕ) (near : reach ≤ 3)
    (i : ℕ) (h : i < table_entries set reach)
    (vectors : Vectors) (v : vectors ≡ as_vectors (composed set (short_sequence set.count i))) where
  -- the vectors of an index are those of its sequence
  own-lines : lines_of vectors ≡ composed set (sequence_at set reach i)
  own-lines =
      ap lines_of v ∙ lines_vectors (composed set (short_sequence set.count i))
      ∙ ap (composed set) (near_at set valid reach near i h)

  -- what they read and write is what the sequence does
  pub own_touched : (wide : ℕ) → wide ≡ wide_positions set
      → touched_within wide (lines_of vectors) ≡ touched_in set (sequence_at set reach i)
  unfolding touched_in
  own_touched wide w = ap₂ touched_within w own-lines ∙ touched-within set (composed set (sequence_at set reach i))

  module _ (table : List ℕ) (entry : ℕ) (e : entry ≡ entry_at table i) (marked : entry ≢ kept) (cost : ℕ)
      (c : cost ≡ sequence_cost set (short_sequence set.count i)) where
    -- a mark that names a smaller index, by redundancy with the sequence there
    smaller : entry < i
        → redundant_by_lines set (lines_of vectors) cost (short_sequence set.count entry)
        ≡ entry_justified set reach table i
    unfolding entry_justified
    smaller l =
        let k : entry < table_entries set reach = omega arith in
        ap₂ (λ lines n. redundant_by_lines set lines n (short_sequence set.count entry)) own-lines
        (c ∙ ap (sequence_cost set) (near_at set valid reach near i h))
        ∙ ap (redundant_by_lines set (composed set (sequence_at set reach i)) (sequence_cost set (sequence_at set reach i)))
        (near_at set valid reach near entry k)
        ∙ redundant_by-lines set valid (sequence_at set reach i) (sequence_at set reach entry)
        (index_sequence set reach i h).1 (index_sequence set reach entry k).1
        ∙ ap (λ n. redundant set (sequence_at set reach i) (sequence_at set reach n)) e
        ∙ sym (rw (ne_eqb (entry_at table i) kept (λ k. marked (e ∙ k)), lt-ltb (entry_at table i) i (omega arith)))

    -- one that does not is not justified
    not_smaller : i ≤ entry → false ≡ entry_justified set reach table i
    unfolding entry_justified
    not_smaller l =
        sym (rw (ne_eqb (entry_at table i) kept (λ k. marked (e ∙ k)), le-ltb (entry_at table i) i (omega arith)))

    -- the test of the mark at i
    pub mark_tested : (r : Bool)
        → r ≡ (ltb entry i && redundant_by_lines set (lines_of vectors) cost (short_sequence set.count entry))
        → r ≡ entry_justified set reach table i
    mark_tested r t =
        t
        ∙ ⊎_elim (λ l. rw (lt-ltb entry i l) (smaller l)) (λ l. rw (le-ltb entry i l) (not_smaller l)) (below? entry i)

-- an entry that keeps its sequence is justified
pub kept-justified : (set : RuleSet) (reach : ℕ) (table : List ℕ) (i : ℕ) → entry_at table i ≡ kept
    → entry_justified set reach table i ≡ true
unfolding entry_justified
kept-justified set reach table i e = rw (eq-eqb (entry_at table i) kept e)
