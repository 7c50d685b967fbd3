-- The marks of a listing: which indices they are, and which positions their sequences read and write.
-- Assumes nothing.
use mathlib.Core.Path.{◌≡◌, refl, sym, ap, ◌∙◌, subst}
use mathlib.Core.Logic.{◌↔◌, ◌≢◌}
use mathlib.Core.Bool.{Bool, true, not}
use mathlib.Core.List.{[]}
use Prim.Native.Nat.{ℕ, ◌-◌, ◌≤◌, ◌<◌}
use native.Mathlib.Omega.{arith}
use lib.Dec.{eqb}
use Rattle.theory_spec.specs.Lists.{◌∈◌, Pairwise, numbers_from}
use Rattle.theory_spec.specs.Sets.{has}
use Rattle.theory_spec.specs.Sequences.{Sequence}
use Rattle.theory_spec.proofs.ListLaws.{in-keep, of-keep, keep_none, pairwise-keep, of-numbers_from, in-numbers_from}
use Rattle.theory_spec.proofs.TestLaws.{eqb_iff, not_iff}
use Rattle.theory_spec.proofs.SetLaws.{has_none}
use Rattle.model_spec.specs.Validity.{WellFormed}
use Rattle.model_spec.specs.declared.RuleSet.{RuleSet}
use Rattle.macros_spec.specs.Answers.{touched_in, SequenceReads, SequenceWrites}
use Rattle.macros_spec.specs.declared.Touched.{Touched}
use Rattle.macros_spec.proofs.SequenceTouchLaws.{denied-untouched, reads_iff, writes_iff}
use Rattle.tables_spec.specs.Table.{table_entries, sequence_at, kept, built_entry, Prunable, LeastWitness}
use Rattle.tables_spec.proofs.TableLaws.{index_sequence, sequence-index, built-least, built-mark_iff}
use Rattle.report_spec.specs.Listing.{marked_indices, positions_of, mark_lines}
use Rattle.report_spec.specs.Report.{Listed, ExactlyThose, MarkMeaning}
use Rattle.report_spec.proofs.ListLaws.{increase}

-- the positions of a set, in rising order, are those of its members
positions_exactly : (m : ℕ) (P : ℕ → Type 0) → ((k : ℕ) → k < 16 → (has m k ≡ true) ↔ P k)
    → ExactlyThose P (positions_of m)
positions_exactly m P w = (pairwise-keep (λ i j. i < j) test (numbers_from 1 16) (increase 1 16), λ n. (down n, up n))
  where
    test : ℕ → Bool
    test n = has m (n - 1)

    down : (n : ℕ) → n ∈ positions_of m → (1 ≤ n) × (n ≤ 16) × P (n - 1)
    down n d =
        let v = of-keep test (numbers_from 1 16) d in
        let limits = of-numbers_from 1 16 v.0 in
        (limits.0, omega (arith, limits.1), (w (n - 1) (omega (arith, limits))).0 v.1)

    up : (n : ℕ) → (1 ≤ n) × (n ≤ 16) × P (n - 1) → n ∈ positions_of m
    up n v =
        in-keep test (in-numbers_from 1 16 n v.0 (omega (arith, v.1)))
        ((w (n - 1) (omega (arith, v.0, v.1))).1 v.2)

-- the empty set has none
no_positions : positions_of 0 ≡ []
no_positions = keep_none (λ n. has 0 (n - 1)) (numbers_from 1 16) (λ n _. has_none (n - 1))

module _ (set : RuleSet) where
  -- ── Which indices are marked ───────────────────────────────────────────────────────────────────

  -- those whose entry is not 65535
  pub marked-entry_iff : (i : ℕ) → (i ∈ marked_indices set) ↔ ((i < table_entries set 2) × (built_entry set 2 i ≢ kept))
  unfolding marked_indices
  marked-entry_iff i = (
    λ d. let w =
        of-keep test (numbers_from 0 (table_entries set 2)) d in
        (omega (arith, of-numbers_from 0 (table_entries set 2) w.0), passes.0 w.1),
    λ w. in-keep test (in-numbers_from 0 (table_entries set 2) i (omega arith) (omega (arith, w.0))) (passes.1 w.1),
  )
    where
      test : ℕ → Bool
      test j = not (eqb (built_entry set 2 j) kept)

      passes : (test i ≡ true) ↔ (built_entry set 2 i ≢ kept)
      passes = not_iff _ (eqb_iff (built_entry set 2 i) kept)

  -- in rising order
  pub marked_rise : Pairwise (λ i j. i < j) (marked_indices set)
  unfolding marked_indices
  marked_rise = pairwise-keep (λ i j. i < j) _ (numbers_from 0 (table_entries set 2)) (increase 0 (table_entries set 2))

  -- each with the smallest index that will do
  pub marked-least : (i : ℕ) → i ∈ marked_indices set → LeastWitness set 2 i (built_entry set 2 i)
  marked-least i d = let w = (marked-entry_iff i).0 d in built-least set 2 i w.0 w.1

  -- its lines, and the positions that its sequence reads and writes
  pub marked-lines : WellFormed set → (i : ℕ) → i ∈ marked_indices set → MarkMeaning set i
  unfolding mark_lines
  marked-lines formed i d =
      let own = sequence_at set 2 i in
      let numbered = (index_sequence set 2 i ((marked-entry_iff i).0 d).0).1 in
      let reads = (touched_in set own).reads in
      let writes = (touched_in set own).writes in record {
        reads = positions_of reads;
        writes = positions_of writes;
        lines = refl;
        reads_exactly = positions_exactly reads (SequenceReads set own) (reads_iff set formed own numbered);
        writes_exactly = positions_exactly writes (SequenceWrites set own) (writes_iff set formed own numbered);
        denied = λ e. let nothing = denied-untouched set formed own numbered e in (
          ap (λ (t : Touched). positions_of t.reads) nothing ∙ no_positions,
          ap (λ (t : Touched). positions_of t.writes) nothing ∙ no_positions,
        );
      }

  module _ (few : set.count ≤ 31) where
    -- exactly those of prunable sequences
    pub marked-prunable_iff : (i : ℕ) → (i ∈ marked_indices set)
        ↔ ((i < table_entries set 2) × Prunable set 2 (sequence_at set 2 i))
    marked-prunable_iff i = (
      λ d. let w = (marked-entry_iff i).0 d in (w.0, (built-mark_iff set 2 few (omega arith) i w.0).0 w.1),
      λ w. (marked-entry_iff i).1 (w.0, (built-mark_iff set 2 few (omega arith) i w.0).1 w.1),
    )

    -- so exactly the prunable sequences are listed
    pub listed_iff : (q : Sequence) → Listed set q ↔ Prunable set 2 q
    listed_iff q = (λ w. subst (Prunable set 2) w.2 ((marked-prunable_iff w.0).0 w.1).1, up)
      where
        up : Prunable set 2 q → Listed set q
        up p =
            let w = sequence-index set 2 q p.short p.rules in
            (w.0, (marked-prunable_iff w.0).1 (w.1, subst (Prunable set 2) (sym w.2) p), w.2)
