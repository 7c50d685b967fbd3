-- The listing from the bytes of the built table: the same marks, the same lines.
-- Assumes nothing.
use mathlib.Core.Path.{◌≡◌, refl, ap, ◌∙◌}
use mathlib.Core.Logic.{◌≢◌}
use mathlib.Core.Bool.{Bool, true, false, not, cond}
use mathlib.Core.List.{[]}
use Prim.Native.Nat.{ℕ, ◌/◌, ◌≤◌, ◌<◌}
use native.Mathlib.Omega.{arith}
use lib.Dec.{eqb}
use lib.ListN.{length}
use borrow.Author.Tests.{eqb-false}
use Rattle.theory_spec.specs.Lists.{flat, numbers_from}
use Rattle.theory_spec.proofs.ListLaws.{flat-same, of-numbers_from}
use Rattle.model_spec.specs.Validity.{WellFormed}
use Rattle.model_spec.specs.declared.RuleSet.{RuleSet}
use Rattle.files_spec.specs.Text.{line}
use Rattle.macros_spec.specs.Answers.{touched_in}
use Rattle.tables_spec.specs.Table.{table_entries, sequence_at, kept, entry_at, built_entry, built_table}
use Rattle.tables_spec.proofs.TableLaws.{built-entry, built-length, built-least}
use Rattle.tables_laws.proofs.SequenceLoopLaws.{near_at}
use Rattle.output_laws.proofs.OverlayLaws.{shown-number}
use Rattle.report_spec.specs.Listing.{marked_indices, mark_lines, listing_of}
use Rattle.report_laws.specs.How.Marks.{marks, table_marks, index_touched, mark_text, entry_lines, marks_text}
use Rattle.report_laws.specs.How.Marks.{table_text}
use Rattle.report_spec.proofs.ListLaws.{keep_same, flat_keep}
use Rattle.report_laws.proofs.SequenceTextLaws.{text_at}

module _ (set : RuleSet) where
  entry_count : length (built_table set 2) / 2 ≡ table_entries set 2
  entry_count = omega (arith, built-length set 2)

  -- the indices that the table marks
  table-marks : table_marks (built_table set 2) ≡ marked_indices set
  unfolding table_marks marked_indices
  table-marks =
      rw entry_count
      (keep_same (marks (built_table set 2)) (λ i. not (eqb (built_entry set 2 i) kept))
      (numbers_from 0 (table_entries set 2))
      (λ i d. ap (λ n. not (eqb n kept)) (built-entry set 2 i
      (omega (arith, of-numbers_from 0 (table_entries set 2) d)))))

  module _ (formed : WellFormed set) where
    -- what the sequence of an index reads and writes
    touched_at_lem : (i : ℕ) → i < table_entries set 2 → index_touched set i ≡ touched_in set (sequence_at set 2 i)
    unfolding index_touched
    touched_at_lem i h = ap (touched_in set) (near_at set formed 2 (omega arith) i h)

    -- the lines of a mark
    mark-lines : (i : ℕ) → i < table_entries set 2 → built_entry set 2 i ≢ kept
        → mark_text set i (built_entry set 2 i) ≡ mark_lines set i
    unfolding mark_text mark_lines line
    mark-lines i h m =
        let some = formed.count_limits.0 in
        rw (
          text_at set some i h,
          text_at set some (built_entry set 2 i) (omega (arith, (built-least set 2 i h m).0)),
          touched_at_lem i h,
        )

    -- the lines of an entry
    entry-lines : (i : ℕ) → i < table_entries set 2
        → entry_lines set i (entry_at (built_table set 2) i)
        ≡ cond (not (eqb (built_entry set 2 i) kept)) (mark_lines set i) []
    unfolding entry_lines
    entry-lines i h = rw (built-entry set 2 i h) (go (eqb (built_entry set 2 i) kept) refl)
      where
        go : (b : Bool) → eqb (built_entry set 2 i) kept ≡ b
            → cond b [] (mark_text set i (built_entry set 2 i)) ≡ cond (not b) (mark_lines set i) []
        go true e = refl
        go false e = mark-lines i h (eqb-false (built_entry set 2 i) kept e)

    -- the lines of all marks
    marks-lines : marks_text set (built_table set 2) ≡ flat (mark_lines set) (marked_indices set)
    unfolding marks_text marked_indices
    marks-lines =
        rw entry_count
        (flat-same (λ i. entry_lines set i (entry_at (built_table set 2) i))
        (λ i. cond (not (eqb (built_entry set 2 i) kept)) (mark_lines set i) [])
        (numbers_from 0 (table_entries set 2))
        (λ i d. entry-lines i (omega (arith, of-numbers_from 0 (table_entries set 2) d)))
        ∙ flat_keep (λ i. not (eqb (built_entry set 2 i) kept)) (mark_lines set) (numbers_from 0 (table_entries set 2)))

    -- the listing, where the number of marks has at most three digits
    pub table-listing : length (marked_indices set) ≤ 999 → table_text set (built_table set 2) ≡ listing_of set
    unfolding table_text listing_of
    table-listing few = rw (table-marks, marks-lines, shown-number (length (marked_indices set)) few)
