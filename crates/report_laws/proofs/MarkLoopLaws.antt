-- The lines of an entry, and the turns of the loops over the entries of a table: those from place i on remain, for
-- their number and for their lines.
-- Assumes nothing.
use mathlib.Core.Path.{◌≡◌, refl, ap}
use mathlib.Core.Bool.{Bool, true, false, cond}
use mathlib.Core.Logic.{◌≢◌}
use mathlib.Core.List.{List, [], ◌∷◌, ◌++◌}
use Prim.Native.Nat.{ℕ, zero, suc, ◌+◌, ◌-◌, ◌/◌, ◌≤◌, ◌<◌}
use native.Mathlib.Numerals.{add-one}
use native.Mathlib.Omega.{arith}
use lib.ListN.{length}
use borrow.Author.Tests.{eq-eqb, ne_eqb}
use Rattle.std.specs.List.{filter, range_with_len}
use Rattle.theory_spec.specs.Lists.{keep_if, keep, flat, numbers_from}
use Rattle.model_spec.proofs.LoopLaws.{left_more, left_none}
use Rattle.model_spec.specs.declared.RuleSet.{RuleSet}
use Rattle.files_spec.specs.Text.{bytes, line_feed, line}
use Rattle.tables_spec.specs.Table.{kept, entry_at}
use Rattle.report_spec.specs.Listing.{position_items}
use Rattle.report_laws.specs.How.Marks.{marks, table_marks, sequence_text, index_touched, mark_text, entry_lines}
use Rattle.report_laws.specs.How.Marks.{marks_text}

-- ── One entry ────────────────────────────────────────────────────────────────────────────────────

module _ (set : RuleSet) (i entry : ℕ) where
  -- a sequence that is kept has no lines
  pub entry_kept : entry ≡ kept → entry_lines set i entry ≡ []
  unfolding entry_lines
  entry_kept e = rw (eq-eqb entry kept e)

  -- a mark has four
  pub entry-marked : entry ≢ kept → entry_lines set i entry
      ≡ bytes "drop=" ++ sequence_text set.count i ++ (line_feed ∷ [])
      ++ (bytes "for=" ++ sequence_text set.count entry ++ (line_feed ∷ []))
      ++ line "reads=" (position_items (index_touched set i).reads)
      ++ line "moves=" (position_items (index_touched set i).writes)
  unfolding entry_lines mark_text
  entry-marked h = rw (ne_eqb entry kept h)

-- ── All entries ──────────────────────────────────────────────────────────────────────────────────

module _ (table : List ℕ) where
  -- the marks, as a chain of iterators gives them
  pub marks-filtered : filter (marks table) (range_with_len 0 (length table / 2)) ≡ table_marks table
  unfolding table_marks
  marks-filtered = go 0 (length table / 2)
    where
      take_or_pass : (b : Bool) (i : ℕ) (l m : List ℕ) → l ≡ m → cond b (i ∷ l) l ≡ keep_if b i m
      take_or_pass true i l m e = ap (◌∷◌ i) e
      take_or_pass false i l m e = e

      go : (i n : ℕ) → filter (marks table) (range_with_len i n) ≡ keep (marks table) (numbers_from i n)
      go i zero = refl
      go i (suc n) = take_or_pass (marks table i) i _ _ (rw (add-one i) (go (suc i) n))

  module _ (set : RuleSet) where
    -- the lines of the entries from place i on
    abbrev pub lines_from : ℕ → List ℕ
    lines_from i = flat (λ j. entry_lines set j (entry_at table j)) (numbers_from i (length table / 2 - i))

    pub lines_all : lines_from 0 ≡ marks_text set table
    unfolding marks_text
    lines_all = let e : length table / 2 - 0 ≡ length table / 2 = omega arith in rw e

    -- those of the entry at i come first
    pub lines_more : (i entry : ℕ) → i < length table / 2 → entry ≡ entry_at table i
        → lines_from i ≡ entry_lines set i entry ++ lines_from (i + 1)
    lines_more i entry h e = rw (left_more i (length table / 2) h, e)

    pub lines_end : (i : ℕ) → length table / 2 ≤ i → lines_from i ≡ []
    lines_end i h = rw (left_none i (length table / 2) h)
