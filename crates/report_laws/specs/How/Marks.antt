-- A listing by the bytes of a table and a set, as the functions lay it, for any of both. No answer mentions it: the law
-- `table-listing` says that of the built table it is the listing.
use Rattle.std.specs.Prelude.{Bool, not, cond, List, [], ◌∷◌, ◌++◌, map, ℕ, ◌/◌, max, eqb, length}
use Rattle.theory_spec.specs.Lists.{keep, flat, numbers_from}
use Rattle.theory_spec.specs.How.Indices.{sequence_of}
use Rattle.model_spec.specs.declared.RuleSet.{RuleSet}
use Rattle.files_spec.specs.Text.{bytes, line_feed, numeral, comma_list, line}
use Rattle.output_laws.specs.How.Overlay.{shown_numeral}
use Rattle.macros_spec.specs.Answers.{touched_in}
use Rattle.macros_spec.specs.declared.Touched.{Touched}
use Rattle.tables_spec.specs.Table.{kept, entry_at}
use Rattle.tables_laws.specs.How.ShortSequences.{short_sequence}
use Rattle.report_spec.specs.Listing.{position_items}

-- entry i of a table marks its sequence
abbrev pub marks : List ℕ → ℕ → Bool
marks table i = not (eqb (entry_at table i) kept)

-- the indices that a table marks, in order
unfoldable pub table_marks : List ℕ → List ℕ
table_marks table = keep (marks table) (numbers_from 0 (length table / 2))

-- the rule numbers of the sequence of an index, of at most two of m rules, of one rule where there is none
unfoldable pub sequence_text : ℕ → ℕ → List ℕ
sequence_text m i = comma_list (map numeral (sequence_of (max m 1) 2 i))

-- the positions that the sequence of an index reads and writes
unfoldable pub index_touched : RuleSet → ℕ → Touched
index_touched set i = touched_in set (short_sequence set.count i)

-- the lines of a mark: the sequence and its witness, by their indices, and what the sequence reads and writes
unfoldable pub mark_text : RuleSet → ℕ → ℕ → List ℕ
mark_text set i witness =
    bytes "drop=" ++ sequence_text set.count i ++ (line_feed ∷ [])
    ++ (bytes "for=" ++ sequence_text set.count witness ++ (line_feed ∷ []))
    ++ line "reads=" (position_items (index_touched set i).reads)
    ++ line "moves=" (position_items (index_touched set i).writes)

-- the lines of an index, by its entry: none where its sequence is kept
unfoldable pub entry_lines : RuleSet → ℕ → ℕ → List ℕ
entry_lines set i entry = cond (eqb entry kept) [] (mark_text set i entry)

-- the lines of all marks of a table
unfoldable pub marks_text : RuleSet → List ℕ → List ℕ
marks_text set table = flat (λ i. entry_lines set i (entry_at table i)) (numbers_from 0 (length table / 2))

-- the listing
unfoldable pub table_text : RuleSet → List ℕ → List ℕ
table_text set table =
    line "reach=" (numeral 2 ∷ [])
    ++ line "rules=" (numeral set.count ∷ [])
    ++ line "marks=" (shown_numeral (length (table_marks table)) ∷ [])
    ++ marks_text set table
