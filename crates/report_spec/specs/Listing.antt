-- The listing of a rule file: the marks of its built table at reach 2, each with its witness and the positions that the
-- marked sequence reads and writes.
use Rattle.std.specs.Prelude.{not, cond, List, [], ◌∷◌, ◌++◌, map, ℕ, ◌-◌, eqb, length}
use Rattle.theory_spec.specs.Lists.{keep, flat, numbers_from}
use Rattle.theory_spec.specs.Sets.{has}
use Rattle.theory_spec.specs.Sequences.{Sequence}
use Rattle.model_spec.specs.Limits.{place_count}
use Rattle.model_spec.specs.declared.RuleSet.{RuleSet}
use Rattle.files_spec.specs.Text.{numeral, line}
use Rattle.files_spec.specs.Reading.{reading}
use Rattle.macros_spec.specs.Answers.{touched_in}
use Rattle.tables_spec.specs.Table.{table_entries, sequence_at, built_entry, kept}

-- the reach of every listing
abbrev pub listed_reach : ℕ
listed_reach = 2

-- the indices of the marked sequences, in order
unfoldable pub marked_indices : RuleSet → List ℕ
marked_indices set =
    keep (λ i. not (eqb (built_entry set listed_reach i) kept)) (numbers_from 0 (table_entries set listed_reach))

-- the rule numbers of a sequence, as the items of a line
abbrev pub sequence_items : Sequence → List (List ℕ)
sequence_items q = map numeral q

-- the positions of a set, in rising order
abbrev pub positions_of : ℕ → List ℕ
positions_of members = keep (λ n. has members (n - 1)) (numbers_from 1 place_count)

-- the same as the items of a line
abbrev pub position_items : ℕ → List (List ℕ)
position_items members = map numeral (positions_of members)

-- a mark: the sequence; its witness, nothing after the sign if that is empty; and the positions that the sequence, not
-- its witness, reads and writes, none for a sequence that no state admits
unfoldable pub mark_lines : RuleSet → ℕ → List ℕ
mark_lines set i =
    line "drop=" (sequence_items (sequence_at set listed_reach i))
    ++ line "for=" (sequence_items (sequence_at set listed_reach (built_entry set listed_reach i)))
    ++ line "reads=" (position_items (touched_in set (sequence_at set listed_reach i)).reads)
    ++ line "moves=" (position_items (touched_in set (sequence_at set listed_reach i)).writes)

-- the listing of a set: the reach, the number of rules, the number of marks, and the marks
unfoldable pub listing_of : RuleSet → List ℕ
listing_of set =
    line "reach=" (numeral listed_reach ∷ [])
    ++ line "rules=" (numeral set.count ∷ [])
    ++ line "marks=" (numeral (length (marked_indices set)) ∷ [])
    ++ flat (mark_lines set) (marked_indices set)

-- the listing of a rule text; a refused one is its number alone
unfoldable pub listing : List ℕ → List ℕ
listing text =
    let read = reading text in
    cond (eqb read.outcome 0) (listing_of read.set) (line "refused=" (numeral read.outcome ∷ []))
