-- Proposals explained, worked by hand, by evaluation (document 02, request 2026-06): E and H of document 01, and two
-- sets in which single rules are marked. Beside a case stands what a faulty planner answers.
use Prim.Native.Nat.{ℕ}
use mathlib.Core.Path.{◌≡◌, refl}
use mathlib.Core.List.{List, [], ◌∷◌, ◌++◌, map}
use lib.ListN.{replicate}
use Rattle.theory_spec.specs.Sequences.{Sequence}
use Rattle.model_spec.specs.States.{value_of, values_of, applicable, successor, width, states}
use Rattle.model_spec.specs.Rules.{empty_set, rule_at, step_of, rule_cost, states_of, run_in, sequence_cost, redundant}
use Rattle.model_spec.specs.Validity.{entry_limited, condition_placed, effect_placed, condition_valid, effect_valid}
use Rattle.model_spec.specs.Validity.{size_valid, sizes_valid, rule_valid, rule_blank, rule_valid_at, rules_valid, duplicate}
use Rattle.model_spec.specs.Validity.{repeated, has_duplicates, well_formed, valid}
use Rattle.model_spec.specs.declared.RuleSet.{RuleSet}
use Rattle.files_spec.specs.Reading.{literal, digits, is_number, decimal, number, number_within, variable, constant}
use Rattle.files_spec.specs.Reading.{entry, size_item, condition_item, effect_item, items_after, number_line, list_line}
use Rattle.files_spec.specs.Reading.{rule_lines, rules_after, rule_list, file_lines, finished, reading}
use Rattle.tables_spec.specs.Table.{table_entries, sequence_at, entry_at, marked, entry_justified, accepted}
use Rattle.tables_spec.specs.Answers.{table_causes}
use Rattle.search_spec.specs.Query.{Query, asked, start_fits, goal_fits, meets_goal, visited_by, plans_for}
use Rattle.search_spec.specs.Looked.{looked_at, cheapest_looked}
use Rattle.search_spec.specs.Searched.{query_causes, cheapest_plan}
use Rattle.explain_spec.specs.Reasons.{failing_move, costly_move, is_wrong, wrong_position, end_position, reasons, place_of}
use Rattle.explain_spec.specs.Segments.{shortest_at, soonest_end, soonest_length, index_in, witness_of, segment_witness}
use Rattle.explain_spec.specs.Explained.{explain_causes, explained_with, explained_by, explained}
use Rattle.explain_spec.specs.declared.Explanation.{Explanation}
use Rattle.cases_worked.proofs.Worked.{rule_set, E, H, kept_bytes, mark_bytes, table_e, table_h}

-- ── The form of the table ────────────────────────────────────────────────────────────────────────

pub record Row : Type 0 where
  pub set : RuleSet
  pub query : Query
  pub proposal : Sequence
  pub expected : Explanation

abbrev row : RuleSet → Query → Sequence → Explanation → Row
row set query proposal expected = record { set = set; query = query; proposal = proposal; expected = expected }

-- a marked segment: its last move and its length; its witness's length and bytes
pub record Segment : Type 0 where
  pub end : ℕ
  pub moves : ℕ
  pub count : ℕ
  pub bytes : List ℕ

abbrev segment : ℕ → ℕ → ℕ → List ℕ → Segment
segment end moves count bytes = record { end = end; moves = moves; count = count; bytes = bytes }

abbrev unmarked : Segment
unmarked = segment 0 0 0 (0 ∷ 0 ∷ 0 ∷ [])

-- outcome, reason, place and both costs, and the marked segment
abbrev answer : ℕ → ℕ → ℕ → ℕ → ℕ → Segment → Explanation
answer outcome reason place cost plan_cost found =
    record {
      outcome = outcome;
      reason = reason;
      place = place;
      cost = cost;
      plan_cost = plan_cost;
      segment_end = found.end;
      segment_length = found.moves;
      witness_length = found.count;
      witness = found.bytes;
    }

-- outcome, reason and place, without costs
abbrev told : ℕ → ℕ → ℕ → Segment → Explanation
told outcome reason place found = answer outcome reason place 0 0 found

-- an outcome that stands alone
abbrev alone : ℕ → Explanation
alone outcome = told outcome 0 0 unmarked

-- dearer than the plan: both costs
abbrev dearer : ℕ → ℕ → Segment → Explanation
dearer cost plan_cost found = answer 0 5 0 cost plan_cost found

-- ── E ────────────────────────────────────────────────────────────────────────────────────────────

abbrev both : ℕ → List ℕ
both v = v ∷ v ∷ []

-- with its built table, from 1,1: goal, move bound, cost bound, limit and proposal as given
abbrev of_e : List ℕ → ℕ → ℕ → ℕ → Sequence → Explanation → Row
of_e goal moves cost limit q expected = row E (asked 2 table_e (both 1) goal moves cost limit) q expected

-- P1: the plan is 1,2, at cost 2
abbrev to_e : Sequence → Explanation → Row
to_e q expected = of_e (both 0) 2 9 4 q expected

-- P1 with a reach and a table of its own, and a proposal whose move is no rule's number
abbrev faulty : ℕ → List ℕ → Explanation → Row
faulty reach table expected = row E (asked reach table (both 1) (both 0) 2 9 4) (3 ∷ []) expected

abbrev rows_e : List Row
rows_e =
    to_e (1 ∷ 2 ∷ []) (told 0 7 0 unmarked)
    -- Wrong: costs 2 and 2, which are told with 5 alone
    ∷ to_e (2 ∷ 1 ∷ []) (told 0 6 0 (segment 2 2 2 (1 ∷ 2 ∷ 0 ∷ [])))
    -- off the goal. Wrong: a position from 0, or the highest
    ∷ to_e (1 ∷ 1 ∷ []) (told 0 4 2 (segment 2 2 1 (1 ∷ 0 ∷ 0 ∷ [])))
    ∷ to_e (1 ∷ []) (told 0 4 2 unmarked)
    ∷ to_e [] (told 0 4 1 unmarked)
    -- over the move bound, be it by 38 moves. Wrong: a segment within the bound only, and so none in the first
    ∷ to_e (1 ∷ 2 ∷ 1 ∷ []) (told 0 1 0 (segment 3 2 2 (1 ∷ 2 ∷ 0 ∷ [])))
    ∷ to_e (2 ∷ 2 ∷ 1 ∷ 1 ∷ []) (told 0 1 0 (segment 2 2 1 (2 ∷ 0 ∷ 0 ∷ [])))
    ∷ to_e (replicate 40 1) (told 0 1 0 (segment 2 2 1 (1 ∷ 0 ∷ 0 ∷ [])))
    -- dearer. Wrong: 1, by the plan's length
    ∷ of_e (both 0) 3 9 4 (1 ∷ 2 ∷ 1 ∷ []) (dearer 3 2 (segment 3 2 2 (1 ∷ 2 ∷ 0 ∷ [])))
    -- no plan: 15 beside the reason. Wrong: 15 alone
    ∷ of_e (both 0) 2 1 4 (1 ∷ 2 ∷ []) (told 15 3 2 unmarked)
    ∷ of_e (both 0) 1 9 4 (1 ∷ 2 ∷ []) (told 15 1 0 unmarked)
    -- over the cost bound and off the goal, with a plan and without one. Wrong: 4, with position 1; then with 2
    ∷ of_e (1 ∷ 0 ∷ []) 2 1 4 (1 ∷ 1 ∷ []) (told 0 3 2 (segment 2 2 1 (1 ∷ 0 ∷ 0 ∷ [])))
    ∷ of_e (both 0) 2 0 4 (1 ∷ []) (told 15 3 1 unmarked)
    -- goals that the start meets, and every state. Wrong: 4 with the position of a 255
    ∷ of_e (both 1) 2 9 4 (1 ∷ []) (told 0 4 1 unmarked)
    ∷ of_e (both 255) 2 9 4 (1 ∷ []) (dearer 1 0 unmarked)
    -- over the limit, with a plan and without one. Wrong: 7 beside it, since 18 shows this plan
    ∷ of_e (both 0) 2 9 3 (1 ∷ 2 ∷ []) (alone 18)
    ∷ of_e (both 0) 2 9 0 (1 ∷ 2 ∷ []) (alone 16)
    -- no rule's number: before these, and after all else. Wrong: 11, by the number of moves
    ∷ of_e (both 0) 2 9 3 (3 ∷ []) (alone 13)
    ∷ of_e (both 0) 2 9 0 (3 ∷ []) (alone 13)
    ∷ to_e (replicate 33 0) (alone 13)
    ∷ faulty 2 (replicate 12 255 ++ mark_bytes 6) (alone 14)
    ∷ of_e (both 0) 33 9 4 (3 ∷ []) (alone 11)
    ∷ of_e (0 ∷ 2 ∷ []) 33 9 4 (3 ∷ []) (alone 10)
    ∷ row E (asked 2 table_e (2 ∷ 1 ∷ []) (0 ∷ 2 ∷ []) 33 9 4) (3 ∷ []) (alone 9)
    ∷ faulty 2 [] (alone 6)
    ∷ faulty 4 [] (alone 5)
    ∷ row empty_set (asked 4 [] [] [] 2 9 4) (3 ∷ []) (alone 7)
    -- Wrong: 12, by a plan buffer as long as the proposal
    ∷ of_e (both 0) 4 9 4 [] (told 0 4 1 unmarked)
    ∷ []

-- ── H ────────────────────────────────────────────────────────────────────────────────────────────

-- P9 with a cost bound: the plan is 1,2,4, at cost 3
abbrev to_h : ℕ → Sequence → Explanation → Row
to_h cost q expected = row H (asked 2 table_h (0 ∷ 0 ∷ 0 ∷ []) (3 ∷ 1 ∷ 1 ∷ []) 3 cost 5) q expected

abbrev rows_h : List Row
rows_h =
    to_h 9 (1 ∷ 2 ∷ 4 ∷ []) (told 0 7 0 unmarked)
    ∷ to_h 9 (1 ∷ 3 ∷ 4 ∷ []) (told 0 6 0 (segment 3 2 2 (2 ∷ 4 ∷ 0 ∷ [])))
    ∷ to_h 9 (2 ∷ []) (told 0 2 1 unmarked)
    -- the empty witness: only the segment tells that there is one
    ∷ to_h 9 (1 ∷ 2 ∷ 2 ∷ []) (told 0 2 3 (segment 3 2 0 (0 ∷ 0 ∷ 0 ∷ [])))
    -- a marked segment behind the move that fails. Wrong: none
    ∷ to_h 9 (2 ∷ 1 ∷ 1 ∷ []) (told 0 2 1 (segment 2 2 0 (0 ∷ 0 ∷ 0 ∷ [])))
    -- move 1 passes the cost bound and move 3 fails. Wrong: 3 with move 1
    ∷ to_h 0 (1 ∷ 2 ∷ 2 ∷ []) (told 15 2 3 (segment 3 2 0 (0 ∷ 0 ∷ 0 ∷ [])))
    ∷ to_h 0 (1 ∷ 2 ∷ []) (told 15 3 1 unmarked)
    ∷ []

-- ── Single rules marked ──────────────────────────────────────────────────────────────────────────

-- three rules of one cost that set position 1 to 0, each in fewer states than the one before
abbrev fewer : RuleSet
fewer =
    rule_set
    "positions=2\nsizes=2,2\nrules=3\ncost=1\nif=x1,x2\nthen=0,x2\ncost=1\nif=x1,0\nthen=0,0\ncost=1\nif=1,0\nthen=0,0\n"

-- rule 1 sets the position to 0, and rule 2 does nothing
abbrev idle : RuleSet
idle = rule_set "positions=1\nsizes=2\nrules=2\ncost=1\nif=x1\nthen=0\ncost=1\nif=x1\nthen=x1\n"

-- 1,2,1 at reach 3, from 1 to 0, with these bytes for (), (1), (2) and for the pairs: the plan is 1, at cost 1. 1,2,1,
-- index 9, is marked with 1
abbrev of_idle : List ℕ → Explanation → Row
of_idle table expected =
    row idle (asked 3 (table ++ replicate 4 255 ++ mark_bytes 1 ++ replicate 10 255) (1 ∷ []) (0 ∷ []) 3 9 15)
    (1 ∷ 2 ∷ 1 ∷ []) expected

abbrev rows_marked : List Row
rows_marked =
    -- the table's witness. Wrong: 1, as built
    row fewer (asked 1 (replicate 6 255 ++ mark_bytes 2) (1 ∷ 0 ∷ []) (both 0) 1 9 9) (3 ∷ [])
    (told 0 6 0 (segment 1 1 1 (2 ∷ 0 ∷ 0 ∷ [])))
    ∷ of_idle (replicate 14 255) (dearer 3 1 (segment 3 3 1 (1 ∷ 0 ∷ 0 ∷ [])))
    -- (2) is marked too, and ends sooner. Wrong: 1,2,1, which starts sooner
    ∷ of_idle (kept_bytes ++ kept_bytes ++ mark_bytes 0 ++ replicate 8 255) (dearer 3 1 (segment 2 1 0 (0 ∷ 0 ∷ 0 ∷ [])))
    -- (2,1) is marked too, and is shorter. Wrong: 1,2,1
    ∷ of_idle (replicate 10 255 ++ mark_bytes 1 ++ kept_bytes) (dearer 3 1 (segment 3 2 1 (1 ∷ 0 ∷ 0 ∷ [])))
    ∷ []

-- ── The table ────────────────────────────────────────────────────────────────────────────────────

abbrev pub rows : List Row
rows = rows_e ++ rows_h ++ rows_marked

pub explained_cases : map (λ (row : Row). explained row.set row.query row.proposal) rows
    ≡ map (λ (row : Row). row.expected) rows
unfolding value_of values_of applicable successor width states rule_at step_of rule_cost states_of run_in sequence_cost
    redundant entry_limited condition_placed effect_placed condition_valid effect_valid size_valid sizes_valid rule_valid
    rule_blank rule_valid_at rules_valid duplicate repeated has_duplicates well_formed valid literal digits is_number decimal
    number number_within variable constant entry size_item condition_item effect_item items_after number_line list_line
    rule_lines rules_after rule_list file_lines finished reading table_entries sequence_at entry_at marked entry_justified
    accepted table_causes start_fits goal_fits meets_goal visited_by plans_for looked_at cheapest_looked query_causes
    cheapest_plan failing_move costly_move is_wrong wrong_position end_position reasons place_of shortest_at soonest_end
    soonest_length index_in witness_of segment_witness explain_causes explained_with explained_by explained
explained_cases = refl
