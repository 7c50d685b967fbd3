-- Plans at the step limit, with their floors, worked by hand, by evaluation (document 02, request 2026-03): cases that
-- show faulty planners which P2 does not. Tables keep all but what is said.
use Prim.Native.Nat.{ℕ}
use Prim.Native.String.{String}
use mathlib.Core.Path.{◌≡◌, refl}
use mathlib.Core.List.{List, [], ◌∷◌, ◌++◌, map}
use lib.ListN.{replicate}
use Rattle.model_spec.specs.States.{value_of, values_of, applicable, successor, width, states}
use Rattle.model_spec.specs.Rules.{rule_at, step_of, rule_cost, states_of, run_in, sequence_cost, redundant}
use Rattle.model_spec.specs.Validity.{entry_limited, condition_placed, effect_placed, condition_valid, effect_valid}
use Rattle.model_spec.specs.Validity.{size_valid, sizes_valid, rule_valid, rule_blank, rule_valid_at, rules_valid, duplicate}
use Rattle.model_spec.specs.Validity.{repeated, has_duplicates, well_formed, valid}
use Rattle.files_spec.specs.Reading.{literal, digits, is_number, decimal, number, number_within, variable, constant}
use Rattle.files_spec.specs.Reading.{entry, size_item, condition_item, effect_item, items_after, number_line, list_line}
use Rattle.files_spec.specs.Reading.{rule_lines, rules_after, rule_list, file_lines, finished, reading}
use Rattle.tables_spec.specs.Table.{table_entries, sequence_at, entry_at, marked, entry_justified, accepted}
use Rattle.tables_spec.specs.Answers.{table_causes}
use Rattle.search_spec.specs.Query.{Query, start_fits, goal_fits, meets_goal, visited_by, plans_for}
use Rattle.search_spec.specs.Looked.{looked_at, cheapest_looked, frontier_of, floor_beside}
use Rattle.search_spec.specs.Searched.{query_causes, cheapest_plan, search_causes, shown_plan, searched_with, searched}
use Rattle.planner_spec.specs.OfText.{of_text}
use Rattle.planner_spec.specs.Packed.{packed, text_refused, searched_text, packed_search}
use Rattle.cases_worked.proofs.Worked.{rule_set, Question, search, enter, enter_floor, packs, reply, Row, told}
use Rattle.cases_worked.proofs.Worked.{told_at_limit, mark_bytes}

-- rules 1, 2 and 3 set position 1, 2 and 3 to 0; they cost 3, 2 and 1
abbrev file_t : String
file_t =
    "positions=3\nsizes=2,2,2\nrules=3\ncost=3\nif=x1,x2,x3\nthen=0,x2,x3\ncost=2\nif=x1,x2,x3\nthen=x1,0,x3\ncost=1\nif=x1,x2,x3\nthen=x1,x2,0\n"

-- the same at the costs 1, 2 and 3
abbrev file_rising : String
file_rising =
    "positions=3\nsizes=2,2,2\nrules=3\ncost=1\nif=x1,x2,x3\nthen=0,x2,x3\ncost=2\nif=x1,x2,x3\nthen=x1,0,x3\ncost=3\nif=x1,x2,x3\nthen=x1,x2,0\n"

-- the same at the costs 3, 0 and 5
abbrev file_free : String
file_free =
    "positions=3\nsizes=2,2,2\nrules=3\ncost=3\nif=x1,x2,x3\nthen=0,x2,x3\ncost=0\nif=x1,x2,x3\nthen=x1,0,x3\ncost=5\nif=x1,x2,x3\nthen=x1,x2,0\n"

-- the same at the costs 3, 9 and 9
abbrev file_steep : String
file_steep =
    "positions=3\nsizes=2,2,2\nrules=3\ncost=3\nif=x1,x2,x3\nthen=0,x2,x3\ncost=9\nif=x1,x2,x3\nthen=x1,0,x3\ncost=9\nif=x1,x2,x3\nthen=x1,x2,0\n"

-- the first, with a rule 3 that does nothing
abbrev file_idle : String
file_idle =
    "positions=3\nsizes=2,2,2\nrules=3\ncost=3\nif=x1,x2,x3\nthen=0,x2,x3\ncost=2\nif=x1,x2,x3\nthen=x1,0,x3\ncost=1\nif=x1,x2,x3\nthen=x1,x2,x3\n"

-- rule 1 sets position 1 to 0 for nothing, rule 2 sets position 2 to 0 at the cost 2
abbrev file_ties : String
file_ties = "positions=2\nsizes=2,2\nrules=2\ncost=0\nif=x1,x2\nthen=0,x2\ncost=2\nif=x1,x2\nthen=x1,0\n"

-- rule 1 sets position 1 to 0; rule 2, which costs nothing, runs only where position 2 holds 0; rule 3 sets it to 0
abbrev file_closed : String
file_closed =
    "positions=2\nsizes=2,2\nrules=3\ncost=2\nif=x1,x2\nthen=0,x2\ncost=0\nif=x1,0\nthen=x1,1\ncost=4\nif=x1,x2\nthen=x1,0\n"

-- a query at reach 1 and of at most two moves
abbrev query : List ℕ → List ℕ → List ℕ → ℕ → ℕ → Query
query table start goal cost limit =
    record {
      reach = 1;
      table = table;
      start = start;
      goal = goal;
      max_moves = 2;
      max_cost = cost;
      step_limit = limit;
    }

-- from 1,1,1, with a table that keeps all
abbrev three : String → List ℕ → ℕ → ℕ → Question
three file goal cost limit = search (rule_set file) (query (replicate 8 255) (1 ∷ 1 ∷ 1 ∷ []) goal cost limit) 2

-- position 1 at 0; position 2 at 0; any state
abbrev first : List ℕ
first = 0 ∷ 255 ∷ 255 ∷ []

abbrev second : List ℕ
second = 255 ∷ 0 ∷ 255 ∷ []

abbrev any_state : List ℕ
any_state = 255 ∷ 255 ∷ 255 ∷ []

-- from 1,1 to position 2 at 0
abbrev ties : ℕ → Question
ties limit = search (rule_set file_ties) (query (replicate 6 255) (1 ∷ 1 ∷ []) (255 ∷ 0 ∷ []) 9 limit) 2

-- from 1,1 to position 1 at 0
abbrev closed : ℕ → Question
closed limit = search (rule_set file_closed) (query (replicate 8 255) (1 ∷ 1 ∷ []) (0 ∷ 255 ∷ []) 5 limit) 2

-- from 1,1,1 to position 1 at 0 with one move
abbrev one_move : ℕ → Question
one_move limit =
    search (rule_set file_free) (record {
      reach = 1;
      table = replicate 8 255;
      start = 1 ∷ 1 ∷ 1 ∷ [];
      goal = first;
      max_moves = 1;
      max_cost = 9;
      step_limit = limit;
    }) 1

abbrev blank : List ℕ
blank = 255 ∷ 255 ∷ []

abbrev pub rows : List Row
rows =
    -- () and (1) are looked at; not looked at are (1,1), (1,2), (1,3), (2) and (3), which cost 6, 5, 4, 2 and 1
    record { asked = three file_t first 9 2; expected = told_at_limit 3 1 2 1 (1 ∷ 255 ∷ []) }
    -- one less than all 13, and all
    ∷ record { asked = three file_t first 9 12; expected = told_at_limit 3 1 12 2 (1 ∷ 255 ∷ []) }
    ∷ record { asked = three file_t first 9 13; expected = told 0 3 1 13 (1 ∷ 255 ∷ []) }
    -- nothing is looked at; nothing that is looked at leads to the goal
    ∷ record { asked = three file_t first 9 0; expected = told 16 0 0 0 blank }
    ∷ record { asked = three file_t any_state 9 0; expected = told 16 0 0 0 blank }
    ∷ record { asked = three file_t second 9 2; expected = told 16 0 0 2 blank }
    -- (1,2) is met before (2), which is cheaper: with (2) looked at or not
    ∷ record { asked = three file_t second 9 5; expected = told_at_limit 5 2 5 1 (1 ∷ 2 ∷ []) }
    ∷ record { asked = three file_t second 9 6; expected = told_at_limit 2 1 6 1 (2 ∷ 255 ∷ []) }
    -- an empty plan
    ∷ record { asked = three file_t any_state 9 1; expected = told_at_limit 0 0 1 0 blank }
    -- the pruned rule 3 does not count: (2) does
    ∷ record {
      asked =
          search (rule_set file_idle) (query (replicate 6 255 ++ mark_bytes 0) (1 ∷ 1 ∷ 1 ∷ []) first 9 2) 2;
      expected = told_at_limit 3 1 2 2 (1 ∷ 255 ∷ []);
    }
    -- the plan costs least, and the outcome is 18
    ∷ record { asked = three file_rising first 9 2; expected = told_at_limit 1 1 2 1 (1 ∷ 255 ∷ []) }
    -- over the cost bound are (1,1), (1,2) and (1,3)
    ∷ record { asked = three file_t first 3 2; expected = told_at_limit 3 1 2 1 (1 ∷ 255 ∷ []) }
    -- within a cost bound of 5 are only () and (1)
    ∷ record { asked = three file_steep first 5 2; expected = told 0 3 1 2 (1 ∷ 255 ∷ []) }
    -- (1,2) and (2) cost the same: the shorter one, once it is looked at
    ∷ record { asked = ties 4; expected = told_at_limit 2 2 4 2 (1 ∷ 2 ∷ []) }
    ∷ record { asked = ties 5; expected = told_at_limit 2 1 5 2 (2 ∷ 255 ∷ []) }
    -- (1,1) and (3), which cost 4, are next; (2) and (1,2) would cost less, and do not run
    ∷ record { asked = closed 2; expected = told_at_limit 2 1 2 2 (1 ∷ 255 ∷ []) }
    -- () to (2) are looked at, and (3), at 5, is next; (2,2) would cost nothing, and has a move too many
    ∷ record { asked = one_move 3; expected = told_at_limit 3 1 3 3 (1 ∷ []) }
    -- () and (1) are looked at: (2), which costs nothing, counts
    ∷ record { asked = one_move 2; expected = told_at_limit 3 1 2 0 (1 ∷ []) }
    -- the entries: 18 + 256 · 1 + 65536 · 3 + 2^32 · 2, and the floor beside it
    ∷ record {
      asked = enter file_t (query (replicate 8 255) (1 ∷ 1 ∷ 1 ∷ []) first 9 2) 3;
      expected = packs 8590131474 (1 ∷ 255 ∷ 255 ∷ []);
    }
    ∷ record {
      asked = enter_floor file_t (query (replicate 8 255) (1 ∷ 1 ∷ 1 ∷ []) first 9 2) 3;
      expected = packs 1 (1 ∷ 255 ∷ 255 ∷ []);
    }
    -- no floor with a plan that is the cheapest, nor with a refusal
    ∷ record {
      asked = enter_floor file_t (query (replicate 8 255) (1 ∷ 1 ∷ 1 ∷ []) first 9 13) 3;
      expected = packs 0 (1 ∷ 255 ∷ 255 ∷ []);
    }
    ∷ record {
      asked = enter_floor "positions=17\n" (query (replicate 8 255) (1 ∷ 1 ∷ 1 ∷ []) first 9 2) 3;
      expected = packs 0 (255 ∷ 255 ∷ 255 ∷ []);
    }
    ∷ []

pub limit_cases : map (λ (row : Row). reply row.asked) rows ≡ map (λ (row : Row). row.expected) rows
unfolding value_of values_of applicable successor width states rule_at step_of rule_cost states_of run_in sequence_cost
    redundant entry_limited condition_placed effect_placed condition_valid effect_valid size_valid sizes_valid rule_valid
    rule_blank rule_valid_at rules_valid duplicate repeated has_duplicates well_formed valid literal digits is_number decimal
    number number_within variable constant entry size_item condition_item effect_item items_after number_line list_line
    rule_lines rules_after rule_list file_lines finished reading table_entries sequence_at entry_at marked entry_justified
    accepted table_causes start_fits goal_fits meets_goal visited_by plans_for looked_at cheapest_looked frontier_of floor_beside
    query_causes cheapest_plan search_causes shown_plan searched_with searched packed text_refused of_text searched_text
    packed_search
limit_cases = refl
