-- The worked cases P1 to P11 of document 01, with the positions read and written that document 02 adds and its answer
-- of P2, and the table of E: one table, proved together of the definitions, by evaluation.
-- The rule sets are what `reading` gives of their files. Each search is asked with a plan buffer of exactly the move
-- bound and with a longer one.
use Prim.Native.Nat.{ℕ}
use Prim.Native.String.{String}
use mathlib.Core.Path.{◌≡◌, refl}
use mathlib.Core.Option.{Option}
use mathlib.Core.List.{List, [], ◌∷◌, ◌++◌, map}
use lib.ListN.{replicate}
use Rattle.theory_spec.specs.Sets.{has, set_of}
use Rattle.theory_spec.specs.Sequences.{Sequence}
use Rattle.model_spec.specs.States.{value_of, values_of, applicable, successor, width, states}
use Rattle.model_spec.specs.Rules.{rule_at, step_of, rule_cost, states_of, run_in, sequence_cost, admitted, redundant}
use Rattle.model_spec.specs.Validity.{entry_limited, condition_placed, effect_placed, condition_valid, effect_valid}
use Rattle.model_spec.specs.Validity.{size_valid, sizes_valid, rule_valid, rule_blank, rule_valid_at, rules_valid, duplicate}
use Rattle.model_spec.specs.Validity.{repeated, has_duplicates, well_formed, valid}
use Rattle.model_spec.specs.declared.RuleSet.{RuleSet}
use Rattle.files_spec.specs.Text.{bytes}
use Rattle.files_spec.specs.Reading.{literal, digits, is_number, decimal, number, number_within, variable, constant}
use Rattle.files_spec.specs.Reading.{entry, size_item, condition_item, effect_item, items_after, number_line, list_line}
use Rattle.files_spec.specs.Reading.{rule_lines, rules_after, rule_list, file_lines, finished, reading}
use Rattle.macros_spec.specs.Composition.{Lines, own_variables, empty_lines, replaced, clash, equated, unified, followed}
use Rattle.macros_spec.specs.Composition.{extended, composed_from, composed}
use Rattle.macros_spec.specs.Touched.{named_elsewhere, read_at, written_at, touched_by}
use Rattle.macros_spec.specs.Answers.{macro_causes, touched_in, macro_answer}
use Rattle.macros_spec.specs.declared.MacroAnswer.{MacroAnswer}
use Rattle.macros_spec.specs.declared.Touched.{Touched}
use Rattle.tables_spec.specs.Table.{table_entries, sequence_at, kept, entry_at, marked, built_entry, built_table}
use Rattle.tables_spec.specs.Table.{entry_justified, accepted}
use Rattle.tables_spec.specs.Answers.{table_causes, build_outcome, built_buffer, check_causes, check_outcome}
use Rattle.unions_spec.specs.Unions.{marked_sequences, union_of, table_touched, build_answer, check_answer}
use Rattle.unions_spec.specs.declared.TableAnswer.{TableAnswer}
use Rattle.search_spec.specs.Query.{Query, start_fits, goal_fits, meets_goal, visited_by, plans_for}
use Rattle.search_spec.specs.Looked.{looked_at, cheapest_looked, frontier_of, floor_beside}
use Rattle.search_spec.specs.Searched.{Searched, query_causes, cheapest_plan, search_causes, shown_plan, searched_with}
use Rattle.search_spec.specs.Searched.{searched}
use Rattle.planner_spec.specs.Packed.{searched_text, packed_search}
use Rattle.report_spec.specs.Listing.{listing}

-- ── Rule sets ────────────────────────────────────────────────────────────────────────────────────

abbrev pub rule_set : String → RuleSet
rule_set file = (reading (bytes file)).set

abbrev pub file_e : String
file_e = "positions=2\nsizes=2,2\nrules=2\ncost=1\nif=x1,x2\nthen=0,x2\ncost=1\nif=x1,x2\nthen=x1,0\n"

abbrev pub E : RuleSet
E = rule_set file_e

abbrev pub H : RuleSet
H =
    rule_set
    "positions=3\nsizes=4,4,4\nrules=4\ncost=1\nif=0,x2,x2\nthen=1,0,x2\ncost=1\nif=1,x2,0\nthen=2,0,0\ncost=1\nif=1,x2,x3\nthen=2,x3,x2\ncost=1\nif=2,0,0\nthen=3,1,1\n"

-- the set of P11, of which document 01 gives no costs
abbrev pub K : RuleSet
K = rule_set "positions=3\nsizes=3,3,3\nrules=2\ncost=1\nif=x1,x2,x3\nthen=x1,x1,x3\ncost=1\nif=x1,x2,x2\nthen=0,x2,x2\n"

-- ── The form of the table ────────────────────────────────────────────────────────────────────────

-- what is asked of a set, or of a file
pub data Question : Type 0 where
  search : RuleSet → Query → ℕ → Question
  macro_of : RuleSet → List ℕ → Question
  compose : RuleSet → List ℕ → Question
  touch : RuleSet → List ℕ → Question
  build : RuleSet → ℕ → ℕ → Question
  check : RuleSet → ℕ → List ℕ → Question
  look : RuleSet → ℕ → List ℕ → ℕ → Question
  list : String → Question
  enter : String → Query → ℕ → Question
  enter_floor : String → Query → ℕ → Question

-- the whole answer, with the buffer that the call leaves; of an index its sequence and its entry in the table
pub data Reply : Type 0 where
  finds : Searched → Reply
  composes : MacroAnswer → Reply
  vectors : Option Lines → Reply
  touches : Touched → Reply
  builds : TableAnswer → List ℕ → Reply
  checks : TableAnswer → Reply
  shows : Sequence → ℕ → Reply
  lists : List ℕ → Reply
  packs : ℕ → List ℕ → Reply

abbrev pub reply : Question → Reply
reply (search set query room) = finds (searched set query room)
reply (macro_of set moves) = composes (macro_answer set moves)
reply (compose set moves) = vectors (composed set moves)
reply (touch set moves) = touches (touched_in set moves)
reply (build set reach size) = builds (build_answer set reach size) (built_buffer set reach size)
reply (check set reach table) = checks (check_answer set reach table)
reply (look set reach table index) = shows (sequence_at set reach index) (entry_at table index)
reply (list file) = lists (listing (bytes file))
reply (enter file query room) =
    packs (packed_search (bytes file) query room) (searched_text (bytes file) query room).plan
reply (enter_floor file query room) =
    let found = searched_text (bytes file) query room in packs found.answer.floor found.plan

pub record Row : Type 0 where
  pub asked : Question
  pub expected : Reply

-- a query of E with its built table, start 1,1 and cost bound as given
abbrev of_e : List ℕ → ℕ → ℕ → ℕ → ℕ → Question
of_e goal moves cost limit room =
    search E (record {
      reach = 2;
      table = built_table E 2;
      start = 1 ∷ 1 ∷ [];
      goal = goal;
      max_moves = moves;
      max_cost =
          cost;
      step_limit = limit;
    }) room

-- a query of H with a table of reach 2: start 0,0,0, goal 3,1,1, 3 moves, cost bound 9, step limit 5
abbrev of_h : List ℕ → ℕ → Question
of_h table room =
    search H (record {
      reach = 2;
      table = table;
      start = 0 ∷ 0 ∷ 0 ∷ [];
      goal = 3 ∷ 1 ∷ 1 ∷ [];
      max_moves = 3;
      max_cost =
          9;
      step_limit = 5;
    }) room

-- an answer without a floor: outcome, cost, length, steps and plan buffer
abbrev pub told : ℕ → ℕ → ℕ → ℕ → List ℕ → Reply
told outcome cost n steps plan =
    finds (record {
      answer = record { outcome = outcome; cost = cost; length = n; steps = steps; floor = 0 };
      plan = plan;
    })

-- a plan at the limit: cost, length, steps, floor and plan buffer
abbrev pub told_at_limit : ℕ → ℕ → ℕ → ℕ → List ℕ → Reply
told_at_limit cost n steps floor plan =
    finds (record {
      answer = record { outcome = 18; cost = cost; length = n; steps = steps; floor = floor };
      plan = plan;
    })

-- an outcome with the positions read and written, in that order
abbrev pub answer : ℕ → ℕ → ℕ → TableAnswer
answer outcome reads writes = record { outcome = outcome; touched = record { reads = reads; writes = writes } }

-- the macro of three positions
abbrev pub lines : List ℕ → List ℕ → ℕ → ℕ → ℕ → Reply
lines condition effect cost reads writes =
    composes (record {
      outcome = 0;
      result = record {
        condition = condition ++ replicate 13 0;
        effect = effect
            ++ replicate 13 0;
        cost = cost;
      };
      touched = record { reads = reads; writes = writes };
    })

-- two bytes of a table: kept, and marked with a witness below 256
abbrev pub kept_bytes : List ℕ
kept_bytes = 255 ∷ 255 ∷ []

abbrev pub mark_bytes : ℕ → List ℕ
mark_bytes witness = witness ∷ 0 ∷ []

-- the table of E at reach 2: (1,1) is marked with (1), (2,1) with (1,2) and (2,2) with (2)
abbrev pub table_e : List ℕ
table_e =
    kept_bytes ++ kept_bytes ++ kept_bytes
    ++ mark_bytes 1 ++ kept_bytes ++ mark_bytes 4 ++ mark_bytes 2

-- the listing of E, as document 01 prints it, with the lines that document 02 adds
abbrev pub listing_e : List ℕ
listing_e =
    bytes "reach=2\nrules=2\nmarks=3\n"
    ++ bytes "drop=1,1\nfor=1\nreads=\nmoves=1\n"
    ++ bytes "drop=2,1\nfor=1,2\nreads=\nmoves=1,2\n"
    ++ bytes "drop=2,2\nfor=2\nreads=\nmoves=2\n"

-- the table of P8: (1,2), index 6, is kept; (3,4), index 16, is marked with 12. Document 01 names these two; the others
-- were worked by hand
abbrev pub table_h : List ℕ
table_h =
    kept_bytes ++ kept_bytes ++ kept_bytes ++ kept_bytes ++ kept_bytes
    ++ mark_bytes 0 ++ kept_bytes ++ kept_bytes ++ mark_bytes 0
    ++ mark_bytes 0 ++ mark_bytes 0 ++ mark_bytes 0 ++ kept_bytes
    ++ mark_bytes 0 ++ mark_bytes 0 ++ mark_bytes 0 ++ mark_bytes 12
    ++ mark_bytes 0 ++ mark_bytes 0 ++ mark_bytes 0 ++ mark_bytes 0

-- the table of P10: only (1,2), index 6, is marked, with 7
abbrev table10 : List ℕ
table10 = replicate 12 255 ++ mark_bytes 7 ++ replicate 28 255

-- ── The table ────────────────────────────────────────────────────────────────────────────────────

abbrev pub rows : List Row
rows =
    -- P1
    record { asked = of_e (0 ∷ 0 ∷ []) 2 9 4 2; expected = told 0 2 2 4 (1 ∷ 2 ∷ []) }
    ∷ record { asked = of_e (0 ∷ 0 ∷ []) 2 9 4 5; expected = told 0 2 2 4 (1 ∷ 2 ∷ 255 ∷ 255 ∷ 255 ∷ []) }
    -- P2, as document 02 has it: (), (1) and (1,2) are looked at, and (2) is not
    ∷ record { asked = of_e (0 ∷ 0 ∷ []) 2 9 3 2; expected = told_at_limit 2 2 3 1 (1 ∷ 2 ∷ []) }
    ∷ record { asked = of_e (0 ∷ 0 ∷ []) 2 9 3 5; expected = told_at_limit 2 2 3 1 (1 ∷ 2 ∷ 255 ∷ 255 ∷ 255 ∷ []) }
    -- P3
    ∷ record { asked = of_e (0 ∷ 0 ∷ []) 1 9 4 1; expected = told 15 0 0 3 (255 ∷ []) }
    ∷ record { asked = of_e (0 ∷ 0 ∷ []) 1 9 4 4; expected = told 15 0 0 3 (255 ∷ 255 ∷ 255 ∷ 255 ∷ []) }
    -- P4
    ∷ record { asked = of_e (0 ∷ 0 ∷ []) 2 1 4 2; expected = told 15 0 0 3 (255 ∷ 255 ∷ []) }
    ∷ record { asked = of_e (0 ∷ 0 ∷ []) 2 1 4 4; expected = told 15 0 0 3 (255 ∷ 255 ∷ 255 ∷ 255 ∷ []) }
    -- P5
    ∷ record { asked = of_e (1 ∷ 1 ∷ []) 0 9 1 0; expected = told 0 0 0 1 [] }
    ∷ record { asked = of_e (1 ∷ 1 ∷ []) 0 9 1 3; expected = told 0 0 0 1 (255 ∷ 255 ∷ 255 ∷ []) }
    -- the table of E: nothing is read, and 1 and 2 are written
    ∷ record { asked = build E 2 14; expected = builds (answer 0 0 3) table_e }
    ∷ record { asked = check E 2 table_e; expected = checks (answer 0 0 3) }
    -- P6: `0,0,0` to `2,0,0`; reads 1, 2 and 3, and writes 1
    ∷ record { asked = macro_of H (1 ∷ 2 ∷ []); expected = lines (0 ∷ 0 ∷ 0 ∷ []) (2 ∷ 0 ∷ 0 ∷ []) 2 7 1 }
    -- P7: `0,x2,x2` to `2,x2,0`; reads 1, 2 and 3, and writes 1 and 3
    ∷ record { asked = macro_of H (1 ∷ 3 ∷ []); expected = lines (0 ∷ 17 ∷ 17 ∷ []) (2 ∷ 17 ∷ 0 ∷ []) 2 7 5 }
    -- P8: (1,2) is kept, and (3,4) is marked with the index of (2,4). (3,4), `1,0,0` to `3,1,1`, reads and writes 1,
    -- 2 and 3; no state admits the others that are marked
    ∷ record { asked = build H 2 42; expected = builds (answer 0 7 7) table_h }
    ∷ record { asked = check H 2 table_h; expected = checks (answer 0 7 7) }
    ∷ record { asked = macro_of H (3 ∷ 4 ∷ []); expected = lines (1 ∷ 0 ∷ 0 ∷ []) (3 ∷ 1 ∷ 1 ∷ []) 2 7 7 }
    ∷ record { asked = look H 2 (built_table H 2) 6; expected = shows (1 ∷ 2 ∷ []) kept }
    ∷ record { asked = look H 2 (built_table H 2) 16; expected = shows (3 ∷ 4 ∷ []) 12 }
    ∷ record { asked = look H 2 (built_table H 2) 12; expected = shows (2 ∷ 4 ∷ []) kept }
    -- P9
    ∷ record { asked = of_h (built_table H 2) 3; expected = told 0 3 3 5 (1 ∷ 2 ∷ 4 ∷ []) }
    ∷ record { asked = of_h (built_table H 2) 5; expected = told 0 3 3 5 (1 ∷ 2 ∷ 4 ∷ 255 ∷ 255 ∷ []) }
    -- P10: (1,2) is marked with the index of (1,3)
    ∷ record { asked = look H 2 table10 6; expected = shows (1 ∷ 2 ∷ []) 7 }
    ∷ record { asked = look H 2 table10 7; expected = shows (1 ∷ 3 ∷ []) kept }
    ∷ record { asked = check H 2 table10; expected = checks (answer 14 0 0) }
    ∷ record { asked = of_h table10 3; expected = told 14 0 0 0 (255 ∷ 255 ∷ 255 ∷ []) }
    ∷ record { asked = of_h table10 5; expected = told 14 0 0 0 (255 ∷ 255 ∷ 255 ∷ 255 ∷ 255 ∷ []) }
    -- P11: `x1,x2,x1` to `0,x1,x1`; reads 1 and 3, and writes 1 and 2
    ∷ record { asked = macro_of K (1 ∷ 2 ∷ []); expected = lines (16 ∷ 17 ∷ 16 ∷ []) (0 ∷ 16 ∷ 16 ∷ []) 2 5 3 }
    ∷ []

pub worked_cases : map (λ (row : Row). reply row.asked) rows ≡ map (λ (row : Row). row.expected) rows
unfolding value_of values_of applicable successor width states rule_at step_of rule_cost states_of run_in sequence_cost admitted
    redundant entry_limited condition_placed effect_placed condition_valid effect_valid size_valid sizes_valid rule_valid
    rule_blank rule_valid_at rules_valid duplicate repeated has_duplicates well_formed valid literal digits is_number decimal
    number number_within variable constant entry size_item condition_item effect_item items_after number_line list_line
    rule_lines rules_after rule_list file_lines finished reading own_variables empty_lines replaced clash equated unified
    followed extended composed_from composed has set_of named_elsewhere read_at written_at touched_by touched_in
    macro_causes macro_answer table_entries sequence_at entry_at marked built_entry built_table entry_justified accepted
    table_causes build_outcome built_buffer check_causes check_outcome marked_sequences union_of table_touched build_answer
    check_answer start_fits goal_fits meets_goal visited_by plans_for looked_at cheapest_looked frontier_of floor_beside
    query_causes cheapest_plan search_causes shown_plan searched_with searched
worked_cases = refl
