-- Cases that P1 to P11 do not tell apart from a faulty planner, worked by hand, by evaluation: faults of source
-- document 003, positions read and written, costs, rules with the same lines, ties, order of refusals.
-- And listings, the packed answer of P1, the plan part and the tally.
use Prim.Native.Nat.{ℕ}
use Prim.Native.String.{String}
use mathlib.Core.Path.{◌≡◌, refl}
use mathlib.Core.Bool.{true, false}
use mathlib.Core.Option.{some, none}
use mathlib.Core.List.{List, [], ◌∷◌, ◌++◌, map}
use lib.ListN.{replicate}
use Rattle.theory_spec.specs.Sets.{has, set_of}
use Rattle.model_spec.specs.States.{value_of, values_of, applicable, successor, width, states}
use Rattle.model_spec.specs.Rules.{empty_set, rule_at, step_of, rule_cost, states_of, run_in, sequence_cost, admitted}
use Rattle.model_spec.specs.Rules.{redundant}
use Rattle.model_spec.specs.Validity.{entry_limited, condition_placed, effect_placed, condition_valid, effect_valid}
use Rattle.model_spec.specs.Validity.{size_valid, sizes_valid, rule_valid, rule_blank, rule_valid_at, rules_valid, duplicate}
use Rattle.model_spec.specs.Validity.{repeated, has_duplicates, well_formed, valid}
use Rattle.model_spec.specs.declared.RuleSet.{RuleSet}
use Rattle.files_spec.specs.Text.{bytes, numeral, line}
use Rattle.files_spec.specs.Reading.{literal, digits, is_number, decimal, number, number_within, variable, constant}
use Rattle.files_spec.specs.Reading.{entry, size_item, condition_item, effect_item, items_after, number_line, list_line}
use Rattle.files_spec.specs.Reading.{rule_lines, rules_after, rule_list, file_lines, finished, reading}
use Rattle.macros_spec.specs.Composition.{own_variables, empty_lines, replaced, clash, equated, unified, followed}
use Rattle.macros_spec.specs.Composition.{extended, composed_from, composed}
use Rattle.macros_spec.specs.Touched.{named_elsewhere, read_at, written_at, touched_by}
use Rattle.macros_spec.specs.Answers.{macro_causes, touched_in, macro_answer}
use Rattle.macros_spec.specs.Redundancy.{covers, redundant_by_lines}
use Rattle.tables_spec.specs.Table.{table_entries, sequence_at, entry_at, marked, built_entry, built_table, entry_justified}
use Rattle.tables_spec.specs.Table.{accepted}
use Rattle.tables_spec.specs.Answers.{table_causes, build_outcome, built_buffer, check_causes, check_outcome}
use Rattle.unions_spec.specs.Unions.{marked_sequences, union_of, table_touched, build_answer, check_answer}
use Rattle.search_spec.specs.Query.{Query, start_fits, goal_fits, meets_goal, visited_by, plans_for}
use Rattle.search_spec.specs.Looked.{looked_at, cheapest_looked, frontier_of, floor_beside}
use Rattle.search_spec.specs.Searched.{query_causes, cheapest_plan, search_causes, shown_plan, searched_with, searched}
use Rattle.search_spec.specs.PlanPart.{plan_part}
use Rattle.search_spec.specs.Tallies.{tallied_of}
use Rattle.search_spec.specs.declared.Tally.{Tally}
use Rattle.planner_spec.specs.OfText.{of_text}
use Rattle.planner_spec.specs.Packed.{packed, text_refused, searched_text, packed_search}
use Rattle.report_spec.specs.Listing.{marked_indices, mark_lines, listing_of, listing}
use Rattle.cases_worked.proofs.Files.{like_first}
use Rattle.cases_worked.proofs.Worked.{rule_set, file_e, E, Question, search, macro_of, compose, touch, build}
use Rattle.cases_worked.proofs.Worked.{check, list, enter, Reply, composes, vectors, touches, builds, checks}
use Rattle.cases_worked.proofs.Worked.{lists, packs, reply, Row, told, told_at_limit, answer, kept_bytes, mark_bytes}
use Rattle.cases_worked.proofs.Worked.{table_e, listing_e}
use Rattle.cases_worked.proofs.SingleValues.{single_values}

-- ── Macros ───────────────────────────────────────────────────────────────────────────────────────

-- a swap, then a rule that asks for equal values: source document 003's case 2(b) as printed would add no condition
abbrev swapped : RuleSet
swapped = rule_set "positions=2\nsizes=3,3\nrules=2\ncost=1\nif=x1,x2\nthen=x2,x1\ncost=2\nif=x1,x1\nthen=0,x1\n"

-- run twice it asks two constants of one variable: the effects before a replacement would lose the second
abbrev twice : RuleSet
twice = rule_set "positions=3\nsizes=4,4,4\nrules=1\ncost=1\nif=0,1,x3\nthen=x3,x3,3\n"

-- a copy, then a rule that asks 0 of it and, at the last position, what the first holds: read in the effect before the
-- 0 came, the first would still be a variable
abbrev copied : RuleSet
copied = rule_set "positions=3\nsizes=3,3,3\nrules=2\ncost=1\nif=x1,x2,x3\nthen=x1,x1,x3\ncost=1\nif=x1,0,x1\nthen=x1,0,x1\n"

abbrev composed_to : List ℕ → List ℕ → ℕ → ℕ → ℕ → Reply
composed_to condition effect cost reads writes =
    composes (record {
      outcome = 0;
      result = record {
        condition = condition ++ replicate 14 0;
        effect = effect
            ++ replicate 14 0;
        cost = cost;
      };
      touched = record { reads = reads; writes = writes };
    })

abbrev macro-refused : ℕ → Reply
macro-refused outcome =
    composes (record {
      outcome = outcome;
      result =
          record { condition = replicate 16 0; effect = replicate 16 0; cost = 0 };
      touched =
          record { reads = 0; writes = 0 };
    })

abbrev macros : List Row
macros =
    record { asked = macro_of swapped (1 ∷ 2 ∷ []); expected = composed_to (16 ∷ 16 ∷ []) (0 ∷ 16 ∷ []) 3 3 1 }
    -- a swap twice touches nothing, though each of its rules does
    ∷ record { asked = macro_of swapped (1 ∷ 1 ∷ []); expected = composed_to (16 ∷ 17 ∷ []) (16 ∷ 17 ∷ []) 2 0 0 }
    ∷ record { asked = macro_of swapped []; expected = composed_to (16 ∷ 17 ∷ []) (16 ∷ 17 ∷ []) 0 0 0 }
    ∷ record { asked = macro_of twice (1 ∷ 1 ∷ []); expected = macro-refused 17 }
    ∷ record { asked = macro_of copied (1 ∷ 2 ∷ []); expected = composed_to (0 ∷ 17 ∷ []) (0 ∷ 0 ∷ []) 2 5 2 }
    -- the outcome goes by the states, so the composition is asked by itself
    ∷ record { asked = compose twice (1 ∷ 1 ∷ []); expected = vectors none }
    ∷ record {
      asked =
          compose swapped (1 ∷ 2 ∷ []);
      expected = vectors
          (some (record { condition = (16 ∷ 16 ∷ []) ++ replicate 14 0; effect = (0 ∷ 16 ∷ []) ++ replicate 14 0 }));
    }
    -- a move that is no rule's number comes before 17 wherever it stands, and more than 32 moves before both
    ∷ record { asked = macro_of twice (1 ∷ 1 ∷ 2 ∷ []); expected = macro-refused 13 }
    ∷ record { asked = macro_of twice (0 ∷ []); expected = macro-refused 13 }
    ∷ record { asked = macro_of twice (replicate 33 0); expected = macro-refused 11 }
    ∷ record { asked = macro_of empty_set (replicate 33 0); expected = macro-refused 7 }
    ∷ []

-- ── Positions read and written ───────────────────────────────────────────────────────────────────

-- a copy, a link that is cut, a link that is kept, an idle rule, a swap
abbrev kinds : RuleSet
kinds =
    (reading
    (bytes "positions=2\nsizes=3,3\nrules=5\n"
    ++ bytes "cost=1\nif=x1,x2\nthen=x2,x2\n"
    ++ bytes "cost=1\nif=x1,x1\nthen=x1,0\n"
    ++ bytes "cost=1\nif=x1,x1\nthen=x1,x1\n"
    ++ bytes "cost=1\nif=x1,x2\nthen=x1,x2\n"
    ++ bytes "cost=1\nif=x1,x2\nthen=x2,x1\n")).set

-- position 1 holds 0; 16 holds what 15 holds, and is set to 1
abbrev sixteen : RuleSet
sixteen =
    (reading
    (bytes "positions=16\nsizes=2,2,2,2,2,2,2,2,2,2,2,2,2,2,2,2\nrules=1\ncost=1\n"
    ++ bytes "if=0,x2,x3,x4,x5,x6,x7,x8,x9,x10,x11,x12,x13,x14,x15,x15\n"
    ++ bytes "then=0,x2,x3,x4,x5,x6,x7,x8,x9,x10,x11,x12,x13,x14,x15,1\n")).set

-- planners that pass E and P6 fail these: beside a case, what such a one says
abbrev positions : List Row
positions =
    -- `x1,x2` to `x2,x2` reads 2 and writes 1. Wrong: it reads 1 too, by its own `then` entry; it reads nothing, as no
    -- `then` entry counts; it writes nothing, as only constants count
    record { asked = macro_of kinds (1 ∷ []); expected = composed_to (16 ∷ 17 ∷ []) (17 ∷ 17 ∷ []) 1 2 1 }
    -- `x1,x1` to `x1,0` reads 1 and 2, and writes 2. Wrong: it reads 2 alone, as no other position's `if` entry counts;
    -- it reads 1 alone, as of a position's own only a constant counts
    ∷ record { asked = macro_of kinds (2 ∷ []); expected = composed_to (16 ∷ 16 ∷ []) (16 ∷ 0 ∷ []) 1 3 2 }
    -- `x1,x1` to `x1,x1` reads 1 and 2. Wrong: it reads nothing, as it changes nothing
    ∷ record { asked = macro_of kinds (3 ∷ []); expected = composed_to (16 ∷ 16 ∷ []) (16 ∷ 16 ∷ []) 1 3 0 }
    ∷ record { asked = macro_of kinds (4 ∷ []); expected = composed_to (16 ∷ 17 ∷ []) (16 ∷ 17 ∷ []) 1 0 0 }
    ∷ record { asked = macro_of kinds (5 ∷ []); expected = composed_to (16 ∷ 17 ∷ []) (17 ∷ 16 ∷ []) 1 3 3 }
    -- no state admits it. Wrong: it reads 1, 2 and 3, by the zeros of a refused macro
    ∷ record { asked = touch twice (1 ∷ 1 ∷ []); expected = touches (record { reads = 0; writes = 0 }) }
    -- it reads 1, 15 and 16, and writes 16
    ∷ record { asked = touch sixteen (1 ∷ []); expected = touches (record { reads = 49153; writes = 32768 }) }
    ∷ []

-- ── Tables ───────────────────────────────────────────────────────────────────────────────────────

-- rule 2 does in some states what rule 1 does in all: it is marked where it costs no less
abbrev dear_first : RuleSet
dear_first = rule_set "positions=1\nsizes=3\nrules=2\ncost=5\nif=x1\nthen=0\ncost=1\nif=1\nthen=0\n"

abbrev file_cheap_first : String
file_cheap_first = "positions=1\nsizes=3\nrules=2\ncost=1\nif=x1\nthen=0\ncost=5\nif=1\nthen=0\n"

abbrev cheap_first : RuleSet
cheap_first = rule_set file_cheap_first

-- no state admits rule 1 twice, at cost 2, nor rule 2 twice, at cost 0
abbrev flip : RuleSet
flip = rule_set "positions=1\nsizes=2\nrules=2\ncost=1\nif=0\nthen=1\ncost=0\nif=1\nthen=0\n"

-- no state admits two of its rules in turn
abbrev once : RuleSet
once = rule_set "positions=2\nsizes=2,2\nrules=2\ncost=1\nif=0,x2\nthen=1,x2\ncost=1\nif=0,x2\nthen=1,0\n"

-- a table that is accepted, and one that is refused
abbrev accepts : ℕ → ℕ → Reply
accepts reads writes = checks (answer 0 reads writes)

abbrev rejects : ℕ → Reply
rejects outcome = checks (answer outcome 0 0)

abbrev build-refused : ℕ → ℕ → Reply
build-refused outcome size = builds (answer outcome 0 0) (replicate size 0)

abbrev tables : List Row
tables =
    record { asked = build dear_first 1 6; expected = builds (answer 0 0 0) (kept_bytes ++ kept_bytes ++ kept_bytes) }
    ∷ record { asked = build cheap_first 1 6; expected = builds (answer 0 1 1) (kept_bytes ++ kept_bytes ++ mark_bytes 1) }
    ∷ record { asked = build cheap_first 1 5; expected = build-refused 6 5 }
    ∷ record { asked = build cheap_first 0 6; expected = build-refused 5 6 }
    ∷ record { asked = build cheap_first 4 6; expected = build-refused 5 6 }
    ∷ record { asked = build empty_set 0 6; expected = build-refused 7 6 }
    ∷ record { asked = check flip 2 (replicate 14 255); expected = accepts 0 0 }
    -- (2,2), which no state admits: the empty sequence costs no more, rule 1 does
    ∷ record { asked = check flip 2 (replicate 12 255 ++ mark_bytes 0); expected = accepts 0 0 }
    ∷ record { asked = check flip 2 (replicate 12 255 ++ mark_bytes 1); expected = rejects 14 }
    -- (1,1), which no state admits: by rule 1, by itself, and by the later (1,2)
    ∷ record { asked = check flip 2 (replicate 6 255 ++ mark_bytes 1 ++ replicate 6 255); expected = accepts 0 0 }
    ∷ record { asked = check flip 2 (replicate 6 255 ++ mark_bytes 3 ++ replicate 6 255); expected = rejects 14 }
    ∷ record { asked = check flip 2 (replicate 6 255 ++ mark_bytes 4 ++ replicate 6 255); expected = rejects 14 }
    -- (1,2), `0` to `0`, by the empty sequence, and by (1,1), which no state admits
    ∷ record { asked = check flip 2 (replicate 8 255 ++ mark_bytes 0 ++ replicate 4 255); expected = accepts 1 0 }
    ∷ record { asked = check flip 2 (replicate 8 255 ++ mark_bytes 3 ++ replicate 4 255); expected = rejects 14 }
    -- entry 0 is not kept; a value that is no index
    ∷ record { asked = check flip 2 (mark_bytes 0 ++ replicate 12 255); expected = rejects 14 }
    ∷ record { asked = check flip 2 (replicate 12 255 ++ (254 ∷ 255 ∷ [])); expected = rejects 14 }
    ∷ record { asked = check flip 2 (replicate 13 255); expected = rejects 6 }
    -- a swap, which leaves states of equal values as they are, is not idle; nor is rule 2, on the state 0,0 alone
    ∷ record { asked = build swapped 1 6; expected = builds (answer 0 0 0) (kept_bytes ++ kept_bytes ++ kept_bytes) }
    ∷ record { asked = check swapped 1 (kept_bytes ++ mark_bytes 0 ++ kept_bytes); expected = rejects 14 }
    ∷ record { asked = check swapped 1 (kept_bytes ++ kept_bytes ++ mark_bytes 0); expected = rejects 14 }
    ∷ []

-- a rule that asks for equal values and changes nothing, and one that puts 0 into position 1
abbrev equals : RuleSet
equals = rule_set "positions=2\nsizes=2,2\nrules=2\ncost=1\nif=x1,x1\nthen=x1,x1\ncost=1\nif=x1,x2\nthen=0,x2\n"

-- planners that pass E and P6 fail these: beside a case, what such a one says. One that looks at the last mark alone
-- fails the table of E, where that mark writes 2 alone
abbrev unions : List Row
unions =
    -- no state admits what is marked. Wrong: 1 and 2 are read, by the zeros of refused macros; 1 is read, and 1 and 2
    -- are written, by what is kept
    record { asked = build once 2 14; expected = builds (answer 0 0 0) (replicate 6 255 ++ replicate 8 0) }
    ∷ record { asked = check once 2 (replicate 6 255 ++ replicate 8 0); expected = accepts 0 0 }
    -- rule 2, `1` to `0`, is marked: it reads and writes 1. Wrong: nothing is read, as by its witness, or by what is
    -- kept
    ∷ record { asked = check cheap_first 1 (replicate 4 255 ++ mark_bytes 1); expected = accepts 1 1 }
    -- nothing is marked. Wrong: 1 and 2 are written, by what is kept
    ∷ record { asked = build E 1 6; expected = builds (answer 0 0 0) (replicate 6 255) }
    -- (1,1) alone is marked. Wrong: 1 and 2 are written, as of the built table
    ∷ record { asked = check E 2 (replicate 6 255 ++ mark_bytes 1 ++ replicate 6 255); expected = accepts 0 1 }
    -- (1) reads both positions, (2,2) writes 1. Wrong: nothing is written, by one that ends where all is read
    ∷ record {
      asked = check equals 2 (kept_bytes ++ mark_bytes 0 ++ replicate 8 255 ++ mark_bytes 2);
      expected = accepts 3 1;
    }
    -- (1,1) is marked rightly, (1,2) wrongly. Wrong: 1 is written, by the marks before the fault
    ∷ record {
      asked =
          check E 2 (replicate 6 255 ++ mark_bytes 1 ++ mark_bytes 0 ++ replicate 4 255);
      expected = rejects 14;
    }
    -- one byte more than E's table, and one less
    ∷ record { asked = check E 2 (table_e ++ (0 ∷ [])); expected = rejects 6 }
    ∷ record { asked = build E 2 13; expected = build-refused 6 13 }
    ∷ []

-- ── Rules with the same lines ────────────────────────────────────────────────────────────────────

-- E with a third rule like its first, the dearer one later, and the dearer one first
abbrev dearer_later : RuleSet
dearer_later = (reading (like_first "1" "2")).set

abbrev dearer_first : RuleSet
dearer_first = (reading (like_first "2" "1")).set

-- three rules with the same lines, the last of which the first serves and, cheaper, the second
abbrev three : RuleSet
three =
    rule_set
    "positions=1\nsizes=2\nrules=3\ncost=2\nif=0\nthen=1\ncost=1\nif=0\nthen=1\ncost=3\nif=0\nthen=1\n"

-- two idle rules, the dearer one first
abbrev idle : RuleSet
idle = rule_set "positions=1\nsizes=2\nrules=2\ncost=2\nif=0\nthen=0\ncost=1\nif=0\nthen=0\n"

-- planners that pass E fail these: beside a case, what such a one says
abbrev same_lines : List Row
same_lines =
    -- Wrong: 7, as by the lines alone; nothing is marked, as the file has both
    record { asked = build dearer_later 1 8; expected = builds (answer 0 0 1) (replicate 6 255 ++ mark_bytes 1) }
    -- Wrong: (1) is marked with (3), as it is dearer; (3) is marked with (1), as it is later
    ∷ record { asked = build dearer_first 1 8; expected = builds (answer 0 0 0) (replicate 8 255) }
    ∷ record { asked = check dearer_first 1 (kept_bytes ++ mark_bytes 3 ++ replicate 4 255); expected = rejects 14 }
    ∷ record { asked = check dearer_first 1 (replicate 6 255 ++ mark_bytes 1); expected = rejects 14 }
    -- Wrong: (3) is marked with (2), the cheapest or the nearest; a check takes that too
    ∷ record { asked = build three 1 8; expected = builds (answer 0 1 1) (replicate 6 255 ++ mark_bytes 1) }
    ∷ record { asked = check three 1 (replicate 6 255 ++ mark_bytes 2); expected = accepts 1 1 }
    -- Wrong: neither is marked, as the later one is the cheaper. They are idle, and have the empty witness
    ∷ record { asked = build idle 1 6; expected = builds (answer 0 1 0) (kept_bytes ++ mark_bytes 0 ++ mark_bytes 0) }
    -- all are marked but the empty one, (1), (2) and (1,2). Wrong: (3) is kept at reach 2, as its witness is one rule
    ∷ record {
      asked =
          build dearer_later 2 26;
      expected = builds (answer 0 0 3)
          (replicate 6 255 ++ mark_bytes 1 ++ mark_bytes 1 ++ kept_bytes ++ mark_bytes 1 ++ mark_bytes 5 ++ mark_bytes 2
          ++ mark_bytes 5 ++ mark_bytes 1 ++ mark_bytes 5 ++ mark_bytes 1);
    }
    -- (2,3), of cost 2, is kept: (1,2) and (2,1) cost 3. Wrong: it is marked with (1,2), as (1) and (3) do the same
    ∷ record {
      asked =
          build dearer_first 2 26;
      expected = builds (answer 0 0 3)
          (replicate 8 255 ++ mark_bytes 1 ++ kept_bytes ++ mark_bytes 1 ++ mark_bytes 5 ++ mark_bytes 2 ++ kept_bytes
          ++ mark_bytes 1 ++ mark_bytes 9 ++ mark_bytes 1);
    }
    ∷ []

-- ── Searches ─────────────────────────────────────────────────────────────────────────────────────

-- two plans of cost 2: (3), and (1,2), which a depth-first search meets first
abbrev tied : RuleSet
tied =
    rule_set
    "positions=2\nsizes=2,2\nrules=3\ncost=1\nif=0,x2\nthen=1,x2\ncost=1\nif=1,0\nthen=1,1\ncost=2\nif=0,0\nthen=1,1\n"

-- the first goal state met, by rule 1, is not the cheapest
abbrev dear : RuleSet
dear = rule_set "positions=1\nsizes=3\nrules=3\ncost=9\nif=0\nthen=2\ncost=1\nif=0\nthen=1\ncost=1\nif=1\nthen=2\n"

-- a query at reach 1 with a table that keeps all of three rules
abbrev unpruned : RuleSet → List ℕ → List ℕ → ℕ → ℕ → ℕ → Question
unpruned set start goal moves cost limit =
    search set (record {
      reach = 1;
      table = replicate 8 255;
      start = start;
      goal = goal;
      max_moves = moves;
      max_cost =
          cost;
      step_limit = limit;
    }) moves

-- a query of E at a reach, with a table, and with a start and a goal; 2 moves, cost bound 9
abbrev faulty : ℕ → List ℕ → List ℕ → List ℕ → ℕ → ℕ → Question
faulty reach table start goal limit room =
    search E (record {
      reach = reach;
      table = table;
      start = start;
      goal = goal;
      max_moves = 2;
      max_cost = 9;
      step_limit =
          limit;
    }) room

abbrev both : ℕ → List ℕ
both v = v ∷ v ∷ []

abbrev searches : List Row
searches =
    record { asked = unpruned tied (both 0) (both 1) 2 9 4; expected = told 0 2 1 4 (3 ∷ 255 ∷ []) }
    ∷ record { asked = unpruned dear (0 ∷ []) (2 ∷ []) 2 20 4; expected = told 0 2 2 4 (2 ∷ 3 ∷ []) }
    ∷ record { asked = unpruned dear (0 ∷ []) (2 ∷ []) 1 20 4; expected = told 0 9 1 3 (1 ∷ []) }
    ∷ record { asked = unpruned dear (0 ∷ []) (2 ∷ []) 2 1 4; expected = told 15 0 0 2 (255 ∷ 255 ∷ []) }
    -- of two rules with the same lines the plan has the cheaper one, be it the first or the last
    ∷ record { asked = unpruned dearer_later (both 1) (both 0) 2 9 13; expected = told 0 2 2 13 (1 ∷ 2 ∷ []) }
    ∷ record { asked = unpruned dearer_first (both 1) (both 0) 2 9 13; expected = told 0 2 2 13 (2 ∷ 3 ∷ []) }
    -- any value meets 255; sequences beyond a goal state count
    ∷ record { asked = unpruned dear (0 ∷ []) (255 ∷ []) 2 20 4; expected = told 0 0 0 4 (255 ∷ 255 ∷ []) }
    ∷ record { asked = unpruned dear (0 ∷ []) (255 ∷ []) 2 20 3; expected = told_at_limit 0 0 3 0 (255 ∷ 255 ∷ []) }
    -- the order of the refusals: each of these has later faults of the query too
    ∷ record {
      asked =
          search empty_set (record {
            reach = 0;
            table = [];
            start = 0 ∷ [];
            goal = [];
            max_moves = 1;
            max_cost = 0;
            step_limit = 0;
          }) 0;
      expected = told 7 0 0 0 [];
    }
    ∷ record { asked = faulty 0 [] (2 ∷ []) (2 ∷ []) 0 1; expected = told 5 0 0 0 (255 ∷ []) }
    ∷ record { asked = faulty 4 [] (2 ∷ []) (2 ∷ []) 0 1; expected = told 5 0 0 0 (255 ∷ []) }
    ∷ record { asked = faulty 2 (replicate 13 0) (2 ∷ []) (2 ∷ []) 0 1; expected = told 6 0 0 0 (255 ∷ []) }
    ∷ record { asked = faulty 2 (replicate 14 0) (both 2) (both 2) 0 1; expected = told 9 0 0 0 (255 ∷ []) }
    ∷ record { asked = faulty 2 (replicate 14 0) (1 ∷ []) (both 2) 0 1; expected = told 9 0 0 0 (255 ∷ []) }
    ∷ record { asked = faulty 2 (replicate 14 0) (both 255) (both 2) 0 1; expected = told 9 0 0 0 (255 ∷ []) }
    ∷ record { asked = faulty 2 (replicate 14 0) (both 1) (both 2) 0 1; expected = told 10 0 0 0 (255 ∷ []) }
    ∷ record { asked = faulty 2 (replicate 14 0) (both 1) (both 255) 0 1; expected = told 12 0 0 0 (255 ∷ []) }
    ∷ record { asked = faulty 2 (replicate 14 0) (both 1) (both 255) 0 2; expected = told 14 0 0 0 (both 255) }
    ∷ record { asked = faulty 2 (replicate 14 255) (both 1) (both 255) 0 2; expected = told 16 0 0 0 (both 255) }
    ∷ []

-- ── Listing and packed answer ────────────────────────────────────────────────────────────────────

-- the query of P1
abbrev first : Query
first =
    record {
      reach = 2;
      table = built_table E 2;
      start = both 1;
      goal = both 0;
      max_moves = 2;
      max_cost = 9;
      step_limit =
          4;
    }

abbrev texts : List Row
texts =
    record { asked = list file_e; expected = lists listing_e }
    -- rule 2 reads 1, and its witness does not; no state admits (1,2), nor (2,2)
    ∷ record {
      asked = list file_cheap_first;
      expected = lists
          (bytes "reach=2\nrules=2\nmarks=5\n"
          ++ bytes "drop=2\nfor=1\nreads=1\nmoves=1\n"
          ++ bytes "drop=1,1\nfor=1\nreads=\nmoves=1\n"
          ++ bytes "drop=1,2\nfor=\nreads=\nmoves=\n"
          ++ bytes "drop=2,1\nfor=1\nreads=1\nmoves=1\n"
          ++ bytes "drop=2,2\nfor=\nreads=\nmoves=\n");
    }
    ∷ record { asked = list "positions=17\n"; expected = lists (bytes "refused=2\n") }
    -- 0 + 256 · 2 + 65536 · 2 + 2^32 · 4
    ∷ record { asked = enter file_e first 3; expected = packs 17180000768 (1 ∷ 2 ∷ 255 ∷ []) }
    ∷ record { asked = enter "positions=17\n" first 3; expected = packs 2 (255 ∷ 255 ∷ 255 ∷ []) }
    ∷ []

abbrev pub rows : List Row
rows = macros ++ positions ++ tables ++ unions ++ same_lines ++ searches ++ texts ++ single_values

pub further_cases : map (λ (row : Row). reply row.asked) rows ≡ map (λ (row : Row). row.expected) rows
unfolding value_of values_of applicable successor width states rule_at step_of rule_cost states_of run_in sequence_cost admitted
    redundant entry_limited condition_placed effect_placed condition_valid effect_valid size_valid sizes_valid rule_valid
    rule_blank rule_valid_at rules_valid duplicate repeated has_duplicates well_formed valid literal digits is_number decimal
    number number_within variable constant entry size_item condition_item effect_item items_after number_line list_line
    rule_lines rules_after rule_list file_lines finished reading own_variables empty_lines replaced clash equated unified
    followed extended composed_from composed has set_of named_elsewhere read_at written_at touched_by touched_in
    macro_causes macro_answer table_entries sequence_at entry_at marked built_entry built_table entry_justified accepted
    table_causes build_outcome built_buffer check_causes check_outcome marked_sequences union_of table_touched build_answer
    check_answer start_fits goal_fits meets_goal visited_by plans_for looked_at cheapest_looked frontier_of floor_beside
    query_causes cheapest_plan search_causes shown_plan searched_with searched numeral line marked_indices mark_lines listing_of
    listing packed text_refused of_text searched_text packed_search
further_cases = refl

-- ── Redundancy ───────────────────────────────────────────────────────────────────────────────────

-- with the empty sequence, by vectors: a swap is not, nor is rule 2, which does nothing in the state 0,0; a swap twice
-- is
pub redundancies : map
    (λ (q : List ℕ). redundant_by_lines swapped (composed swapped q) (sequence_cost swapped q) [])
    ((1 ∷ []) ∷ (2 ∷ []) ∷ (1 ∷ 1 ∷ []) ∷ [])
    ≡ false ∷ false ∷ true ∷ []
unfolding value_of values_of applicable successor width rule_at step_of rule_cost run_in sequence_cost
    literal digits is_number decimal number number_within variable constant entry size_item condition_item effect_item
    items_after number_line list_line rule_lines rules_after rule_list file_lines finished reading
    entry_limited condition_placed effect_placed condition_valid effect_valid size_valid sizes_valid rule_valid rule_blank
    rule_valid_at rules_valid duplicate repeated has_duplicates well_formed valid
    own_variables empty_lines replaced clash equated unified followed extended composed_from composed
    covers redundant_by_lines
redundancies = refl

-- ── Plan part and tally ──────────────────────────────────────────────────────────────────────────

pub plan_parts : map (plan_part (1 ∷ 2 ∷ 255 ∷ [])) (0 ∷ 2 ∷ 3 ∷ 4 ∷ []) ≡ [] ∷ (1 ∷ 2 ∷ []) ∷ (1 ∷ 2 ∷ 255 ∷ []) ∷ []
    ∷ []
unfolding plan_part
plan_parts = refl

-- the five counts of a tally, in their order
abbrev tally_of : ℕ → ℕ → ℕ → ℕ → ℕ → Tally
tally_of solved unsolvable limited refused steps =
    record { solved = solved; unsolvable = unsolvable; limited = limited; refused = refused; steps = steps }

-- counts that are at their top or one below it
abbrev full : Tally
full = tally_of 18446744073709551615 18446744073709551614 5 7 18446744073709551610

pub tallies : map (λ (outcome : ℕ). tallied_of full outcome 9) (0 ∷ 15 ∷ 16 ∷ 17 ∷ 18 ∷ [])
    ≡ tally_of 18446744073709551615 18446744073709551614 5 7 18446744073709551615
    ∷ tally_of 18446744073709551615 18446744073709551615 5 7 18446744073709551615
    ∷ tally_of 18446744073709551615 18446744073709551614 6 7 18446744073709551615
    ∷ tally_of 18446744073709551615 18446744073709551614 5 8 18446744073709551615
    ∷ tally_of 18446744073709551615 18446744073709551614 6 7 18446744073709551615
    ∷ []
unfolding tallied_of
tallies = refl
