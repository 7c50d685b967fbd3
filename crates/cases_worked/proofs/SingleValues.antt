-- Positions with a single value, worked by hand (document 02, request 2026-05): cases that show faulty planners which P1
-- to P11 do not. Beside a case stands what such a planner answers. `Further` proves them with its own, by evaluation.
use Prim.Native.Nat.{ℕ}
use Prim.Native.String.{String}
use mathlib.Core.List.{List, [], ◌∷◌, ◌++◌}
use lib.ListN.{replicate}
use Rattle.model_spec.specs.declared.RuleSet.{RuleSet}
use Rattle.files_spec.specs.Text.{bytes}
use Rattle.tables_spec.specs.Table.{built_table}
use Rattle.cases_worked.proofs.Worked.{rule_set, Question, search, macro_of, build, check, list, builds}
use Rattle.cases_worked.proofs.Worked.{checks, lists, Row, told, told_at_limit, answer, lines, kept_bytes}
use Rattle.cases_worked.proofs.Worked.{mark_bytes, table_e, listing_e}

-- ── E with a third position, of a single value ───────────────────────────────────────────────────

abbrev file_single : String
file_single = "positions=3\nsizes=2,2,1\nrules=2\ncost=1\nif=x1,x2,0\nthen=0,x2,0\ncost=1\nif=x1,x2,0\nthen=x1,0,0\n"

abbrev with_single : RuleSet
with_single = rule_set file_single

-- a query with its built table
abbrev asked : List ℕ → List ℕ → ℕ → ℕ → ℕ → Question
asked start goal moves cost limit =
    search with_single (record {
      reach = 2;
      table = built_table with_single 2;
      start = start;
      goal = goal;
      max_moves = moves;
      max_cost = cost;
      step_limit = limit;
    }) moves

-- from 1,1,0 to 0,0 and this, a value or 255, at the third position
abbrev of_e : ℕ → ℕ → ℕ → ℕ → Question
of_e third moves cost limit = asked (1 ∷ 1 ∷ 0 ∷ []) (0 ∷ 0 ∷ third ∷ []) moves cost limit

abbrev like_e : List Row
like_e =
    -- the empty sequence. Wrong: `x1,x2,x3` to `x1,x2,x3`
    record { asked = macro_of with_single []; expected = lines (16 ∷ 17 ∷ 0 ∷ []) (16 ∷ 17 ∷ 0 ∷ []) 0 0 0 }
    -- `x1,x2,0` to `0,x2,0` reads nothing. Wrong: it reads 3, by its constant
    ∷ record { asked = macro_of with_single (1 ∷ []); expected = lines (16 ∷ 17 ∷ 0 ∷ []) (0 ∷ 17 ∷ 0 ∷ []) 1 0 1 }
    ∷ record { asked = macro_of with_single (1 ∷ 2 ∷ []); expected = lines (16 ∷ 17 ∷ 0 ∷ []) (0 ∷ 0 ∷ 0 ∷ []) 2 0 3 }
    -- the table of E, with its unions. Wrong: 3 is read
    ∷ record { asked = build with_single 2 14; expected = builds (answer 0 0 3) table_e }
    ∷ record { asked = check with_single 2 table_e; expected = checks (answer 0 0 3) }
    -- (1) is not idle
    ∷ record { asked = check with_single 1 (kept_bytes ++ mark_bytes 0 ++ kept_bytes); expected = checks (answer 14 0 0) }
    -- P1 to P5, with 0 and with any value at the third position
    ∷ record { asked = of_e 255 2 9 4; expected = told 0 2 2 4 (1 ∷ 2 ∷ []) }
    ∷ record { asked = of_e 0 2 9 4; expected = told 0 2 2 4 (1 ∷ 2 ∷ []) }
    ∷ record { asked = of_e 0 2 9 3; expected = told_at_limit 2 2 3 1 (1 ∷ 2 ∷ []) }
    ∷ record { asked = of_e 255 1 9 4; expected = told 15 0 0 3 (255 ∷ []) }
    ∷ record { asked = of_e 0 2 1 4; expected = told 15 0 0 3 (255 ∷ 255 ∷ []) }
    ∷ record { asked = asked (1 ∷ 1 ∷ 0 ∷ []) (1 ∷ 1 ∷ 0 ∷ []) 0 9 1; expected = told 0 0 0 1 [] }
    -- no other value is there, and 9 comes before 10
    ∷ record { asked = asked (1 ∷ 1 ∷ 1 ∷ []) (0 ∷ 0 ∷ 0 ∷ []) 1 9 4; expected = told 9 0 0 0 (255 ∷ []) }
    ∷ record { asked = asked (1 ∷ 1 ∷ 255 ∷ []) (0 ∷ 0 ∷ 0 ∷ []) 1 9 4; expected = told 9 0 0 0 (255 ∷ []) }
    ∷ record { asked = of_e 1 1 9 4; expected = told 10 0 0 0 (255 ∷ []) }
    ∷ record { asked = asked (1 ∷ 1 ∷ 1 ∷ []) (0 ∷ 0 ∷ 1 ∷ []) 1 9 4; expected = told 9 0 0 0 (255 ∷ []) }
    ∷ []

-- ── A single value between two positions, and alone ──────────────────────────────────────────────

-- a swap of positions 1 and 3, an idle rule, and one that runs where position 1 holds 0
abbrev between : RuleSet
between =
    rule_set
    "positions=3\nsizes=2,1,2\nrules=3\ncost=1\nif=x1,0,x3\nthen=x3,0,x1\ncost=5\nif=x1,0,x3\nthen=x1,0,x3\ncost=1\nif=0,0,x3\nthen=1,0,x3\n"

-- one position, of a single value, and one rule, which is idle
abbrev file_alone : String
file_alone = "positions=1\nsizes=1\nrules=1\ncost=1\nif=0\nthen=0\n"

abbrev alone : RuleSet
alone = rule_set file_alone

abbrev of_alone : ℕ → ℕ → ℕ → Question
of_alone start goal limit =
    search alone (record {
      reach = 1;
      table = built_table alone 1;
      start = start ∷ [];
      goal = goal ∷ [];
      max_moves = 1;
      max_cost = 9;
      step_limit = limit;
    }) 1

abbrev others : List Row
others =
    record { asked = macro_of between []; expected = lines (16 ∷ 0 ∷ 18 ∷ []) (16 ∷ 0 ∷ 18 ∷ []) 0 0 0 }
    ∷ record { asked = macro_of between (1 ∷ []); expected = lines (16 ∷ 0 ∷ 18 ∷ []) (18 ∷ 0 ∷ 16 ∷ []) 1 5 5 }
    ∷ record { asked = macro_of between (1 ∷ 3 ∷ []); expected = lines (16 ∷ 0 ∷ 0 ∷ []) (1 ∷ 0 ∷ 16 ∷ []) 2 5 5 }
    -- rule 2 is idle. Wrong: it is kept, by one that compares it with a macro of no moves that has `x2`; 2 is read
    ∷ record {
      asked = build between 1 8;
      expected = builds (answer 0 0 0) (kept_bytes ++ kept_bytes ++ mark_bytes 0 ++ kept_bytes);
    }
    ∷ record {
      asked = check between 1 (kept_bytes ++ kept_bytes ++ mark_bytes 0 ++ kept_bytes);
      expected = checks (answer 0 0 0);
    }
    -- the swap is not idle, nor is rule 3
    ∷ record { asked = check between 1 (kept_bytes ++ mark_bytes 0 ++ replicate 4 255); expected = checks (answer 14 0 0) }
    ∷ record { asked = check between 1 (replicate 6 255 ++ mark_bytes 0); expected = checks (answer 14 0 0) }
    -- alone, at reach 1 and 2. Wrong, by the same planner: (1) is kept, and (1,1) is marked with it
    ∷ record { asked = build alone 1 4; expected = builds (answer 0 0 0) (kept_bytes ++ mark_bytes 0) }
    ∷ record { asked = build alone 2 6; expected = builds (answer 0 0 0) (kept_bytes ++ mark_bytes 0 ++ mark_bytes 0) }
    -- the one state meets every goal; the idle rule is pruned
    ∷ record { asked = of_alone 0 0 1; expected = told 0 0 0 1 (255 ∷ []) }
    ∷ record { asked = of_alone 0 255 1; expected = told 0 0 0 1 (255 ∷ []) }
    ∷ record { asked = of_alone 1 0 1; expected = told 9 0 0 0 (255 ∷ []) }
    ∷ record { asked = of_alone 0 1 1; expected = told 10 0 0 0 (255 ∷ []) }
    ∷ []

-- ── Listings ─────────────────────────────────────────────────────────────────────────────────────

abbrev listings : List Row
listings =
    -- E's listing. Wrong: `reads=3`, `moves=1,3`
    record { asked = list file_single; expected = lists listing_e }
    ∷ record {
      asked = list file_alone;
      expected = lists
          (bytes "reach=2\nrules=1\nmarks=2\n"
          ++ bytes "drop=1\nfor=\nreads=\nmoves=\n"
          ++ bytes "drop=1,1\nfor=\nreads=\nmoves=\n");
    }
    ∷ []

abbrev pub single_values : List Row
single_values = like_e ++ others ++ listings
