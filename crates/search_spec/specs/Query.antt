-- A query, and what document 01 says of sequences under one. None of this depends on what the search does.
use Rattle.std.specs.Prelude.{◌≡◌, Bool, ◌&&◌, ◌||◌, List, [], ◌++◌, ℕ, ◌≤◌, ◌<◌, ltb, eqb, length, get_or}
use Rattle.std.proofs.Math.Option.{some}
use Rattle.theory_spec.specs.Lists.{every, numbers_from, padded}
use Rattle.theory_spec.specs.Sequences.{Sequence, Numbered}
use Rattle.theory_spec.specs.Plans.{candidates, visited}
use Rattle.model_spec.specs.Limits.{place_count}
use Rattle.model_spec.specs.States.{State}
use Rattle.model_spec.specs.Rules.{step_of, rule_cost, run_in, sequence_cost}
use Rattle.model_spec.specs.declared.RuleSet.{RuleSet}
use Rattle.tables_spec.specs.Table.{marked, Marked}
use Rattle.search_spec.specs.declared.Query.{Query as PassedQuery}

-- what a search is asked: the table and its reach, the start, the goal, the move bound (0 to 32), the cost bound
-- (16 bits) and the step limit (document 01: the ceiling, 32 bits)
pub record Query : Type 0 where
  pub reach : ℕ
  pub table : List ℕ
  pub start : List ℕ
  pub goal : List ℕ
  pub max_moves : ℕ
  pub max_cost : ℕ
  pub step_limit : ℕ

-- the query of these parts
abbrev pub asked : ℕ → List ℕ → List ℕ → List ℕ → ℕ → ℕ → ℕ → Query
asked reach table start goal max_moves max_cost step_limit =
    record {
      reach = reach;
      table = table;
      start = start;
      goal = goal;
      max_moves = max_moves;
      max_cost = max_cost;
      step_limit = step_limit;
    }

-- the query of a call
abbrev pub query_of : PassedQuery → Query
query_of q = asked q.reach q.table.now q.start.now q.goal.now q.max_moves q.max_cost q.step_limit

-- the start has one byte for each position, each below its size
unfoldable pub start_fits : RuleSet → List ℕ → Bool
start_fits set start =
    eqb (length start) set.positions
    && every (λ i. ltb (get_or start i 0) (get_or set.sizes i 0)) (numbers_from 0 set.positions)

-- 255 in a goal means any value
abbrev pub any_value : ℕ
any_value = 255

-- the goal has one byte for each position, each below its size or 255
unfoldable pub goal_fits : RuleSet → List ℕ → Bool
goal_fits set goal =
    eqb (length goal) set.positions
    && every (λ i. eqb (get_or goal i 0) any_value || ltb (get_or goal i 0) (get_or set.sizes i 0))
    (numbers_from 0 set.positions)

-- the state of a start: 0 beyond the positions
abbrev pub start_state : Query → State
start_state query = padded place_count 0 query.start

-- a state meets the goal: it holds the goal's byte at every position where that byte is not 255
unfoldable pub meets_goal : List ℕ → State → Bool
meets_goal goal s =
    every (λ i. eqb (get_or goal i 0) any_value || eqb (get_or s i 0) (get_or goal i 0)) (numbers_from 0 (length goal))

-- the visited sequences (document 01: walked): they can be run from the start, are within both bounds, and no segment
-- of them is marked
unfoldable pub visited_by : RuleSet → Query → List Sequence
visited_by set query =
    visited (step_of set) (rule_cost set) set.count (marked set query.reach query.table)
    (start_state query) query.max_moves query.max_cost

-- all sequences that lead from the start to the goal within both bounds, pruned ones included, in document 01's order
unfoldable pub plans_for : RuleSet → Query → List Sequence
plans_for set query =
    candidates (step_of set) (rule_cost set) set.count (start_state query)
    (meets_goal query.goal) query.max_moves query.max_cost

-- ── The same as statements ───────────────────────────────────────────────────────────────────────

-- the start has one byte for each position, each below its size
abbrev pub StartFits : RuleSet → List ℕ → Type 0
StartFits set start =
    (length start ≡ set.positions)
    × ((i : ℕ) → i < set.positions → get_or start i 0 < get_or set.sizes i 0)

-- the goal likewise, but for bytes that are 255
abbrev pub GoalFits : RuleSet → List ℕ → Type 0
GoalFits set goal =
    (length goal ≡ set.positions)
    × ((i : ℕ) → i < set.positions → (get_or goal i 0 ≡ any_value → ⊥) → get_or goal i 0 < get_or set.sizes i 0)

-- a rule sequence that can be run from the start, within both bounds
pub record RunsWithin (set : RuleSet) (query : Query) (q : Sequence) : Type 0 where
  pub rules : Numbered set.count q
  pub moves : length q ≤ query.max_moves
  pub costs : sequence_cost set q ≤ query.max_cost
  pub end : State
  pub runs : run_in set q (start_state query) ≡ some end

-- a state meets the goal
abbrev pub MeetsGoal : List ℕ → State → Type 0
MeetsGoal goal s = (i : ℕ) → i < length goal → (get_or goal i 0 ≡ any_value → ⊥) → get_or s i 0 ≡ get_or goal i 0

-- a rule sequence that leads from the start to the goal within both bounds, pruned or not
pub record LeadsToGoal (set : RuleSet) (query : Query) (q : Sequence) : Type 0 where
  pub runs_within : RunsWithin set query q
  pub at_goal : MeetsGoal query.goal runs_within.end

-- no segment of the sequence, from one rule to the whole, is marked (document 01: undropped)
abbrev pub Unpruned : RuleSet → Query → Sequence → Type 0
Unpruned set query q =
    (x b y : Sequence) → q ≡ x ++ b ++ y → (b ≡ [] → ⊥) → Marked set query.reach query.table b → ⊥
