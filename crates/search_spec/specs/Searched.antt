-- What a search answers: demand 3. Once the query is not refused, the answer speaks of all rule sequences. Of the table
-- it speaks only through the unpruned ones: their number and, over the step limit, the first of them and what extends
-- these. `room` is the plan buffer's length in bytes.
use Rattle.std.specs.Prelude.{◌≡◌, ◌⊎◌, ◌↔◌, ◌≢◌, Bool, not, ◌&&◌, ◌||◌, cond, List, [], ◌∷◌, ◌++◌, ℕ, min, ◌*◌, ◌≤◌}
use Rattle.std.specs.Prelude.{◌<◌, ltb, eqb, length, replicate}
use Rattle.std.proofs.Math.Option.{Option, some, none}
use Rattle.theory_spec.specs.Lists.{◌∈◌, is_some, padded, Pairwise}
use Rattle.theory_spec.specs.Sequences.{Sequence}
use Rattle.theory_spec.specs.Plans.{cheapest, Preferred}
use Rattle.model_spec.specs.Limits.{move_limit}
use Rattle.model_spec.specs.Refusals.{Cause, first_refusal, NoneHolds}
use Rattle.model_spec.specs.Rules.{rule_cost, sequence_cost}
use Rattle.model_spec.specs.Validity.{Valid}
use Rattle.model_spec.specs.declared.RuleSet.{RuleSet}
use Rattle.tables_spec.specs.Table.{table_entries, accepted, Accepted}
use Rattle.tables_spec.specs.Answers.{table_causes, ReachLimits, Ready}
use Rattle.search_spec.specs.Query.{Query, start_fits, goal_fits, visited_by, plans_for}
use Rattle.search_spec.specs.Query.{StartFits, GoalFits, RunsWithin, LeadsToGoal, Unpruned}
use Rattle.search_spec.specs.Looked.{exceeds_limit, cheapest_looked, floor_beside}
use Rattle.search_spec.specs.Looked.{LookedMeaning, LookedPlan, Frontier}
use Rattle.search_spec.specs.declared.Answer.{Answer}

-- the causes for which a query is refused before its table's marks are judged, in document 01's order:
-- set, reach, table length, start, goal, more than 32 moves, plan buffer shorter than the move bound
abbrev pub request_causes : RuleSet → Query → ℕ → List Cause
request_causes set query room =
    table_causes set query.reach (length query.table)
    ++ ((9, not (start_fits set query.start))
    ∷ (10, not (goal_fits set query.goal))
    ∷ (11, ltb move_limit query.max_moves)
    ∷ (12, ltb room query.max_moves)
    ∷ [])

-- the causes for which it is refused before any sequence is visited: last, that the table is not accepted
unfoldable pub query_causes : RuleSet → Query → ℕ → List Cause
query_causes set query room =
    request_causes set query room ++ ((14, not (accepted set query.reach query.table)) ∷ [])

-- of all plans the cheapest; of those that cost the same the first in document 01's order
unfoldable pub cheapest_plan : RuleSet → Query → Option Sequence
cheapest_plan set query = cheapest (rule_cost set) (plans_for set query)

-- how a query ends that is not refused, if not with the cheapest plan: more sequences to visit than the step limit,
-- with a plan among those looked at or with none; no plan
abbrev pub end_causes : RuleSet → Query → List Cause
end_causes set query =
    (18, exceeds_limit set query && is_some (cheapest_looked set query))
    ∷ (16, exceeds_limit set query)
    ∷ (15, not (is_some (cheapest_plan set query)))
    ∷ []

-- all causes of a search
unfoldable pub search_causes : RuleSet → Query → ℕ → List Cause
search_causes set query room = query_causes set query room ++ end_causes set query

-- the outcomes over the step limit (document 02: spent): no plan among what is looked at (16), or one (18)
abbrev pub is_limited : ℕ → Bool
is_limited outcome = eqb outcome 16 || eqb outcome 18

-- the outcomes of a query that is not refused: a plan (0), no plan (15), those over the step limit
abbrev pub is_answer : ℕ → Bool
is_answer outcome = eqb outcome 0 || (eqb outcome 15 || is_limited outcome)

-- the plan; the empty sequence where there is none
abbrev pub plan_of : Option Sequence → Sequence
plan_of none = []
plan_of (some q) = q

-- the plan shown: with 0 the cheapest, with 18 the cheapest of those looked at, otherwise empty
unfoldable pub shown_plan : RuleSet → Query → ℕ → Sequence
shown_plan set query outcome =
    cond (eqb outcome 0) (plan_of (cheapest_plan set query))
    (cond (eqb outcome 18) (plan_of (cheapest_looked set query)) [])

-- the byte of the plan buffer where there is no move
abbrev pub no_move : ℕ
no_move = 255

-- an answer, and the plan buffer after the call
pub record Searched : Type 0 where
  pub answer : Answer
  pub plan : List ℕ

-- what a search leaves with an outcome: the cost and the length of the plan shown, the steps, with 18 the floor, and
-- the plan's rule numbers with 255 in every other byte
unfoldable pub searched_with : RuleSet → Query → ℕ → ℕ → Searched
searched_with set query room outcome =
    record {
      answer = record {
        outcome = outcome;
        cost = sequence_cost set (shown_plan set query outcome);
        length = length (shown_plan set query outcome);
        steps = cond (is_answer outcome) (min (length (visited_by set query)) query.step_limit) 0;
        floor = cond (eqb outcome 18) (floor_beside set query (shown_plan set query outcome)) 0;
      };
      plan = padded room no_move (shown_plan set query outcome);
    }

-- what a call leaves that is refused before its query is judged: the number alone, and a blank plan buffer
unfoldable pub refused_search : ℕ → ℕ → Searched
refused_search outcome room = record {
  answer = record { outcome = outcome; cost = 0; length = 0; steps = 0; floor = 0 };
  plan = replicate room no_move;
}

-- what a search leaves
unfoldable pub searched : RuleSet → Query → ℕ → Searched
searched set query room = searched_with set query room (first_refusal (search_causes set query room))

-- ── Demand 3 as statements over all rule sequences ───────────────────────────────────────────────

-- the query is not refused; so its table is accepted
abbrev pub NotRefused : RuleSet → Query → ℕ → Type 0
NotRefused set query room = NoneHolds (query_causes set query room)

-- the outcome is one over the step limit (document 02: spent)
abbrev pub Limited : ℕ → Type 0
Limited outcome = (outcome ≡ 16) ⊎ (outcome ≡ 18)

-- what then holds of its answer
pub record Demand3 (set : RuleSet) (query : Query) (room : ℕ) (found : Searched) : Type 0 where
  -- the counted sequences are the unpruned ones that can be run from the start within both bounds, each once
  pub counted : (q : Sequence) → (q ∈ visited_by set query) ↔ (RunsWithin set query q × Unpruned set query q)
  pub once : Pairwise (λ (a b : Sequence). a ≢ b) (visited_by set query)
  pub steps : found.answer.steps ≡ min (length (visited_by set query)) query.step_limit
  -- the limit is exceeded (document 01: spent) exactly if their number is above it
  pub limit_exceeded : Limited found.answer.outcome ↔ (query.step_limit < length (visited_by set query))
  -- if it is not, no plan exactly if no rule sequence at all leads to the goal within both bounds; otherwise a plan is
  -- found
  pub no_plan : (Limited found.answer.outcome → ⊥)
      → ((found.answer.outcome ≡ 15) ↔ ((q : Sequence) → LeadsToGoal set query q → ⊥))
  pub plan_found : (Limited found.answer.outcome → ⊥) → found.answer.outcome ≢ 15 → found.answer.outcome ≡ 0
  -- the plan found is one of those sequences, its cost is the cost shown, and every other one costs more, or costs as
  -- much and comes later
  pub cheapest_shown : found.answer.outcome ≡ 0
      → (p : Sequence)
      × LeadsToGoal set query p
      × (found.answer.cost ≡ sequence_cost set p)
      × (found.answer.length ≡ length p)
      × (found.plan ≡ padded room no_move p)
      × ((q : Sequence) → LeadsToGoal set query q → (q ≡ p) ⊎ Preferred (rule_cost set) p q)

-- ── Over the step limit ──────────────────────────────────────────────────────────────────────────

-- what is shown with outcome 18, which does not claim to be the cheapest plan
pub record PlanAtLimit (set : RuleSet) (query : Query) (room : ℕ) (found : Searched) : Type 0 where
  -- the plan shown is looked at, its cost is the cost shown, and every other plan that is looked at costs more, or
  -- costs as much and comes later
  pub shown : Sequence
  pub is_looked : LookedPlan set query shown
  pub cost_shown : found.answer.cost ≡ sequence_cost set shown
  pub length_shown : found.answer.length ≡ length shown
  pub plan_shown : found.plan ≡ padded room no_move shown
  pub preferred : (q : Sequence) → LookedPlan set query q → (q ≡ shown) ⊎ Preferred (rule_cost set) shown q
  -- the floor is at most the cost shown and at most what each sequence of the frontier costs, and it is one of these
  pub floor_below_cost : found.answer.floor ≤ found.answer.cost
  pub floor_below_frontier : (q : Sequence) → Frontier set query q → found.answer.floor ≤ sequence_cost set q
  pub floor_reached : (found.answer.floor ≡ found.answer.cost)
      ⊎ ((q : Sequence) × Frontier set query q × (found.answer.floor ≡ sequence_cost set q))
  -- no plan within both bounds, pruned or not, looked at or not, costs less
  pub no_cheaper_plan : (q : Sequence) → LeadsToGoal set query q → found.answer.floor ≤ sequence_cost set q

-- ── What the answer of any query means ───────────────────────────────────────────────────────────

-- what a query has passed, up to the start, the goal, the move bound and the plan buffer's length
abbrev pub StartPassed : RuleSet → Query → Type 0
StartPassed set query = Ready set query.reach (length query.table) × StartFits set query.start

abbrev pub GoalPassed : RuleSet → Query → Type 0
GoalPassed set query = StartPassed set query × GoalFits set query.goal

abbrev pub MovesPassed : RuleSet → Query → Type 0
MovesPassed set query = GoalPassed set query × (query.max_moves ≤ move_limit)

abbrev pub RoomPassed : RuleSet → Query → ℕ → Type 0
RoomPassed set query room = MovesPassed set query × (query.max_moves ≤ room)

-- no cause of a refusal holds: all that, and the table is accepted
abbrev pub WellPosed : RuleSet → Query → ℕ → Type 0
WellPosed set query room = RoomPassed set query room × Accepted set query.reach query.table

-- the same, and the sequences to visit are more than the limit
abbrev pub OverLimit : RuleSet → Query → ℕ → Type 0
OverLimit set query room = WellPosed set query room × (query.step_limit < length (visited_by set query))

-- or they are not
abbrev pub WithinLimit : RuleSet → Query → ℕ → Type 0
WithinLimit set query room = WellPosed set query room × (length (visited_by set query) ≤ query.step_limit)

-- what a search tells and leaves: each number exactly if its cause holds and none before it does, 0 exactly if none
-- holds; demand 3 for every query that is not refused; over the limit the steps are the limit, and 18 shows a plan and
-- a floor; no steps for a query that is refused; without a plan a blank plan buffer; and a floor with 18 alone
pub record SearchMeaning (set : RuleSet) (query : Query) (room : ℕ) (found : Searched) : Type 0 where
  pub not_valid : (found.answer.outcome ≡ 7) ↔ (Valid set → ⊥)
  pub bad_reach : (found.answer.outcome ≡ 5) ↔ (Valid set × (ReachLimits query.reach → ⊥))
  pub bad_length : (found.answer.outcome ≡ 6)
      ↔ (Valid set × (ReachLimits query.reach × (length query.table ≢ 2 * table_entries set query.reach)))
  pub bad_start : (found.answer.outcome ≡ 9)
      ↔ (Ready set query.reach (length query.table) × (StartFits set query.start → ⊥))
  pub bad_goal : (found.answer.outcome ≡ 10) ↔ (StartPassed set query × (GoalFits set query.goal → ⊥))
  pub many_moves : (found.answer.outcome ≡ 11) ↔ (GoalPassed set query × (move_limit < query.max_moves))
  pub small_buffer : (found.answer.outcome ≡ 12) ↔ (MovesPassed set query × (room < query.max_moves))
  pub not_accepted : (found.answer.outcome ≡ 14)
      ↔ (RoomPassed set query room × (Accepted set query.reach query.table → ⊥))
  pub plan_at_limit : (found.answer.outcome ≡ 18)
      ↔ (OverLimit set query room × ((q : Sequence) × LookedPlan set query q))
  pub none_at_limit : (found.answer.outcome ≡ 16)
      ↔ (OverLimit set query room × ((q : Sequence) → LookedPlan set query q → ⊥))
  pub unsolvable : (found.answer.outcome ≡ 15)
      ↔ (WithinLimit set query room × ((q : Sequence) → LeadsToGoal set query q → ⊥))
  pub solved : (found.answer.outcome ≡ 0)
      ↔ (WithinLimit set query room × ((q : Sequence) × LeadsToGoal set query q))
  pub answered : WellPosed set query room → Demand3 set query room found
  pub looked : LookedMeaning set query
  pub limit_steps : Limited found.answer.outcome → found.answer.steps ≡ query.step_limit
  pub shown_at_limit : found.answer.outcome ≡ 18 → PlanAtLimit set query room found
  pub no_steps : (WellPosed set query room → ⊥) → found.answer.steps ≡ 0
  pub no_plan_shown : found.answer.outcome ≢ 0 → found.answer.outcome ≢ 18
      → (found.answer.cost ≡ 0) × (found.answer.length ≡ 0) × (found.plan ≡ replicate room no_move)
  pub no_floor : found.answer.outcome ≢ 18 → found.answer.floor ≡ 0
