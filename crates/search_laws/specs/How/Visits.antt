-- How the search goes about it, over what it lends to itself: the rules' lines and costs, the look-up, the goal and the
-- limits. No promise of a call needs this file, only those of functions below the calls; the laws in proofs/ equate it
-- with the definitions of `search_spec`.
use Rattle.std.specs.Prelude.{◌≡◌, Bool, true, false, cond, ◌&&◌, ◌||◌, List, [], ◌∷◌, ℕ, zero, suc, ◌+◌, ◌-◌, ◌≤◌}
use Rattle.std.specs.Prelude.{◌<◌, min, leb, ltb, eqb, length, get_or, take, drop}
use Rattle.std.specs.Prelude.{Option as Held, Some, None}
use Rattle.std.proofs.Math.Option.{Option, some, none}
use Rattle.theory_spec.specs.Lists.{only_if, padded, same}
use Rattle.theory_spec.specs.Sequences.{Sequence, cost_of, Numbered}
use Rattle.theory_spec.specs.How.Indices.{index_of}
use Rattle.theory_spec.specs.Plans.{reaches}
use Rattle.theory_spec.specs.Frontier.{least_cost}
use Rattle.theory_spec.specs.How.Recursion.{last, explore_with, best}
use Rattle.model_spec.specs.Limits.{max_positions, place_count, max_rules, move_limit}
use Rattle.model_spec.specs.States.{State, values_of, applicable, successor}
use Rattle.model_spec.specs.Rules.{step_of, rule_cost, sequence_cost}
use Rattle.model_spec.specs.declared.RuleSet.{RuleSet}
use Rattle.search_spec.specs.Query.{Query, start_state, meets_goal, visited_by}
use Rattle.search_spec.specs.Searched.{no_move}
use Rattle.search_laws.specs.declared.Plan.{Plan}
use Rattle.search_laws.specs.declared.Progress.{Progress}
use Rattle.search_laws.specs.declared.Limits.{Limits}

-- ── One rule more ────────────────────────────────────────────────────────────────────────────────

-- the state that rule r leads to, by the conditions and effects
unfoldable pub lent_step : List (List ℕ) → List (List ℕ) → ℕ → State → Option State
lent_step conditions effects r s =
    only_if (applicable (get_or conditions (r - 1) []) s) (successor (get_or effects (r - 1) []) s)

-- the first n places of a state hold what a condition's entries there stand for
unfoldable pub meets_within : ℕ → List ℕ → State → Bool
meets_within n condition s = same (values_of (take n condition) s) (take n s)

-- a list with the first n elements of another over its own
unfoldable pub laid_over : ℕ → List ℕ → List ℕ → List ℕ
laid_over zero new old = old
laid_over (suc n) [] old = old
laid_over (suc n) (x ∷ new) [] = []
laid_over (suc n) (x ∷ new) (y ∷ old) = x ∷ laid_over n new old

-- what rule r costs
unfoldable pub lent_cost : List ℕ → ℕ → ℕ
lent_cost costs r = get_or costs (r - 1) 0

-- the search may go on to q: it costs no more than the cost bound, and the look-up at the index of its last `reach`
-- rules finds no mark
unfoldable pub may_go_on : List ℕ → List ℕ → Limits → Sequence → Bool
may_go_on costs blocked limits q =
    leb (cost_of (lent_cost costs) q) limits.max_cost
    && eqb (get_or blocked (index_of limits.count (last limits.reach q)) 0) 0

-- ── What the search carries along ────────────────────────────────────────────────────────────────

-- a plan of n moves at a cost replaces the best so far: there is none yet, or it is cheaper, or costs the same and is
-- shorter
unfoldable pub replaces : Held Plan → ℕ → ℕ → Bool
replaces None cost n = true
replaces (Some former) cost n = ltb cost former.cost || (eqb cost former.cost && ltb n former.length)

-- a sequence, at its cost, as a plan
unfoldable pub as_plan : ℕ → Sequence → Plan
as_plan cost q = record { cost = cost; length = length q; moves = padded move_limit no_move q }

-- the best plan after one whose n moves stand in an array, which costs so much and has led to the state s
unfoldable pub best_at : List ℕ → ℕ → ℕ → List ℕ → State → Held Plan → Held Plan
best_at goal cost n moves s former =
    cond (meets_goal goal s && replaces former cost n) (Some (record { cost = cost; length = n; moves = moves }))
    former

-- what visiting a sequence, whose n moves stand in an array, makes of the progress: one step more, if the limit allows
-- it; else the limit is exceeded, and the least cost beyond it is no higher than the sequence's
unfoldable pub noted_moves : List ℕ → ℕ → ℕ → ℕ → List ℕ → State → Progress → Progress
noted_moves goal limit cost n moves s p =
    cond (ltb p.steps limit)
    (record { steps = p.steps + 1; exceeded = false; best = best_at goal cost n moves s p.best; least = p.least })
    (record { steps = p.steps; exceeded = true; best = p.best; least = min p.least cost })

-- the same for a sequence q, whose moves stand in front of a blank rest
unfoldable pub noted : List ℕ → ℕ → ℕ → Sequence → State → Progress → Progress
noted goal limit cost q = noted_moves goal limit cost (length q) (padded move_limit no_move q)

-- the progress before any sequence is visited
unfoldable pub no_progress : Progress
no_progress = record { steps = 0; exceeded = false; best = None; least = 65535 }

-- the progress after the sequence q, which has led to the state s, and all that extends it by at most n rules
unfoldable pub visits_from : List (List ℕ) → List (List ℕ) → List ℕ → List ℕ → List ℕ → Limits
    → ℕ → Sequence → State → Progress → Progress
visits_from conditions effects costs blocked goal limits =
    explore_with (lent_step conditions effects) limits.count (λ q _. may_go_on costs blocked limits q)
    (λ q. noted goal limits.step_limit (cost_of (lent_cost costs) q) q)

-- ── What the recursion asks ──────────────────────────────────────────────────────────────────────

-- only zeros from a place on
abbrev pub ZerosFrom : ℕ → List ℕ → Type 0
ZerosFrom n l = (i : ℕ) → n ≤ i → get_or l i 0 ≡ 0

-- sixteen entries, or a state, with only zeros from a place on
abbrev pub EndsAt : ℕ → List ℕ → Type 0
EndsAt n l = (length l ≡ place_count) × ZerosFrom n l

-- what stays the same all through: numbers within their limits, and rules whose lines are zero beyond the positions
pub record Lent (conditions effects : List (List ℕ)) (goal : List ℕ) (limits : Limits) : Type 0 where
  pub position_limit : limits.positions ≤ max_positions
  pub count_limits : (1 ≤ limits.count) × (limits.count ≤ max_rules)
  pub reach_limits : (1 ≤ limits.reach) × (limits.reach ≤ 3)
  pub goal_limit : length goal ≤ max_positions
  pub condition_ends : (k : ℕ) → k < limits.count → EndsAt limits.positions (get_or conditions k [])
  pub effect_ends : (k : ℕ) → k < limits.count → EndsAt limits.positions (get_or effects k [])

-- the first n moves of the plan are the sequence so far: rules of the set, at that cost, with at most `left` moves to
-- come; the rest of the plan is blank, and the state ends in zeros
pub record Reached (costs : List ℕ) (limits : Limits) (state plan : List ℕ) (n cost left : ℕ) : Type 0 where
  pub room : n + left ≤ move_limit
  pub rest : plan ≡ padded move_limit no_move (take n plan)
  pub rules : Numbered limits.count (take n plan)
  pub total : cost ≡ cost_of (lent_cost costs) (take n plan)
  pub state_end : EndsAt limits.positions state

-- ── What the whole search comes to ───────────────────────────────────────────────────────────────

-- a plan, or none, as the best one
unfoldable pub as_best : (Sequence → ℕ) → Option Sequence → Held Plan
as_best cost none = None
as_best cost (some q) = Some (as_plan (cost q) q)

-- the progress of the whole search: the steps are the visited sequences up to the limit; the best plan is the best of
-- these, and beside it stands the least cost of the others
unfoldable pub whole_progress : RuleSet → Query → Progress
whole_progress set query =
    let visits = visited_by set query in
    let good = reaches (step_of set) (start_state query) (meets_goal query.goal) in
    record {
      steps = min (length visits) query.step_limit;
      exceeded = ltb query.step_limit (length visits);
      best = as_best (sequence_cost set) (best (rule_cost set) good none (take query.step_limit visits));
      least = least_cost (rule_cost set) 65535 (drop query.step_limit visits);
    }

-- the outcome of a query that is not refused, by whether the limit is exceeded and whether a plan is found
unfoldable pub outcome_of : Bool → Bool → ℕ
outcome_of exceeded found = cond exceeded (cond found 18 16) (cond found 0 15)

-- the floor shown beside a plan at a cost, where what is met beyond the limit costs at least so much; 0 within it
unfoldable pub floor_shown : Bool → ℕ → ℕ → ℕ
floor_shown exceeded cost least = cond exceeded (min cost least) 0
