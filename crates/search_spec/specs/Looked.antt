-- What a search over its step limit looks at, the best plan of it, and the floor (document 02, request 2026-03).
use Rattle.std.specs.Prelude.{◌≡◌, Bool, List, [], ◌∷◌, ◌++◌, ℕ, ◌<◌, ltb, length, take, drop}
use Rattle.std.proofs.Math.Option.{Option}
use Rattle.theory_spec.specs.Lists.{◌∈◌, keep, Pairwise}
use Rattle.theory_spec.specs.Sequences.{Sequence}
use Rattle.theory_spec.specs.Order.{LexBefore}
use Rattle.theory_spec.specs.Plans.{cheapest}
use Rattle.theory_spec.specs.Frontier.{is_in, frontier, least_cost}
use Rattle.model_spec.specs.Rules.{rule_cost, sequence_cost}
use Rattle.model_spec.specs.declared.RuleSet.{RuleSet}
use Rattle.search_spec.specs.Query.{Query, visited_by, plans_for, LeadsToGoal}

-- the sequences to visit are more than the step limit
abbrev pub exceeds_limit : RuleSet → Query → Bool
exceeds_limit set query = ltb query.step_limit (length (visited_by set query))

-- the first of the visited sequences, in depth-first order (document 02: the walk's first): as many as the limit, or
-- all where there are no more
unfoldable pub looked_at : RuleSet → Query → List Sequence
looked_at set query = take query.step_limit (visited_by set query)

-- of the plans that are looked at the cheapest; of those that cost the same the first in document 01's order
unfoldable pub cheapest_looked : RuleSet → Query → Option Sequence
cheapest_looked set query = cheapest (rule_cost set) (keep (is_in (looked_at set query)) (plans_for set query))

-- the visited sequences that extend a looked-at one by a single rule and are not looked at
unfoldable pub frontier_of : RuleSet → Query → List Sequence
frontier_of set query = frontier (looked_at set query) (drop query.step_limit (visited_by set query))

-- the floor beside a plan: the smaller of the plan's cost and the least cost among those
unfoldable pub floor_beside : RuleSet → Query → Sequence → ℕ
floor_beside set query plan = least_cost (rule_cost set) (sequence_cost set plan) (frontier_of set query)

-- ── The same as statements ───────────────────────────────────────────────────────────────────────

-- what is looked at: visited sequences in depth-first order, each once, as many as the limit where there are more, and
-- with one of them every visited sequence that comes before it in that order
pub record LookedMeaning (set : RuleSet) (query : Query) : Type 0 where
  pub visits : (q : Sequence) → q ∈ looked_at set query → q ∈ visited_by set query
  pub ordered : Pairwise LexBefore (looked_at set query)
  pub many : query.step_limit < length (visited_by set query) → length (looked_at set query) ≡ query.step_limit
  pub first : (p q : Sequence) → q ∈ looked_at set query → p ∈ visited_by set query → LexBefore p q
      → p ∈ looked_at set query

-- a plan that is looked at
abbrev pub LookedPlan : RuleSet → Query → Sequence → Type 0
LookedPlan set query q = LeadsToGoal set query q × (q ∈ looked_at set query)

-- a visited sequence that extends a looked-at one by a single rule and is not looked at
pub record Frontier (set : RuleSet) (query : Query) (q : Sequence) : Type 0 where
  pub visits : q ∈ visited_by set query
  pub unlooked : q ∈ looked_at set query → ⊥
  pub shorter : Sequence
  pub rule : ℕ
  pub looked : shorter ∈ looked_at set query
  pub extends : q ≡ shorter ++ (rule ∷ [])
