-- A plan at the step limit: the floor is the least cost among all that is visited and not looked at, or the plan's, and
-- no plan within both bounds costs less, whatever accepted table the query brings.
-- Assumes nothing.
use mathlib.Core.Path.{◌≡◌, refl, sym, subst}
use mathlib.Core.Logic.{◌⊎◌, inl, inr}
use mathlib.Core.Bool.{false}
use mathlib.Core.Option.{Option, some, none}
use mathlib.Core.List.{List, [], ◌∷◌, ◌++◌}
use Prim.Native.Nat.{ℕ, ◌≤◌}
use native.Mathlib.Omega.{arith}
use lib.ListN.{drop, take-append-drop}
use Rattle.theory_spec.specs.Lists.{◌∈◌}
use Rattle.theory_spec.specs.Sequences.{Sequence}
use Rattle.theory_spec.specs.Frontier.{is_in, least_cost}
use Rattle.theory_spec.proofs.ListLaws.{never_true, take_or-drop}
use Rattle.theory_spec.proofs.CheapestLaws.{preferred_cost}
use Rattle.theory_spec.proofs.FloorLaws.{is_in_lem, least_start, least-below, Attained, least_attained, least-frontier}
use Rattle.model_spec.specs.Rules.{rule_cost, sequence_cost}
use Rattle.model_spec.specs.declared.RuleSet.{RuleSet}
use Rattle.search_spec.specs.Query.{Query, visited_by, LeadsToGoal}
use Rattle.search_spec.specs.Looked.{looked_at, cheapest_looked, frontier_of, floor_beside, Frontier}
use Rattle.search_spec.specs.Searched.{cheapest_plan, plan_of, shown_plan, searched_with, NotRefused, PlanAtLimit}
use Rattle.search_spec.proofs.VisitedLaws.{visited_closed}
use Rattle.search_spec.proofs.LookedLaws.{looked-visited, looked-first, unlooked_iff, frontier_of_iff}
use Rattle.search_spec.proofs.LookedLaws.{looked-leads}
use Rattle.search_spec.proofs.Demand.{with_plan, cheapest-leads, none-leads}
use Rattle.search_spec.proofs.PlanVisited.{plan-visited}

module _ (set : RuleSet) (query : Query) where
  abbrev looked : List Sequence
  looked = looked_at set query

  -- what is visited and not looked at
  abbrev rest : List Sequence
  rest = drop query.step_limit (visited_by set query)

  parts : looked ++ rest ≡ visited_by set query
  unfolding looked_at
  parts = take-append-drop query.step_limit (visited_by set query)

  parts_closed : (x y : Sequence) → (x ++ y) ∈ (looked ++ rest) → x ∈ (looked ++ rest)
  parts_closed x y d =
      subst (λ l. x ∈ l) (sym parts) (visited_closed set query x y (subst (λ l. (x ++ y) ∈ l) parts d))

  apart : (q : Sequence) → q ∈ rest → is_in looked q ≡ false
  apart q d = never_true (is_in looked q) (λ e. ((unlooked_iff set query q).0 d).1 (is_in_lem looked q e))

  -- where a sequence is looked at, the empty one is
  empty-looked : (q : Sequence) → q ∈ looked_at set query → [] ∈ looked_at set query
  empty-looked [] d = d
  empty-looked (r ∷ q) d =
      looked-first set query [] (r ∷ q) d (visited_closed set query [] (r ∷ q) (looked-visited set query (r ∷ q) d)) tt

  -- so the floor is the least over all that is not looked at
  pub floor-rest : (p : Sequence) → p ∈ looked_at set query
      → floor_beside set query p ≡ least_cost (rule_cost set) (sequence_cost set p) rest
  unfolding floor_beside frontier_of
  floor-rest p d =
      sym (least-frontier (rule_cost set) looked rest (empty-looked p d) parts_closed apart (sequence_cost set p))

  module _ (room : ℕ) (h : NotRefused set query room) (p : Sequence) (e : cheapest_looked set query ≡ some p) where
    abbrev floor : ℕ
    floor = floor_beside set query p

    floor-below_cost : floor ≤ sequence_cost set p
    unfolding floor_beside
    floor-below_cost = least_start (rule_cost set) (sequence_cost set p) (frontier_of set query)

    floor-below-frontier : (q : Sequence) → Frontier set query q → floor ≤ sequence_cost set q
    unfolding floor_beside sequence_cost
    floor-below-frontier q f =
        least-below (rule_cost set) (sequence_cost set p) (frontier_of set query) ((frontier_of_iff set query q).1 f)

    floor_reached_lem : (floor ≡ sequence_cost set p)
        ⊎ ((q : Sequence) × Frontier set query q × (floor ≡ sequence_cost set q))
    unfolding floor_beside sequence_cost
    floor_reached_lem = go (least_attained (rule_cost set) (sequence_cost set p) (frontier_of set query))
      where
        go : Attained (rule_cost set) (sequence_cost set p) (frontier_of set query)
            → (floor_beside set query p ≡ sequence_cost set p)
            ⊎ ((q : Sequence) × Frontier set query q × (floor_beside set query p ≡ sequence_cost set q))
        go (inl k) = inl k
        go (inr w) = inr (w.0, (frontier_of_iff set query w.0).0 w.1, w.2)

    -- the cheapest plan of all is visited: it is looked at, and the plan shown costs no more, or it is in the rest
    no-cheaper : (q : Sequence) → LeadsToGoal set query q → floor ≤ sequence_cost set q
    unfolding looked_at sequence_cost
    no-cheaper q leads = go (cheapest_plan set query) refl
      where
        looks : p ∈ looked_at set query
        looks = (looked-leads set query p e).0.1

        below : (c : Sequence) → LeadsToGoal set query c
            → (c ∈ looked_at set query) ⊎ (c ∈ rest) → floor ≤ sequence_cost set c
        below c k (inl d) =
            let best = preferred_cost (rule_cost set) p c ((looked-leads set query p e).1 c (k, d)) in
            omega (arith, floor-below_cost)
        below c k (inr d) =
            let least = least-below (rule_cost set) (sequence_cost set p) rest d in
            omega (arith, floor-rest p looks)

        side : (c : Sequence) → c ∈ visited_by set query → (c ∈ looked_at set query) ⊎ (c ∈ rest)
        side c d = take_or-drop query.step_limit (visited_by set query) d

        go : (o : Option Sequence) → cheapest_plan set query ≡ o → floor ≤ sequence_cost set q
        go none k = absurd (none-leads set query k q leads)
        go (some c) k =
            let best = cheapest-leads set query c k in
            let low = below c best.0 (side c (plan-visited set query room h c k)) in
            omega (arith, preferred_cost (rule_cost set) c q (best.1 q leads))

    -- what is shown with 18
    pub plan_at_limit_lem : PlanAtLimit set query room (searched_with set query room 18)
    unfolding searched_with shown_plan
    plan_at_limit_lem =
        let steps = (searched_with set query room 18).answer.steps in
        subst (λ o. PlanAtLimit set query room
        (with_plan set room 18 (plan_of o) steps (floor_beside set query (plan_of o)))) (sym e)
        (record {
          shown = p;
          is_looked = (looked-leads set query p e).0;
          cost_shown = refl;
          length_shown = refl;
          plan_shown = refl;
          preferred = (looked-leads set query p e).1;
          floor_below_cost = floor-below_cost;
          floor_below_frontier = floor-below-frontier;
          floor_reached = floor_reached_lem;
          no_cheaper_plan = no-cheaper;
        })
