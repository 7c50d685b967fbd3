-- What a search leaves, for every query. It fits: the plan buffer keeps its length, an outcome is at most 18, a plan
-- has at most 32 moves and costs at most 8,160, the floor is at most as much, and steps are at most the limit. Without
-- a plan the buffer is blank, and but for 18 there is no floor.
-- Assumes nothing.
use mathlib.Core.Path.{◌≡◌, refl, ap, ◌∙◌}
use mathlib.Core.Logic.{◌⊎◌, inl, inr, ◌≢◌}
use mathlib.Core.Bool.{Bool, true, false, cond}
use mathlib.Core.Option.{Option, some, none}
use mathlib.Core.List.{[]}
use Prim.Native.Nat.{ℕ, min, ◌≤◌}
use native.Mathlib.Omega.{arith}
use lib.Dec.{eqb, lit≤}
use lib.ListN.{length, replicate}
use borrow.Author.Tests.{not-false, ltb-false, eqb-true, ne_eqb}
use Rattle.theory_spec.specs.Sequences.{Sequence}
use Rattle.theory_spec.proofs.ListLaws.{not-both, padded-length}
use Rattle.theory_spec.proofs.TestLaws.{equal?}
use Rattle.theory_spec.proofs.FloorLaws.{least_start}
use Rattle.model_spec.specs.Refusals.{first_refusal, NonZero}
use Rattle.model_spec.specs.Rules.{rule_cost, sequence_cost}
use Rattle.model_spec.specs.Validity.{valid}
use Rattle.model_spec.specs.declared.RuleSet.{RuleSet}
use Rattle.model_spec.proofs.RefusalLaws.{no_refusal_iff, refusal-before, refusal_at_most}
use Rattle.model_spec.proofs.CauseLaws.{other-number}
use Rattle.model_spec.proofs.ValidityLaws.{valid_iff, valid_cost}
use Rattle.tables_spec.specs.Answers.{table_causes}
use Rattle.search_spec.specs.Query.{Query, visited_by, LeadsToGoal}
use Rattle.search_spec.specs.Looked.{exceeds_limit, cheapest_looked, frontier_of, floor_beside}
use Rattle.search_spec.specs.Searched.{query_causes, cheapest_plan, search_causes, is_answer, plan_of, shown_plan}
use Rattle.search_spec.specs.Searched.{no_move, searched_with, searched, NotRefused}
use Rattle.search_spec.proofs.LookedLaws.{looked-leads}
use Rattle.search_spec.proofs.Demand.{query-numbers, blank_buffer, ends, cheapest-leads}

module _ (set : RuleSet) (query : Query) (room : ℕ) where
  abbrev outcome : ℕ
  outcome = first_refusal (search_causes set query room)

  pub search-numbers : NonZero (search_causes set query room)
  unfolding search_causes query_causes table_causes
  search-numbers = (
    λ e. omega arith,
    (
      λ e. omega arith,
      (
        λ e. omega arith,
        (
          λ e. omega arith,
          (
            λ e. omega arith,
            (
              λ e. omega arith,
              (
                λ e. omega arith,
                (λ e. omega arith, (λ e. omega arith, (λ e. omega arith, (λ e. omega arith, tt)))),
              ),
            ),
          ),
        ),
      ),
    ),
  )

  -- every outcome is at most 18
  pub outcome_bound : (searched set query room).answer.outcome ≤ 18
  unfolding searched searched_with search_causes query_causes table_causes
  outcome_bound =
      refusal_at_most 18 (search_causes set query room) (
        lit≤ tt,
        (
          lit≤ tt,
          (lit≤ tt, (lit≤ tt, (lit≤ tt, (lit≤ tt, (lit≤ tt, (lit≤ tt, (lit≤ tt, (lit≤ tt, (lit≤ tt, tt))))))))),
        ),
      )

  abbrev refusal : ℕ
  refusal = first_refusal (query_causes set query room)

  -- a refusal is the outcome, and none of the outcomes of an answer
  module _ (refused : refusal ≢ 0) where
    pub refused-outcome : outcome ≡ refusal
    unfolding search_causes
    refused-outcome =
        refusal-before (query_causes set query room)
        (ends (exceeds_limit set query) (cheapest_looked set query) (cheapest_plan set query)) refused

    pub refused_no-answer : is_answer refusal ≡ false
    unfolding query_causes table_causes
    refused_no-answer =
        let causes = query_causes set query room in
        let none = ne_eqb refusal 0 refused in
        let unsolvable = ne_eqb refusal 15 (other-number causes 15 (λ e. omega arith) refl) in
        let none_looked = ne_eqb refusal 16 (other-number causes 16 (λ e. omega arith) refl) in
        let plan_looked = ne_eqb refusal 18 (other-number causes 18 (λ e. omega arith) refl) in
        rw (none, unsolvable, none_looked, plan_looked)

  -- so with one of these the query is not refused
  answered_unrefused : is_answer outcome ≡ true → NotRefused set query room
  answered_unrefused y =
      (no_refusal_iff (query_causes set query room) (query-numbers set query room)).0 (go (equal? refusal 0))
    where
      go : (refusal ≡ 0) ⊎ (refusal ≢ 0) → refusal ≡ 0
      go (inl e) = e
      go (inr n) = not-both y (ap is_answer (refused-outcome n) ∙ refused_no-answer n)

  -- the plan shown has at most 32 moves, fits the buffer, and costs at most 8,160
  abbrev Bounded : Sequence → Type 0
  Bounded q = (length q ≤ 32) × (length q ≤ room) × (sequence_cost set q ≤ 8160)

  -- as every plan of a query that is not refused
  pub leads-bounded : NotRefused set query room → (p : Sequence) → LeadsToGoal set query p → Bounded p
  unfolding query_causes table_causes
  leads-bounded h p leads =
      let few = ltb-false 32 query.max_moves h.1.1.1.1.1.0 in
      let fits = ltb-false room query.max_moves h.1.1.1.1.1.1.0 in
      let valid_set = (valid_iff set).0 (not-false (valid set) h.0) in
      let c = valid_cost set valid_set.formed p leads.runs_within.rules in
      let moves = leads.runs_within.moves in
      (omega (arith, moves, few), omega (arith, moves, fits), omega (arith, c, moves, few))

  shown-bounded : Bounded (shown_plan set query outcome)
  unfolding shown_plan sequence_cost
  shown-bounded = go (eqb outcome 0) refl (eqb outcome 18) refl
    where
      best : (o : Option Sequence) → ((p : Sequence) → o ≡ some p → LeadsToGoal set query p)
          → NotRefused set query room → Bounded (plan_of o)
      best none _ h = (omega arith, omega arith, omega arith)
      best (some p) leads h = leads-bounded h p (leads p refl)

      go : (b : Bool) → eqb outcome 0 ≡ b → (c : Bool) → eqb outcome 18 ≡ c
          → Bounded (cond b (plan_of (cheapest_plan set query)) (cond c (plan_of (cheapest_looked set query)) []))
      go true e c k =
          best (cheapest_plan set query) (λ p l. (cheapest-leads set query p l).0)
          (answered_unrefused (ap is_answer (eqb-true outcome 0 e)))
      go false e true k =
          best (cheapest_looked set query) (λ p l. (looked-leads set query p l).0.0)
          (answered_unrefused (ap is_answer (eqb-true outcome 18 k)))
      go false e false k = (omega arith, omega arith, omega arith)

  pub plan_size : length (searched set query room).plan ≡ room
  unfolding searched searched_with
  plan_size = padded-length room no_move (shown_plan set query outcome) shown-bounded.1

  pub length_bound : (searched set query room).answer.length ≤ 32
  unfolding searched searched_with
  length_bound = shown-bounded.0

  pub cost_bound : (searched set query room).answer.cost ≤ 8160
  unfolding searched searched_with
  cost_bound = shown-bounded.2

  pub floor_bound : (searched set query room).answer.floor ≤ 8160
  unfolding searched searched_with floor_beside
  floor_bound = go (eqb outcome 18)
    where
      go : (b : Bool) → cond b (floor_beside set query (shown_plan set query outcome)) 0 ≤ 8160
      go true =
          let plan = shown_plan set query outcome in
          omega (arith, least_start (rule_cost set) (sequence_cost set plan) (frontier_of set query), shown-bounded.2)
      go false = omega arith

  pub steps_bound : (searched set query room).answer.steps ≤ query.step_limit
  unfolding searched searched_with
  steps_bound = go (is_answer outcome)
    where
      go : (b : Bool) → cond b (min (length (visited_by set query)) query.step_limit) 0 ≤ query.step_limit
      go true = omega arith
      go false = omega arith

  -- demand 1: a search that gives no plan shows no cost and no length, and blanks the whole plan buffer, for every
  -- query
  pub searched_blank : (searched set query room).answer.outcome ≢ 0 → (searched set query room).answer.outcome ≢ 18
      → ((searched set query room).answer.cost ≡ 0) × ((searched set query room).answer.length ≡ 0)
      × ((searched set query room).plan ≡ replicate room no_move)
  unfolding searched searched_with shown_plan sequence_cost
  searched_blank h k = rw (ne_eqb outcome 0 h, ne_eqb outcome 18 k) (refl, refl, blank_buffer room)

  -- and a floor with 18 alone
  pub searched_floorless : (searched set query room).answer.outcome ≢ 18
      → (searched set query room).answer.floor ≡ 0
  unfolding searched searched_with
  searched_floorless h =
      ap (λ b. cond b (floor_beside set query (shown_plan set query outcome)) 0) (ne_eqb outcome 18 h)

  -- a query that is refused has no steps
  pub refused-steps : is_answer (searched set query room).answer.outcome ≡ false
      → (searched set query room).answer.steps ≡ 0
  unfolding searched searched_with
  refused-steps e = ap (λ b. cond b (min (length (visited_by set query)) query.step_limit) 0) e
