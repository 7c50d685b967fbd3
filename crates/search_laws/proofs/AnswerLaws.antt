-- From what the visits come to, to what a search leaves: no plan, or the best plan's moves at the front of the blank
-- buffer, and over the limit the floor.
-- Assumes nothing.
use mathlib.Core.Path.{◌≡◌, refl, sym, ap, ap₂, ◌∙◌, subst}
use mathlib.Core.Bool.{Bool, true, false}
use mathlib.Core.Option.{Option, some, none}
use mathlib.Core.List.{List, ◌++◌}
use Prim.Native.Nat.{ℕ, min, ◌-◌, ◌≤◌}
use native.Mathlib.Omega.{arith}
use lib.ListN.{length, take, drop, replicate}
use lib.Seq.{take-length, take-append_seam}
use borrow.Author.Tests.{ltb-false}
use Rattle.theory_spec.specs.Lists.{padded}
use Rattle.theory_spec.specs.Sequences.{Sequence}
use Rattle.theory_spec.specs.Frontier.{least_cost}
use Rattle.theory_spec.proofs.ListLaws.{not-both}
use Rattle.theory_spec.proofs.FloorLaws.{least-min}
use Rattle.model_spec.specs.Refusals.{first_refusal}
use Rattle.model_spec.specs.Rules.{rule_cost, sequence_cost}
use Rattle.model_spec.specs.declared.RuleSet.{RuleSet}
use Rattle.search_spec.specs.Query.{Query, visited_by}
use Rattle.search_spec.specs.Looked.{exceeds_limit, cheapest_looked, floor_beside}
use Rattle.search_spec.specs.Searched.{query_causes, cheapest_plan, no_move, Searched, searched, SearchMeaning}
use Rattle.search_spec.specs.PlanPart.{PartMeaning}
use Rattle.search_spec.specs.declared.Answer.{Answer}
use Rattle.search_spec.proofs.LookedLaws.{looked-leads}
use Rattle.search_spec.proofs.AtLimitLaws.{floor-rest}
use Rattle.search_spec.proofs.AnswerLaws.{leads-bounded}
use Rattle.search_spec.proofs.MeaningLaws.{search_meaning}
use Rattle.search_spec.proofs.PlanPartLaws.{part_meaning}
use Rattle.search_spec.proofs.Demand.{with_plan, without_plan}
use Rattle.search_spec.proofs.OutcomeLaws.{searched-looked, searched_none-looked, searched-unsolvable, searched-solved}
use Rattle.std.specs.Prelude.{Some, None, is_some, unwrap_or}
use Rattle.search_laws.specs.How.Visits.{as_plan, as_best, whole_progress, outcome_of, floor_shown}
use Rattle.model_spec.proofs.CopyLaws.{copied-padded}
use Rattle.search_laws.specs.declared.Plan.{Plan}
use Rattle.search_laws.specs.declared.Progress.{Progress}
use Rattle.search_laws.proofs.ExploredLaws.{whole-looked, looked-cheapest, unrefused}

-- ── The plan buffer ──────────────────────────────────────────────────────────────────────────────

-- the moves of a plan at the front of a blank buffer
put_front : (p : Sequence) (size : ℕ) → length p ≤ size → take (length p) (padded 32 no_move p)
    ++ drop (length p) (replicate size no_move) ≡ padded size no_move p
put_front p size h =
    let moves = take-append_seam p (replicate (32 - length p) no_move) ∙ sym (take-length p) in
    copied-padded size no_move p (length p) _ h refl (ap (λ l. l ++ drop (length p) (replicate size no_move)) moves)

-- ── The answer ───────────────────────────────────────────────────────────────────────────────────

-- what is left with a best plan, whose moves are put into a blank buffer
abbrev pub left_with : ℕ → Plan → ℕ → ℕ → List ℕ → Searched
left_with outcome best steps floor blank =
    record {
      answer = record { outcome = outcome; cost = best.cost; length = best.length; steps = steps; floor = floor };
      plan = take best.length best.moves ++ drop best.length blank;
    }

module _ (set : RuleSet) (query : Query) (room : ℕ) where
  -- an answer and a buffer that are what a search leaves have its meaning
  pub answers : (r : Answer) (plan : List ℕ) (found : Searched) → r ≡ found.answer → plan ≡ found.plan
      → found ≡ searched set query room
      → let left : Searched = record { answer = r; plan = plan } in
      (searched set query room ≡ left) × SearchMeaning set query room left × PartMeaning set query room left
  answers r plan found a b e =
      let left : Searched = record { answer = r; plan = plan } in
      let whole : searched set query room ≡ left = sym (ap₂ (λ r plan. record { answer = r; plan = plan }) a b ∙ e) in
      let means = subst (SearchMeaning set query room) whole (search_meaning set query room) in
      (whole, means, part_meaning set query room left means)

  module _ (h : first_refusal (query_causes set query room) ≡ 0) where
    module _ (progress : Progress) (explored : progress ≡ whole_progress set query) where
      -- the steps of an answer
      abbrev counted : ℕ
      counted = min (length (visited_by set query)) query.step_limit

      steps_are : progress.steps ≡ counted
      unfolding whole_progress
      steps_are = ap (λ (p : Progress). p.steps) explored

      exceeded_is : progress.exceeded ≡ exceeds_limit set query
      unfolding whole_progress
      exceeded_is = ap (λ (p : Progress). p.exceeded) explored

      best_is : progress.best ≡ as_best (sequence_cost set) (cheapest_looked set query)
      best_is = ap (λ (p : Progress). p.best) explored ∙ whole-looked set query

      -- if the limit is not exceeded, the plan that is looked at is the cheapest
      all-looked : progress.exceeded ≡ false → cheapest_looked set query ≡ cheapest_plan set query
      all-looked e =
          looked-cheapest set query room (unrefused set query room h)
          (ltb-false query.step_limit (length (visited_by set query)) (sym exceeded_is ∙ e))

      -- a plan is found exactly if one is looked at
      none_found : progress.best ≡ None → cheapest_looked set query ≡ none
      unfolding as_best
      none_found n = go (cheapest_looked set query) refl
        where
          go : (o : Option Sequence) → cheapest_looked set query ≡ o → cheapest_looked set query ≡ none
          go none e = e
          go (some p) e = not-both (ap is_some (best_is ∙ ap (as_best (sequence_cost set)) e)) (ap is_some n)

      some-found : (plan : Plan) → progress.best ≡ Some plan → (p : Sequence) × (cheapest_looked set query ≡ some p)
      unfolding as_best
      some-found plan y = go (cheapest_looked set query) refl
        where
          go : (o : Option Sequence) → cheapest_looked set query ≡ o
              → (p : Sequence) × (cheapest_looked set query ≡ some p)
          go none e = not-both (ap is_some y) (ap is_some (best_is ∙ ap (as_best (sequence_cost set)) e))
          go (some p) e = (p, e)

      pub explored_planless : (outcome : ℕ) → outcome ≡ outcome_of progress.exceeded (is_some progress.best)
          → progress.best ≡ None → without_plan room outcome progress.steps ≡ searched set query room
      unfolding outcome_of
      explored_planless outcome is n = go progress.exceeded refl
        where
          left : (k : ℕ) → outcome_of progress.exceeded (is_some progress.best) ≡ k
              → without_plan room outcome progress.steps ≡ without_plan room k counted
          left k e = ap₂ (without_plan room) (is ∙ e) steps_are

          go : (b : Bool) → progress.exceeded ≡ b
              → without_plan room outcome progress.steps ≡ searched set query room
          go true e =
              left 16 (ap₂ outcome_of e (ap is_some n))
              ∙ sym (searched_none-looked set query room h (sym exceeded_is ∙ e) (none_found n))
          go false e =
              left 15 (ap₂ outcome_of e (ap is_some n))
              ∙ sym (searched-unsolvable set query room h (sym exceeded_is ∙ e) (sym (all-looked e) ∙ none_found n))

      module _ (best : Plan) (found : progress.best ≡ Some best) where
        abbrev plan : Sequence
        plan = (some-found best found).0

        looks : cheapest_looked set query ≡ some plan
        looks = (some-found best found).1

        best-plan : best ≡ as_plan (sequence_cost set plan) plan
        unfolding as_best
        best-plan = ap (λ held. unwrap_or held best) (sym found ∙ best_is ∙ ap (as_best (sequence_cost set)) looks)

        plan-bounded : (length plan ≤ 32) × (length plan ≤ room) × (sequence_cost set plan ≤ 8160)
        plan-bounded =
            leads-bounded set query room (unrefused set query room h) plan (looked-leads set query plan looks).0.0

        -- the moves of the best plan fit the buffer
        pub explored-room : (best.length ≤ 32) × (best.length ≤ room)
        unfolding as_plan
        explored-room =
            subst (λ b. (b.length ≤ 32) × (b.length ≤ room)) (sym best-plan) (plan-bounded.0, plan-bounded.1)

        -- the lower of the plan's cost and the least cost met beyond the limit is the floor beside the plan
        floor_met : min best.cost progress.least ≡ floor_beside set query plan
        unfolding whole_progress as_plan
        floor_met =
            let rest = drop query.step_limit (visited_by set query) in
            let cost = sequence_cost set plan in
            let small : min 65535 cost ≡ cost = omega (arith, plan-bounded.2) in
            ap₂ min (ap (λ (b : Plan). b.cost) best-plan) (ap (λ (p : Progress). p.least) explored)
            ∙ sym (least-min (rule_cost set) 65535 cost rest)
            ∙ ap (λ c. least_cost (rule_cost set) c rest) small
            ∙ sym (floor-rest set query plan (looked-leads set query plan looks).0.1)

        -- with the moves at the front of a blank buffer, that is what a search leaves
        pub explored-shown : (outcome floor : ℕ) → outcome ≡ outcome_of progress.exceeded (is_some progress.best)
            → floor ≡ floor_shown progress.exceeded best.cost progress.least
            → (blank : List ℕ) → blank ≡ replicate room no_move
            → left_with outcome best progress.steps floor blank ≡ searched set query room
        unfolding as_plan outcome_of floor_shown
        explored-shown outcome floor is floor-is blank empty = go progress.exceeded refl
          where
            left : (k f : ℕ) → outcome_of progress.exceeded (is_some progress.best) ≡ k
                → floor_shown progress.exceeded best.cost progress.least ≡ f
                → left_with outcome best progress.steps floor blank ≡ with_plan set room k plan counted f
            left k f e g =
                (λ i. left_with ((is ∙ e) i) (best-plan i) (steps_are i) ((floor-is ∙ g) i) (empty i))
                ∙ ap (λ buffer. record {
                  answer = record {
                    outcome = k;
                    cost = sequence_cost set plan;
                    length = length plan;
                    steps = counted;
                    floor = f;
                  };
                  plan = buffer;
                }) (put_front plan room plan-bounded.1)

            go : (b : Bool) → progress.exceeded ≡ b
                → left_with outcome best progress.steps floor blank ≡ searched set query room
            go true e =
                left 18 (floor_beside set query plan) (ap₂ outcome_of e (ap is_some found))
                (ap (λ b. floor_shown b best.cost progress.least) e ∙ floor_met)
                ∙ sym (searched-looked set query room h (sym exceeded_is ∙ e) plan looks)
            go false e =
                left 0 0 (ap₂ outcome_of e (ap is_some found)) (ap (λ b. floor_shown b best.cost progress.least) e)
                ∙ sym (searched-solved set query room h (sym exceeded_is ∙ e) plan (sym (all-looked e) ∙ looks))
