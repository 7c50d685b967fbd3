-- Demand 3, of the definition `searched`: its sentences over all rule sequences, for every query that is not refused.
-- Assumes nothing.
use mathlib.Core.Path.{◌≡◌, refl, sym, ap, ◌∙◌, subst}
use mathlib.Core.Logic.{◌⊎◌, ◌≢◌, inl, inr}
use mathlib.Core.Bool.{Bool, true, false, not, ◌&&◌, cond}
use mathlib.Core.Option.{Option, some, none}
use mathlib.Core.List.{List, [], ◌∷◌}
use Prim.Native.Nat.{ℕ, suc, min, ◌-◌, ◌≤◌, ◌<◌}
use native.Mathlib.Omega.{arith}
use lib.Dec.{lit≤}
use lib.ListN.{length, replicate}
use borrow.Author.Tests.{ltb-true, ltb-false}
use Rattle.theory_spec.specs.Lists.{is_some, padded}
use Rattle.theory_spec.specs.Sequences.{Sequence}
use Rattle.theory_spec.specs.Plans.{Preferred}
use Rattle.theory_spec.proofs.CheapestLaws.{cheapest_among, none_among}
use Rattle.model_spec.specs.Refusals.{Cause, first_refusal, NonZero}
use Rattle.model_spec.specs.Rules.{rule_cost, sequence_cost}
use Rattle.model_spec.specs.declared.RuleSet.{RuleSet}
use Rattle.model_spec.proofs.RefusalLaws.{no_refusal_iff, refusal-append}
use Rattle.tables_spec.specs.Answers.{table_causes}
use Rattle.search_spec.specs.Query.{Query, visited_by, plans_for, LeadsToGoal}
use Rattle.search_spec.specs.Looked.{exceeds_limit, cheapest_looked}
use Rattle.search_spec.specs.Searched.{query_causes, cheapest_plan, search_causes, shown_plan, plan_of, no_move}
use Rattle.search_spec.specs.Searched.{is_answer, Searched, searched_with, searched, NotRefused, Limited, Demand3}
use Rattle.search_spec.proofs.VisitedLaws.{visited_iff, visited-once, plans_iff, plans-ordered}

pub query-numbers : (set : RuleSet) (query : Query) (room : ℕ) → NonZero (query_causes set query room)
unfolding query_causes table_causes
query-numbers set query room =
    let positive : (n : ℕ) → suc n ≡ 0 → ⊥ = λ n e. omega arith in (
      positive 6,
      (
        positive 4,
        (
          positive 5,
          (
            positive 8,
            (positive 9, (positive 10, (positive 11, (positive 13, tt)))),
          ),
        ),
      ),
    )

-- what a search leaves with a plan, and a floor
abbrev pub with_plan : RuleSet → ℕ → ℕ → Sequence → ℕ → ℕ → Searched
with_plan set room outcome p steps floor =
    record {
      answer = record {
        outcome = outcome;
        cost = sequence_cost set p;
        length = length p;
        steps = steps;
        floor = floor;
      };
      plan = padded room no_move p;
    }

-- and without one
abbrev pub without_plan : ℕ → ℕ → ℕ → Searched
without_plan room outcome steps =
    record {
      answer = record { outcome = outcome; cost = 0; length = 0; steps = steps; floor = 0 };
      plan = replicate room no_move;
    }

-- a buffer with no plan in it
pub blank_buffer : (size : ℕ) → padded size no_move [] ≡ replicate size no_move
blank_buffer size = let e : size - 0 ≡ size = omega arith in ap (λ n. replicate n no_move) e

-- what is told of a query that is not refused, unless it gives the cheapest plan: more sequences to visit than the step
-- limit, with a plan among those looked at or with none; no plan
abbrev pub ends : Bool → Option Sequence → Option Sequence → List Cause
ends above looked plan = (18, above && is_some looked) ∷ (16, above) ∷ (15, not (is_some plan)) ∷ []

module _ (set : RuleSet) (query : Query) where
  abbrev count : ℕ
  count = length (visited_by set query)

  -- the cheapest plan leads to the goal, and is preferred to every other sequence that does
  pub cheapest-leads : (p : Sequence) → cheapest_plan set query ≡ some p → LeadsToGoal set query p
      × ((q : Sequence) → LeadsToGoal set query q → (q ≡ p) ⊎ Preferred (rule_cost set) p q)
  unfolding cheapest_plan
  cheapest-leads =
      cheapest_among (rule_cost set) (plans_for set query) (plans-ordered set query) (plans_iff set query)

  -- where there is no cheapest plan, no sequence leads to the goal
  pub none-leads : cheapest_plan set query ≡ none → (q : Sequence) → LeadsToGoal set query q → ⊥
  unfolding cheapest_plan
  none-leads = none_among (rule_cost set) (plans_for set query) (plans-ordered set query) (plans_iff set query)

  -- the cheapest plan is the plan shown, and at the limit the cheapest of those looked at
  pub shown-plan : (p : Sequence) → cheapest_plan set query ≡ some p → shown_plan set query 0 ≡ p
  unfolding shown_plan
  shown-plan p e = ap plan_of e

  pub shown-looked : (p : Sequence) → cheapest_looked set query ≡ some p → shown_plan set query 18 ≡ p
  unfolding shown_plan
  shown-looked p e = ap plan_of e

  -- the four ways in which a query ends that is not refused, with the outcome of each
  abbrev PlanLooked : ℕ → Type 0
  PlanLooked outcome = (query.step_limit < count) × (outcome ≡ 18)

  abbrev NoneLooked : ℕ → Type 0
  NoneLooked outcome = (query.step_limit < count) × (outcome ≡ 16)

  abbrev Unsolvable : ℕ → Type 0
  Unsolvable outcome = (count ≤ query.step_limit) × (cheapest_plan set query ≡ none) × (outcome ≡ 15)

  abbrev Solved : ℕ → Type 0
  Solved outcome = (count ≤ query.step_limit) × ((p : Sequence) × (cheapest_plan set query ≡ some p)) × (outcome ≡ 0)

  module _ (room : ℕ) where
    abbrev outcome : ℕ
    outcome = first_refusal (search_causes set query room)

    module _ (h : first_refusal (query_causes set query room) ≡ 0) where
      begins : outcome
          ≡ first_refusal (ends (exceeds_limit set query) (cheapest_looked set query) (cheapest_plan set query))
      unfolding search_causes
      begins =
          refusal-append (query_causes set query room)
          (ends (exceeds_limit set query) (cheapest_looked set query) (cheapest_plan set query))
          (query-numbers set query room) h

      -- where the limit is exceeded, what is looked at decides: 18 with a plan among it, 16 without one
      pub limited-outcome : exceeds_limit set query ≡ true → (o : Option Sequence) → cheapest_looked set query ≡ o
          → outcome ≡ first_refusal (ends true o (cheapest_plan set query))
      limited-outcome e o k =
          begins ∙ ap (λ b. first_refusal (ends b (cheapest_looked set query) (cheapest_plan set query))) e
          ∙ ap (λ p. first_refusal (ends true p (cheapest_plan set query))) k

      -- where it is not, the cheapest plan decides: 0 with one, 15 without one
      pub unlimited-outcome : exceeds_limit set query ≡ false → (o : Option Sequence) → cheapest_plan set query ≡ o
          → outcome ≡ first_refusal (ends false none o)
      unlimited-outcome e o k =
          begins ∙ ap (λ b. first_refusal (ends b (cheapest_looked set query) (cheapest_plan set query))) e
          ∙ ap (λ p. first_refusal (ends false none p)) k

      ways : (PlanLooked outcome ⊎ NoneLooked outcome) ⊎ (Unsolvable outcome ⊎ Solved outcome)
      ways =
          by_count (exceeds_limit set query) refl (cheapest_looked set query) refl (cheapest_plan set query) refl
        where
          by_count : (b : Bool) → exceeds_limit set query ≡ b
              → (l : Option Sequence) → cheapest_looked set query ≡ l
              → (o : Option Sequence) → cheapest_plan set query ≡ o
              → (PlanLooked outcome ⊎ NoneLooked outcome) ⊎ (Unsolvable outcome ⊎ Solved outcome)
          by_count true e (some p) n o k =
              inl (inl (ltb-true query.step_limit count e, limited-outcome e (some p) n))
          by_count true e none n o k =
              inl (inr (ltb-true query.step_limit count e, limited-outcome e none n))
          by_count false e l n none k =
              inr (inl (ltb-false query.step_limit count e, k, unlimited-outcome e none k))
          by_count false e l n (some p) k =
              inr (inr (ltb-false query.step_limit count e, (p, k), unlimited-outcome e (some p) k))

    -- demand 3: what holds of the answer of every query that is not refused
    pub demand_3 : NotRefused set query room → Demand3 set query room (searched set query room)
    unfolding searched searched_with shown_plan sequence_cost
    demand_3 h = by_way outcome (ways ((no_refusal_iff (query_causes set query room) (query-numbers set query room)).1 h))
      where
        Holds : ℕ → Type 0
        Holds outcome = Demand3 set query room (searched_with set query room outcome)

        -- over the limit, with 18 or with 16
        limited : (n : ℕ) → is_answer n ≡ true → n ≢ 0 → Limited n → query.step_limit < count → Holds n
        limited n y positive w above =
            record {
              counted = visited_iff set query;
              once = visited-once set query;
              steps = ap (λ b. cond b (min count query.step_limit) 0) y;
              limit_exceeded = (λ _. above, λ _. w);
              no_plan = λ no. absurd (no w);
              plan_found = λ no. absurd (no w);
              cheapest_shown = λ e. absurd (positive e);
            }

        unlimited : (n : ℕ) → n ≤ 15 → Limited n → ⊥
        unlimited n k (inl e) = omega arith
        unlimited n k (inr e) = omega arith

        unsolvable : count ≤ query.step_limit → cheapest_plan set query ≡ none → Holds 15
        unsolvable under e =
            record {
              counted = visited_iff set query;
              once = visited-once set query;
              steps = refl;
              limit_exceeded = (λ k. absurd (unlimited 15 (lit≤ tt) k), λ k. absurd (omega arith));
              no_plan = λ _. (λ _. none-leads e, λ _. refl);
              plan_found = λ _ n. absurd (n refl);
              cheapest_shown = λ k. absurd (omega arith);
            }

        solved : count ≤ query.step_limit → (p : Sequence) → cheapest_plan set query ≡ some p → Holds 0
        solved under p e =
            let leads = cheapest-leads p e in
            let shown : shown_plan set query 0 ≡ p = shown-plan p e in
            record {
              counted = visited_iff set query;
              once = visited-once set query;
              steps = refl;
              limit_exceeded = (λ k. absurd (unlimited 0 (lit≤ tt) k), λ k. absurd (omega arith));
              no_plan = λ _. (λ k. absurd (omega arith), λ n. absurd (n p leads.0));
              plan_found = λ _ _. refl;
              cheapest_shown =
                  let put = ap (padded room no_move) shown in
                  λ _. (p, leads.0, ap (sequence_cost set) shown, ap length shown, put, leads.1);
            }

        by_way : (outcome : ℕ) → (PlanLooked outcome ⊎ NoneLooked outcome) ⊎ (Unsolvable outcome ⊎ Solved outcome)
            → Holds outcome
        by_way outcome (inl (inl w)) = subst Holds (sym w.1) (limited 18 refl (λ e. omega arith) (inr refl) w.0)
        by_way outcome (inl (inr w)) = subst Holds (sym w.1) (limited 16 refl (λ e. omega arith) (inl refl) w.0)
        by_way outcome (inr (inl w)) = subst Holds (sym w.2) (unsolvable w.0 w.1)
        by_way outcome (inr (inr w)) = subst Holds (sym w.2) (solved w.0 w.1.0 w.1.1)
