-- The plan of a query: where some sequence leads to the goal there is one, and one only; and it is not pruned.
-- Assumes nothing.
use mathlib.Core.Path.{◌≡◌, refl, subst}
use mathlib.Core.Logic.{⊎_elim}
use mathlib.Core.Option.{Option, some, none}
use Rattle.theory_spec.specs.Sequences.{Sequence}
use Rattle.theory_spec.proofs.CheapestLaws.{none-preferred}
use Rattle.model_spec.specs.Limits.{move_limit}
use Rattle.model_spec.specs.Rules.{rule_cost}
use Rattle.model_spec.specs.declared.RuleSet.{RuleSet}
use Rattle.search_spec.specs.Query.{Query, LeadsToGoal, Unpruned}
use Rattle.search_spec.specs.Searched.{cheapest_plan, plan_of}
use Rattle.search_spec.proofs.Demand.{cheapest-leads, none-leads}
use Rattle.search_spec.proofs.VisitedLaws.{visited_iff}
use Rattle.search_spec.proofs.PlanVisited.{plan-visited}
use Rattle.search_spec.proofs.MeaningLaws.{not-refused_iff}
use Rattle.explain_spec.specs.Explained.{plan_for}
use Rattle.explain_spec.specs.Meaning.{TablePassed, ThePlan}

module _ (set : RuleSet) (query : Query) where
  -- where some sequence leads to the goal there is a plan
  pub plan_there : (q : Sequence) → LeadsToGoal set query q → ThePlan set query (plan_for set query)
  plan_there q h = go (cheapest_plan set query) refl
    where
      go : (o : Option Sequence) → cheapest_plan set query ≡ o → ThePlan set query (plan_of o)
      go none e = absurd (none-leads set query e q h)
      go (some p) e = let w = cheapest-leads set query p e in record { leads = w.0; best = w.1 }

  -- there is one plan only
  pub plan-once : (p q : Sequence) → ThePlan set query p → ThePlan set query q → p ≡ q
  plan-once p q u v =
      ⊎_elim (λ e. e) (λ w. absurd (none-preferred (rule_cost set) p q w (u.best q v.leads))) (v.best p u.leads)

  -- whatever accepted table the query brings, it is visited, so no segment of it is marked
  pub plan_unpruned : TablePassed set query → (p : Sequence) → ThePlan set query p → Unpruned set query p
  plan_unpruned passed p is = go (cheapest_plan set query) refl
    where
      go : (o : Option Sequence) → cheapest_plan set query ≡ o → Unpruned set query p
      go none e = absurd (none-leads set query e p is.leads)
      go (some b) e =
          let w = cheapest-leads set query b e in
          let same = plan-once b p (record { leads = w.0; best = w.1 }) is in
          let asked = (not-refused_iff set query move_limit).1 ((passed.0, passed.0.1), passed.1) in
          subst (Unpruned set query) same
          ((visited_iff set query b).0 (plan-visited set query move_limit asked b e)).1
