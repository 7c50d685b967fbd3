-- How a query ends that passed what was judged before: over the step limit with a plan or with none, with no plan, with
-- the cheapest plan. Of any causes judged before, whatever their statement P is.
-- Assumes nothing.
use mathlib.Core.Path.{◌≡◌, refl, sym, ap, ◌∙◌}
use mathlib.Core.Logic.Iff
use mathlib.Core.Logic.{◌↔◌}
use mathlib.Core.Bool.{Bool, true, false, not, ◌&&◌}
use mathlib.Core.List.{List, [], ◌∷◌, ◌++◌, append_assoc}
use Prim.Native.Nat.{ℕ, ◌≤◌, ◌<◌}
use native.Mathlib.Omega.{arith}
use lib.Dec.{eqb}
use lib.ListN.{length, take, drop}
use borrow.Author.Tests.{ltb-false, le-ltb}
use Rattle.theory_spec.specs.Lists.{is_some}
use Rattle.theory_spec.specs.Sequences.{Sequence}
use Rattle.theory_spec.proofs.ListLaws.{any_append, there_iff}
use Rattle.theory_spec.proofs.TestLaws.{ltb_iff, not_iff, fails_iff, unfailed_iff, and_iff}
use Rattle.model_spec.specs.Refusals.{Cause, first_refusal, NoneHolds, NonZero}
use Rattle.model_spec.specs.declared.RuleSet.{RuleSet}
use Rattle.model_spec.proofs.RefusalLaws.{no_refusal_iff, AtMost}
use Rattle.model_spec.proofs.CauseLaws.{Apart, larger_apart, passed_iff, refused_iff}
use Rattle.search_spec.specs.Query.{Query, visited_by, LeadsToGoal}
use Rattle.search_spec.specs.Looked.{exceeds_limit, cheapest_looked, LookedPlan}
use Rattle.search_spec.specs.Searched.{cheapest_plan, end_causes}
use Rattle.search_spec.proofs.Demand.{cheapest-leads, none-leads}
use Rattle.search_spec.proofs.LookedLaws.{some-looked_iff}

-- ── The limit and the plan ───────────────────────────────────────────────────────────────────────

module _ (set : RuleSet) (query : Query) where
  abbrev over : Bool
  over = exceeds_limit set query

  -- more sequences to visit than the limit
  abbrev pub Over : Type 0
  Over = query.step_limit < length (visited_by set query)

  -- or not
  abbrev pub Within : Type 0
  Within = length (visited_by set query) ≤ query.step_limit

  over_iff : (over ≡ true) ↔ Over
  over_iff = ltb_iff query.step_limit (length (visited_by set query))

  -- the limit is exceeded, and a plan is looked at
  looked_iff : ((over && is_some (cheapest_looked set query)) ≡ true)
      ↔ (Over × ((q : Sequence) × LookedPlan set query q))
  looked_iff = and_iff over (is_some (cheapest_looked set query)) over_iff (some-looked_iff set query)

  -- there is a cheapest plan exactly if some sequence leads to the goal
  pub some-plan_iff : (is_some (cheapest_plan set query) ≡ true) ↔ ((q : Sequence) × LeadsToGoal set query q)
  some-plan_iff =
      there_iff (cheapest_plan set query) (λ p e. (cheapest-leads set query p e).0) (none-leads set query)

  no-plan_iff : (not (is_some (cheapest_plan set query)) ≡ true) ↔ ((q : Sequence) → LeadsToGoal set query q → ⊥)
  no-plan_iff =
      let i = not_iff (is_some (cheapest_plan set query)) some-plan_iff in
      (λ e q h. i.0 e (q, h), λ n. i.1 (λ w. n w.0 w.1))

-- ── The ends in turn ─────────────────────────────────────────────────────────────────────────────

-- one cause more, of another number
apart_more : (before : List Cause) (k n : ℕ) (b : Bool) → Apart k before → eqb n k ≡ false
    → Apart k (before ++ ((n, b) ∷ []))
apart_more before k n b a e =
    any_append (λ (cause : Cause). eqb cause.0 k) before ((n, b) ∷ []) ∙ rw (a, e) refl

module _ (set : RuleSet) (query : Query) (before : List Cause) {P : Type 0} (passed : NoneHolds before ↔ P)
    (few : AtMost 14 before) where
  apart : (k : ℕ) → 15 ≤ k → Apart k before
  apart k h = larger_apart 14 k before few (omega arith)

  abbrev outcome : ℕ
  outcome = first_refusal (before ++ end_causes set query)

  abbrev until_looked : List Cause
  until_looked = before ++ ((18, over set query && is_some (cheapest_looked set query)) ∷ [])

  abbrev until_limit : List Cause
  until_limit = until_looked ++ ((16, over set query) ∷ [])

  -- the same causes, those up to a cause first
  from_limit : (k : ℕ) → (outcome ≡ k) ↔ (first_refusal (until_looked ++ drop 1 (end_causes set query)) ≡ k)
  from_limit k =
      let e = ap first_refusal (append_assoc before (take 1 (end_causes set query)) (drop 1 (end_causes set query))) in
      (λ o. e ∙ o, λ o. sym e ∙ o)

  from-plan : (k : ℕ) → (outcome ≡ k) ↔ (first_refusal (until_limit ++ drop 2 (end_causes set query)) ≡ k)
  from-plan k =
      let later = drop 1 (end_causes set query) in
      let e = ap first_refusal (append_assoc until_looked (take 1 later) (drop 1 later)) in
      Iff.trans (from_limit k) (λ o. e ∙ o, λ o. sym e ∙ o)

  until-looked_iff : NoneHolds until_looked ↔ (P × (Over set query × ((q : Sequence) × LookedPlan set query q) → ⊥))
  until-looked_iff = passed_iff before 18 _ passed (fails_iff _ (looked_iff set query))

  -- within the limit
  pub within_iff : NoneHolds until_limit ↔ (P × Within set query)
  within_iff =
      Iff.trans (passed_iff until_looked 16 _ until-looked_iff (
        ltb-false query.step_limit (length (visited_by set query)),
        le-ltb query.step_limit (length (visited_by set query)),
      )) (λ w. (w.0.0, w.1), λ w. ((w.0, λ v. omega (arith, v.0, w.1)), w.1))

  -- over it, with a plan among what is looked at, or with none
  pub plan_at_limit_iff : (outcome ≡ 18) ↔ ((P × Over set query) × ((q : Sequence) × LookedPlan set query q))
  plan_at_limit_iff =
      Iff.trans (refused_iff before 18 _ passed (drop 1 (end_causes set query)) (λ e. omega arith)
      (apart 18 (omega arith)) refl (looked_iff set query))
      (λ w. ((w.0, w.1.0), w.1.1), λ w. (w.0.0, (w.0.1, w.1)))

  pub none_at_limit_iff : (outcome ≡ 16) ↔ ((P × Over set query) × ((q : Sequence) → LookedPlan set query q → ⊥))
  none_at_limit_iff =
      Iff.trans (from_limit 16) (Iff.trans (refused_iff until_looked 16 _ until-looked_iff (drop 2 (end_causes set query))
      (λ e. omega arith) (apart_more before 16 18 _ (apart 16 (omega arith)) refl) refl (over_iff set query)) (
        λ w. ((w.0.0, w.1), λ q k. w.0.1 (w.1, (q, k))),
        λ w. ((w.0.0, λ v. w.1 v.1.0 v.1.1), w.0.1),
      ))

  -- no sequence leads to the goal, or one does
  pub unsolvable_iff : (outcome ≡ 15) ↔ ((P × Within set query) × ((q : Sequence) → LeadsToGoal set query q → ⊥))
  unsolvable_iff =
      Iff.trans (from-plan 15) (refused_iff until_limit 15 _ within_iff [] (λ e. omega arith)
      (apart_more until_looked 15 16 _ (apart_more before 15 18 _ (apart 15 (omega arith)) refl) refl) refl
      (no-plan_iff set query))

  pub solved_iff : NonZero (until_limit ++ drop 2 (end_causes set query))
      → (outcome ≡ 0) ↔ ((P × Within set query) × ((q : Sequence) × LeadsToGoal set query q))
  solved_iff numbers =
      Iff.trans (from-plan 0) (Iff.trans (no_refusal_iff (until_limit ++ drop 2 (end_causes set query)) numbers)
      (passed_iff until_limit 15 _ within_iff (unfailed_iff _ (some-plan_iff set query))))
