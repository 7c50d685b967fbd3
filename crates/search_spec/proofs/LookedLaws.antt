-- What a search looks at over its step limit: the first of the visited sequences in depth-first order, the plan that
-- is preferred among these, and the frontier.
-- Assumes nothing.
use mathlib.Core.Path.{◌≡◌, refl}
use mathlib.Core.Logic.{◌⊎◌, inl, inr, ◌↔◌}
use mathlib.Core.Bool.{true}
use mathlib.Core.Option.{some, none}
use mathlib.Core.List.{List}
use native.Mathlib.Omega.{arith}
use lib.ListN.{take, drop}
use lib.Seq.{length-take-le}
use Rattle.theory_spec.specs.Lists.{◌∈◌, keep, is_some, Pairwise}
use Rattle.theory_spec.specs.Sequences.{Sequence}
use Rattle.theory_spec.specs.Order.{LexBefore, Before}
use Rattle.theory_spec.specs.Plans.{Preferred}
use Rattle.theory_spec.specs.Frontier.{is_in}
use Rattle.theory_spec.proofs.ListLaws.{in-keep, of-keep, of-take, of-drop, take_or-drop, there_iff, pairwise-keep}
use Rattle.theory_spec.proofs.ListLaws.{pairwise_take, pairwise_across}
use Rattle.theory_spec.proofs.OrderLaws.{lex_irrefl, lex_trans}
use Rattle.theory_spec.proofs.CheapestLaws.{cheapest_among, none_among}
use Rattle.theory_spec.proofs.FloorLaws.{in_is, is_in_lem, frontier_iff}
use Rattle.model_spec.specs.Rules.{rule_cost}
use Rattle.model_spec.specs.declared.RuleSet.{RuleSet}
use Rattle.search_spec.specs.Query.{Query, visited_by, plans_for}
use Rattle.search_spec.specs.Looked.{looked_at, cheapest_looked, frontier_of, LookedMeaning, LookedPlan, Frontier}
use Rattle.search_spec.proofs.VisitedLaws.{visited-once, visited-ordered, plans_iff, plans-ordered}

module _ (set : RuleSet) (query : Query) where
  -- ── What is looked at ──────────────────────────────────────────────────────────────────────────

  pub looked-visited : (q : Sequence) → q ∈ looked_at set query → q ∈ visited_by set query
  unfolding looked_at
  looked-visited q d = of-take query.step_limit (visited_by set query) d

  -- what comes before one that is looked at is looked at
  pub looked-first : (p q : Sequence) → q ∈ looked_at set query → p ∈ visited_by set query → LexBefore p q
      → p ∈ looked_at set query
  unfolding looked_at
  looked-first p q d v before = go (take_or-drop query.step_limit (visited_by set query) v)
    where
      go : (p ∈ take query.step_limit (visited_by set query)) ⊎ (p ∈ drop query.step_limit (visited_by set query))
          → p ∈ take query.step_limit (visited_by set query)
      go (inl k) = k
      go (inr k) =
          let after =
          pairwise_across LexBefore query.step_limit (visited_by set query) (visited-ordered set query) d k in
          absurd (lex_irrefl p (lex_trans p q p before after))

  pub looked_meaning : LookedMeaning set query
  unfolding looked_at
  looked_meaning =
      record {
        visits = looked-visited;
        ordered = pairwise_take LexBefore query.step_limit (visited_by set query) (visited-ordered set query);
        many = λ h. length-take-le query.step_limit (visited_by set query) (omega arith);
        first = looked-first;
      }

  -- a visited sequence is not looked at exactly if it stands behind the limit
  pub unlooked_iff : (q : Sequence)
      → (q ∈ drop query.step_limit (visited_by set query))
      ↔ ((q ∈ visited_by set query) × (q ∈ looked_at set query → ⊥))
  unfolding looked_at
  unlooked_iff q = (
    λ d. (
      of-drop query.step_limit (visited_by set query) d,
      λ k. pairwise_across (λ (a b : Sequence). a ≡ b → ⊥) query.step_limit (visited_by set query)
          (visited-once set query) k d refl,
    ),
    λ w. go w.1 (take_or-drop query.step_limit (visited_by set query) w.0),
  )
    where
      go : (q ∈ take query.step_limit (visited_by set query) → ⊥)
          → (q ∈ take query.step_limit (visited_by set query)) ⊎ (q ∈ drop query.step_limit (visited_by set query))
          → q ∈ drop query.step_limit (visited_by set query)
      go n (inl k) = absurd (n k)
      go n (inr k) = k

  -- the list of the frontier is the statement
  pub frontier_of_iff : (q : Sequence) → (q ∈ frontier_of set query) ↔ Frontier set query q
  unfolding frontier_of
  frontier_of_iff q =
      let listed = frontier_iff (looked_at set query) (drop query.step_limit (visited_by set query)) q in (
        λ d. let w = listed.0 d in
            let behind = (unlooked_iff q).0 w.0 in
            record {
              visits = behind.0;
              unlooked = behind.1;
              shorter = w.1.0;
              rule = w.1.1;
              looked = w.1.2;
              extends = w.1.3;
            },
        λ f. listed.1 ((unlooked_iff q).1 (f.visits, f.unlooked), (f.shorter, f.rule, f.looked, f.extends)),
      )

  -- ── The plan ───────────────────────────────────────────────────────────────────────────────────

  -- the plans that are looked at, in document 01's order
  abbrev looked_plans : List Sequence
  looked_plans = keep (is_in (looked_at set query)) (plans_for set query)

  looked_plans_iff : (q : Sequence) → (q ∈ looked_plans) ↔ LookedPlan set query q
  looked_plans_iff q = (
    λ d. let w = of-keep (is_in (looked_at set query)) (plans_for set query) d in
        ((plans_iff set query q).0 w.0, is_in_lem (looked_at set query) q w.1),
    λ w. in-keep (is_in (looked_at set query)) ((plans_iff set query q).1 w.0) (in_is w.1),
  )

  looked-ordered : Pairwise Before looked_plans
  looked-ordered = pairwise-keep Before (is_in (looked_at set query)) (plans_for set query) (plans-ordered set query)

  -- the cheapest of them is preferred to every other one
  pub looked-leads : (p : Sequence) → cheapest_looked set query ≡ some p → LookedPlan set query p
      × ((q : Sequence) → LookedPlan set query q → (q ≡ p) ⊎ Preferred (rule_cost set) p q)
  unfolding cheapest_looked
  looked-leads = cheapest_among (rule_cost set) looked_plans looked-ordered looked_plans_iff

  -- where there is none, no sequence that is looked at leads to the goal
  pub none-looked : cheapest_looked set query ≡ none → (q : Sequence) → LookedPlan set query q → ⊥
  unfolding cheapest_looked
  none-looked = none_among (rule_cost set) looked_plans looked-ordered looked_plans_iff

  pub some-looked_iff : (is_some (cheapest_looked set query) ≡ true) ↔ ((q : Sequence) × LookedPlan set query q)
  some-looked_iff = there_iff (cheapest_looked set query) (λ p e. (looked-leads p e).0) none-looked
