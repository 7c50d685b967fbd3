-- The plan handed back (document 01: the second call): the front part of the plan buffer that holds it.
use Rattle.std.specs.Prelude.{◌≡◌, ◌⊎◌, ◌≢◌, cond, List, [], ℕ, leb, length, take}
use Rattle.theory_spec.specs.Lists.{padded}
use Rattle.theory_spec.specs.Sequences.{Sequence}
use Rattle.theory_spec.specs.Plans.{Preferred}
use Rattle.model_spec.specs.Rules.{rule_cost}
use Rattle.model_spec.specs.declared.RuleSet.{RuleSet}
use Rattle.search_spec.specs.Query.{Query, LeadsToGoal}
use Rattle.search_spec.specs.Looked.{LookedPlan}
use Rattle.search_spec.specs.Searched.{no_move, Searched}

-- the first n bytes of the buffer; none where n is above its length
unfoldable pub plan_part : List ℕ → ℕ → List ℕ
plan_part plan n = cond (leb n (length plan)) (take n plan) []

-- ── As a statement over all rule sequences ───────────────────────────────────────────────────────

-- the part of what a search left
abbrev pub part_of : Searched → List ℕ
part_of found = plan_part found.plan found.answer.length

-- what it means, for every query
pub record PartMeaning (set : RuleSet) (query : Query) (room : ℕ) (found : Searched) : Type 0 where
  -- with outcome 0 it is a sequence that leads to the goal within both bounds, and every other one, pruned or not,
  -- costs more, or costs as much and comes later
  pub cheapest_handed : found.answer.outcome ≡ 0
      → LeadsToGoal set query (part_of found)
      × ((q : Sequence) → LeadsToGoal set query q
      → (q ≡ part_of found) ⊎ Preferred (rule_cost set) (part_of found) q)
  -- with outcome 18 it is such a sequence that is looked at, and every other one that is costs more, or costs as much
  -- and comes later
  pub looked_handed : found.answer.outcome ≡ 18
      → LookedPlan set query (part_of found)
      × ((q : Sequence) → LookedPlan set query q
      → (q ≡ part_of found) ⊎ Preferred (rule_cost set) (part_of found) q)
  -- with any other outcome it is empty
  pub empty_handed : found.answer.outcome ≢ 0 → found.answer.outcome ≢ 18 → part_of found ≡ []
  -- with every outcome, every other byte of the buffer is 255
  pub rest_blank : found.plan ≡ padded room no_move (part_of found)
