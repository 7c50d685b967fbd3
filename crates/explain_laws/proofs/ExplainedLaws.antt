-- The outcome of an explanation as the code comes to it: without a search where a move is no rule's number, otherwise
-- the search's; and the plan that the reasons are tried against.
-- Assumes nothing.
use mathlib.Core.Path.{◌≡◌, refl, sym, ap, ◌∙◌}
use mathlib.Core.Logic.{◌≢◌, ⊎_elim}
use mathlib.Core.Bool.{Bool, true, false, not, cond}
use mathlib.Core.Option.{Option, some, none}
use mathlib.Core.List.{[]}
use Prim.Native.Nat.{ℕ}
use native.Mathlib.Omega.{arith}
use lib.Dec.{eqb}
use borrow.Author.Tests.{eqb-true, ne_eqb}
use Rattle.theory_spec.specs.Lists.{any, within, is_some}
use Rattle.theory_spec.specs.Sequences.{Sequence}
use Rattle.theory_spec.proofs.ListLaws.{or_split}
use Rattle.model_spec.specs.Limits.{move_limit}
use Rattle.model_spec.specs.Refusals.{first_refusal}
use Rattle.model_spec.specs.declared.RuleSet.{RuleSet}
use Rattle.model_spec.proofs.RefusalLaws.{refusal-before, refusal_at_most}
use Rattle.model_spec.proofs.MoveLaws.{no_unknown_iff}
use Rattle.search_spec.specs.Query.{Query, LeadsToGoal}
use Rattle.search_spec.specs.Searched.{query_causes, cheapest_plan, plan_of, shown_plan}
use Rattle.search_spec.specs.Searched.{searched_with, searched, WellPosed}
use Rattle.search_spec.proofs.EndLaws.{some-plan_iff}
use Rattle.search_spec.proofs.MeaningLaws.{query_few, search_meaning}
use Rattle.explain_spec.specs.Explained.{explain_causes, has_reason, bare, plan_for, explained_with, first_reason}
use Rattle.explain_spec.specs.Explained.{explained_by, explained}
use Rattle.explain_spec.specs.Meaning.{ProposalPassed}
use Rattle.explain_spec.proofs.OutcomeLaws.{known-found, unknown_13}

module _ (set : RuleSet) (query : Query) (q : Sequence) where
  abbrev refusal : ℕ
  refusal = first_refusal (query_causes set query move_limit)

  abbrev unknown : Bool
  unknown = any (λ n. not (within 1 set.count n)) q

  abbrev outcome : ℕ
  outcome = first_refusal (explain_causes set query q)

  by-outcome : (n : ℕ) → outcome ≡ n → explained set query q ≡ explained_by set query q n
  unfolding explained
  by-outcome n e = ap (explained_by set query q) e

  pub alone_of : (n : ℕ) → outcome ≡ n → has_reason n ≡ false → bare n ≡ explained set query q
  unfolding explained_by
  alone_of n e h =
      sym (by-outcome n e ∙ ap (λ b. cond b (explained_with set query q n (first_reason set query q)) (bare n)) h)

  pub told_of : (n : ℕ) → outcome ≡ n → has_reason n ≡ true
      → explained_with set query q n (first_reason set query q) ≡ explained set query q
  unfolding explained_by
  told_of n e h =
      sym (by-outcome n e ∙ ap (λ b. cond b (explained_with set query q n (first_reason set query q)) (bare n)) h)

  -- ── Without a search ───────────────────────────────────────────────────────────────────────────

  -- a refusal of the query comes before a move that is no rule's number
  pub refused-first : refusal ≢ 0 → bare refusal ≡ explained set query q
  unfolding explain_causes
  refused-first h =
      let few = refusal_at_most 14 (query_causes set query move_limit) (query_few set query move_limit) in
      let other : has_reason refusal ≡ false = rw (ne_eqb refusal 0 h, ne_eqb refusal 15 (λ e. omega arith)) refl in
      alone_of refusal (refusal-before (query_causes set query move_limit) _ h) other

  pub unknown-first : refusal ≡ 0 → unknown ≡ true → bare 13 ≡ explained set query q
  unknown-first h e = alone_of 13 (unknown_13 set query q h e) refl

  -- ── With one ───────────────────────────────────────────────────────────────────────────────────

  module _ (known : unknown ≡ false) where
    -- the outcome is the search's
    pub searched-outcome : outcome ≡ (searched set query move_limit).answer.outcome
    unfolding searched_with searched
    searched-outcome = known-found set query q known

    module _ (n : ℕ) (is : (searched set query move_limit).answer.outcome ≡ n) (reasoned : has_reason n ≡ true) where
      -- a query with a reason has no fault
      passed : WellPosed set query move_limit
      passed =
          let meaning = search_meaning set query move_limit in
          ⊎_elim (λ e. (meaning.solved.0 (is ∙ eqb-true n 0 e)).0.0)
          (λ e. (meaning.unsolvable.0 (is ∙ eqb-true n 15 e)).0.0)
          (or_split (eqb n 0) (eqb n 15) reasoned)

      pub proposal-passed : ProposalPassed set query q
      proposal-passed = ((passed.0.0, passed.1), (no_unknown_iff set.count q).0 known)

      -- the plan that the search shows is the one that the reasons are tried against
      pub plan-shown : shown_plan set query n ≡ plan_for set query
      unfolding shown_plan
      plan-shown =
          let meaning = search_meaning set query move_limit in
          ⊎_elim (λ e. ap (shown_plan set query) (eqb-true n 0 e))
          (λ e. ap (shown_plan set query) (eqb-true n 15 e)
          ∙ sym (no-plan (cheapest_plan set query) refl (meaning.unsolvable.0 (is ∙ eqb-true n 15 e)).1))
          (or_split (eqb n 0) (eqb n 15) reasoned)
        where
          no-plan : (o : Option Sequence) → cheapest_plan set query ≡ o
              → ((p : Sequence) → LeadsToGoal set query p → ⊥) → plan_of o ≡ []
          no-plan none e f = refl
          no-plan (some p) e f = let w = (some-plan_iff set query).0 (ap is_some e) in absurd (f w.0 w.1)
