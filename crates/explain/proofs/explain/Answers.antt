-- `explain::explain` meets its contract: each way out gives what the definition says, which has its meaning.
use mathlib.Core.Path.{◌≡◌, sym, ap, ◌∙◌, subst}
use Rattle.theory_spec.specs.Sequences.{Sequence}
use Rattle.model_spec.specs.declared.RuleSet.{RuleSet}
use Rattle.search_spec.specs.Query.{Query, query_of}
use Rattle.search_spec.specs.Searched.{shown_plan, Searched}
use Rattle.search_spec.specs.PlanPart.{part_of}
use Rattle.search_spec.proofs.PlanPartLaws.{part-shown}
use Rattle.explain_spec.specs.Explained.{bare, explained}
use Rattle.explain_spec.specs.Meaning.{ExplanationMeaning}
use Rattle.explain_spec.specs.declared.Explanation.{Explanation}
use Rattle.explain_spec.proofs.MeaningLaws.{explanation_meaning}
use Rattle.explain_laws.proofs.ExplainedLaws.{alone_of, told_of, refused-first, unknown-first, searched-outcome}
use Rattle.explain_laws.proofs.ExplainedLaws.{proposal-passed, plan-shown}
use Rattle.refusals_spec.proofs.NumberLaws.{number_positive}
use Rattle.explain.proofs.explain.Goals as goal

-- the definition's answer has its meaning
means : (set : RuleSet) (query : Query) (q : Sequence) (r : Explanation) → r ≡ explained set query q
    → (r ≡ explained set query q) × ExplanationMeaning set query q r
means set query q r e = (e, subst (ExplanationMeaning set query q) (sym e) (explanation_meaning set query q))

pub returns-in-Ok : goal.returns-in-Ok
returns-in-Ok c =
    let a = c.args in
    let query = query_of a.query in
    let q = a.moves.now in
    means a.set query q _
    (c.bare.ensures ∙ ap bare c.number_of.ensures
    ∙ unknown-first a.set query q (sym (c.in-Ok.ensures a.query.max_cost a.query.step_limit))
    (sym c.has_unknown_move.ensures ∙ c.if-has_unknown_move.true))

pub returns-in-Err : goal.returns-in-Err
returns-in-Err c =
    let a = c.args in
    let query = query_of a.query in
    let told = c.in-Err.ensures a.query.max_cost a.query.step_limit in
    means a.set query a.moves.now _
    (c.bare-in-Err.ensures ∙ ap bare (c.number_of-in-Err.ensures ∙ told)
    ∙ refused-first a.set query a.moves.now (λ z. number_positive c.in-Err.refusal (told ∙ z)))

pub returns-then-not-has_reason : goal.returns-then-not-has_reason
returns-then-not-has_reason c =
    let a = c.args in
    let query = query_of a.query in
    let q = a.moves.now in
    let known = sym c.has_unknown_move.ensures ∙ c.if-has_unknown_move.false in
    let found = ap (λ (f : Searched). f.answer.outcome) c.search-answer.ensures.0 in
    means a.set query q _
    (c.bare-then-not-has_reason.ensures
    ∙ alone_of a.set query q _ (searched-outcome a.set query q known ∙ found)
    (sym c.has_reason.ensures ∙ c.if-not-has_reason.true))

pub explained_with-requires : goal.explained_with-requires
explained_with-requires c =
    let a = c.args in
    let query = query_of a.query in
    let q = a.moves.now in
    let known = sym c.has_unknown_move.ensures ∙ c.if-has_unknown_move.false in
    let found = ap (λ (f : Searched). f.answer.outcome) c.search-answer.ensures.0 in
    let reasoned = sym c.has_reason.ensures ∙ c.if-not-has_reason.false in
    proposal-passed a.set query q known _ found reasoned

pub returns : goal.returns
returns c =
    let a = c.args in
    let query = query_of a.query in
    let q = a.moves.now in
    let known = sym c.has_unknown_move.ensures ∙ c.if-has_unknown_move.false in
    let found = ap (λ (f : Searched). f.answer.outcome) c.search-answer.ensures.0 in
    let reasoned = sym c.has_reason.ensures ∙ c.if-not-has_reason.false in
    let shown = c.plan_part-shown.ensures.0 ∙ sym (ap part_of c.search-answer.ensures.0) ∙ part-shown a.set query 32
    ∙ ap (shown_plan a.set query) found ∙ plan-shown a.set query q known _ found reasoned in
    means a.set query q _
    (c.explained_with.ensures shown
    ∙ told_of a.set query q _ (searched-outcome a.set query q known ∙ found) reasoned)
