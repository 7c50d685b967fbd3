-- `visits::explored` meets its contract: for a query that is not refused what it lends is as the recursion asks, and
-- the visits from the empty sequence on come to what the query asks for.
use mathlib.Core.Path.{refl, sym, ◌∙◌, ap}
use Rattle.search_spec.specs.Query.{query_of}
use Rattle.refusals_spec.specs.Numbers.{outcome_number}
use Rattle.search_laws.specs.How.Visits.{no_progress}
use Rattle.search_laws.proofs.ExploredLaws.{explored-whole, unrefused}
use Rattle.search_laws.proofs.LentLaws.{lent-whole, reached-first}
use Rattle.visits.proofs.explored.Goals as goal

pub visit_from-requires : goal.visit_from-requires
visit_from-requires c =
    let a = c.args in
    let query = query_of a.query in
    let none = unrefused a.set query a.plan_size
    (sym (c.query_refusal.ensures c.args.query.max_cost c.args.query.step_limit)
    ∙ ap outcome_number c.in_ok-query_refusal.was) in (
      lent-whole a.set query a.plan_size none _ _ c.conditions_of.ensures c.effects_of.ensures,
      reached-first a.set query a.plan_size none _ _ c.start_state-state.ensures,
    )

pub returns-clause-progress : goal.returns-clause-progress
unfolding no_progress
returns-clause-progress c =
    let a = c.args in
    let query = query_of a.query in
    let none = unrefused a.set query a.plan_size
    (sym (c.query_refusal.ensures c.args.query.max_cost c.args.query.step_limit)
    ∙ ap outcome_number c.in_ok-query_refusal.was) in
    explored-whole a.set query a.plan_size none _ c.lookup_of.ensures _ _ _ _ _ _
    c.conditions_of.ensures c.effects_of.ensures c.costs_of.ensures c.start_state-state.ensures
    refl c.visit_from.ensures
