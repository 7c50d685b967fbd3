-- `planner::planner_search` meets its contract: the answer is packed, and can be taken apart.
use lib.ListN.{length}
use borrow.Author.Rules.{rules}
use Rattle.search_spec.specs.Query.{asked}
use Rattle.planner_spec.proofs.TextSearchLaws.{search-packed}
use Rattle.planner.proofs.planner_search.Goals as goal

pub returns : goal.returns
returns c =
    let a = c.args in
    let query = asked a.reach a.table.now a.start.now a.goal.now a.max_moves a.max_cost a.step_limit in
    search-packed a.rules.now query (length a.plan.now) (search rules) _ c.search_text-answer.ensures.0 _ c.pack.ensures
