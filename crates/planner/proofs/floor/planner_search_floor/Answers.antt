-- `planner::floor::planner_search_floor` meets its contract: the floor is that of the search.
use lib.ListN.{length}
use Rattle.search_spec.specs.Query.{asked}
use Rattle.planner_spec.proofs.TextSearchLaws.{search_floor}
use Rattle.planner.proofs.floor.planner_search_floor.Goals as goal

pub returns : goal.returns
returns c =
    let a = c.args in
    let query = asked a.reach a.table.now a.start.now a.goal.now a.max_moves a.max_cost a.step_limit in
    search_floor a.rules.now query (length a.plan.now) _ c.search_text-answer.ensures.0
