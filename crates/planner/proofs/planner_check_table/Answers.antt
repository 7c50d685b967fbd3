-- `planner::planner_check_table` meets its contract: the answer is packed, and can be taken apart.
use Rattle.planner_spec.proofs.TextTableLaws.{check-packed}
use Rattle.planner.proofs.planner_check_table.Goals as goal

pub returns : goal.returns
returns c =
    let s = c.args in
    let judged = c.check_table-answer.ensures in
    check-packed s.rules.now s.reach s.table.now _ judged.0 judged.1 _ c.pack_table.ensures
