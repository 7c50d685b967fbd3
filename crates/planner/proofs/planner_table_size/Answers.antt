-- `planner::planner_table_size` meets its contract: the answer for the text is packed, and can be taken apart.
use Rattle.planner_spec.proofs.TextTableLaws.{size-packed}
use Rattle.planner.proofs.planner_table_size.Goals as goal

pub returns : goal.returns
returns c =
    let s = c.args in
    size-packed s.rules.now s.reach _ c.table_size-size.ensures.0 _ c.pack_length.ensures
