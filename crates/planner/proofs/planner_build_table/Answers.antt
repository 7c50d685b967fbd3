-- `planner::planner_build_table` meets its contract: the answer is packed, and can be taken apart.
use lib.ListN.{length}
use Rattle.planner_spec.proofs.TextTableLaws.{build-packed}
use Rattle.planner.proofs.planner_build_table.Goals as goal

pub returns : goal.returns
returns c =
    let s = c.args in
    let built = c.build_table-answer.ensures in
    let packs = c.pack_table.ensures in
    let told = build-packed s.rules.now s.reach (length s.table.now) _ _ built.0 built.2 _ packs in
    (told.0, built.1, told.1)
