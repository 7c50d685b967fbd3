-- `planner::planner_rewrite` meets its contract: outcome and length are packed, and can be taken apart.
use lib.ListN.{length}
use Rattle.planner_spec.proofs.RewritingLaws.{rewrite-packed}
use Rattle.planner.proofs.planner_rewrite.Goals as goal

pub returns : goal.returns
returns c =
    let s = c.args in
    let again = c.rewrite-answer.ensures in
    let packs = c.pack_length.ensures in
    let told = rewrite-packed s.text.now (length s.out.now) _ _ again.0 again.2 _ packs in
    (told.0, again.1, told.1)
