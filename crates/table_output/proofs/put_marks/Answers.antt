-- `table_output::put_marks` meets its contract. The invariant: the lines of the entries from the index on remain.
use Rattle.output_laws.proofs.PageLaws.{page_all, page-rest, page-done}
use Rattle.report_laws.proofs.MarkLoopLaws.{lines_all, lines_more, lines_end}
use Rattle.table_output.proofs.put_marks.Goals as goal

pub loop-index-init : goal.loop-index-init
loop-index-init c = let s = c.args in rw (lines_all s.table.now s.set) (page_all _ _ _)

pub loop-index-preserved : goal.loop-index-preserved
loop-index-preserved c =
    let l = c.loop-index in
    let s = c.args in
    let more = lines_more s.table.now s.set l.index _ c.loop-index-test.true c.entry_at.ensures.0 in
    page-rest l.invariant _ _ more c.put_mark.ensures

pub returns : goal.returns
returns c =
    let s = c.args in
    page-done c.loop-index.invariant (lines_end s.table.now s.set c.loop-index.index c.loop-index-test.false)
