-- `mark_output::put_mark` meets its contract: nothing, or four lines, laid one after the other.
use Rattle.files_spec.specs.Text.{line}
use Rattle.output_laws.proofs.PageLaws.{page_none, page-append}
use Rattle.report_laws.proofs.MarkLoopLaws.{entry_kept, entry-marked}
use Rattle.mark_output.proofs.put_mark.Goals as goal

pub returns-then-entry-eq-KEPT : goal.returns-then-entry-eq-KEPT
returns-then-entry-eq-KEPT c =
    let s = c.args in
    rw (entry_kept s.set s.index s.entry c.if-entry-eq-KEPT.true) (page_none _ _)

pub returns : goal.returns
unfolding line
returns c =
    let s = c.args in
    let at = c.touched_at-positions.ensures in
    rw (entry-marked s.set s.index s.entry c.if-entry-eq-KEPT.false)
    (page-append
    (page-append
    (page-append c.put_sequence_line.ensures c.put_sequence_line-2.ensures)
    (rw at at c.put_positions.ensures))
    (rw at at c.put_positions-2.ensures))
