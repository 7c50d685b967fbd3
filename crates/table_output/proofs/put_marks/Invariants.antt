-- `table_output::put_marks` meets its contract. The invariant: the lines of the entries from the index on remain.
use Rattle.output_laws.proofs.PageLaws.{RemainsOn}
use Rattle.report_laws.specs.How.Marks.{marks_text}
use Rattle.report_laws.proofs.MarkLoopLaws.{lines_from}
use Rattle.table_output.proofs.put_marks.Given as goal

abbrev pub invariant-loop-index : goal.invariant-loop-index
invariant-loop-index l =
    RemainsOn l.initial.page.at (marks_text l.set l.table) l.initial.page.text l.page.at
    (lines_from l.table l.set l.index) l.page.text
