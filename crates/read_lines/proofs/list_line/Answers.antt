-- `read_lines::list_line` meets its contract.
-- The invariant: the first i items stand in the array, and what is left of the text decides the line.
use mathlib.Core.Path.{refl, sym}
use native.Mathlib.Omega.{arith}
use Rattle.files_spec.proofs.ParserLaws.{refused-first, then_back}
use Rattle.reader_laws.specs.How.Parts.{keyed_list}
use Rattle.reader_laws.proofs.FoundLaws.{passed_on}
use Rattle.reader_laws.proofs.ReadLoopLaws.{items_list, fill_start, fill_go, fill_stop, fill_end}
use Rattle.read_lines.proofs.list_line.Goals as goal

pub returns-in_err-rest : goal.returns-in_err-rest
unfolding keyed_list
returns-in_err-rest c = passed_on _ _ (refused-first _ c.in_err-rest.ensures) c.from_residual.ensures.1

pub loop-i-init : goal.loop-i-init
unfolding keyed_list
loop-i-init c = fill_start (items_list _) _ (omega arith) (sym (then_back _ c.in_ok-rest.ensures refl))

pub returns-in_err-value : goal.returns-in_err-value
returns-in_err-value c =
    passed_on _ _
    (fill_stop (items_list _) c.loop-i.invariant (rw c.min-held.ensures at c.loop-i-test.true)
    (rw (c.ending.ensures, c.min-held.ensures) at c.in_err-value.ensures))
    c.from_residual-in_err-value.ensures.1

pub loop-i-preserved : goal.loop-i-preserved
loop-i-preserved c =
    fill_go (items_list _) c.loop-i.invariant _ _ (rw c.min-held.ensures at c.loop-i-test.true)
    (rw (c.ending.ensures, c.min-held.ensures) at c.in_ok-value.ensures)

pub returns : goal.returns
returns c = fill_end (items_list _) c.loop-i.invariant (rw c.min-held.ensures at c.loop-i-test.false)
