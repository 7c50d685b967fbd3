-- `position_output::put_positions` meets its contract. The invariant: the members before place k stand at the array's
-- front.
use mathlib.Core.Path.{refl, ◌∙◌}
use native.Mathlib.Omega.{arith}
use lib.ListN.{length-set}
use Rattle.output_laws.proofs.PageLaws.{page-append}
use Rattle.report_laws.proofs.PositionLoopLaws.{position-written, position-passed, positions-line}
use Rattle.position_output.proofs.put_positions.Goals as goal
use Rattle.position_output.proofs.put_positions.Goals.{then-members-k-eq1, else-members-k-eq1}

pub loop-k-init : goal.loop-k-init
loop-k-init c = (refl, omega arith, refl)

pub loop-k-preserved : goal.loop-k-preserved
loop-k-preserved c =
    let l = c.loop-k in
    let members = c.args.members in
    let h = c.loop-k-test.true in
    elim c.if-members-k-eq1.branch [
      | then-members-k-eq1 w ↦ (
        rw w.positions-is (length-set l.positions l.count _ ∙ l.invariant.0),
        omega (arith, w.count-is),
        rw (w.positions-is, w.count-is)
            (position-written members l.k l.count _ l.invariant.2 h w.if-members-k-eq1.true (omega arith)),
      )
      | else-members-k-eq1 w ↦ (
        rw w.positions-is l.invariant.0,
        omega (arith, w.count-is),
        rw (w.positions-is, w.count-is)
            (position-passed members l.k l.count _ l.invariant.2 h w.if-members-k-eq1.false),
      )
    ]

pub returns : goal.returns
returns c =
    let l = c.loop-k in
    let s = c.args in
    let line = positions-line s.members l.k l.count _ l.invariant.2 c.loop-k-test.false s.key.now in
    rw (← line) (page-append c.put_word.ensures c.put_numbers.ensures)
