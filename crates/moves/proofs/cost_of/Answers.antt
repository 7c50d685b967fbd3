-- `moves::cost_of` meets its contract. The invariant: the total plus the cost of the moves left is the whole cost.
use Rattle.std.proofs.Common.{arith, refl}
use Rattle.macros_spec.proofs.MoveLoopLaws.{cost_go, cost-end}
use Rattle.moves.proofs.cost_of.Goals as goal

pub returns-then-total-gt-MORE_THAN_U16 : goal.returns-then-total-gt-MORE_THAN_U16
returns-then-total-gt-MORE_THAN_U16 c =
    let s = c.args in
    omega (arith, cost_go s.set s.moves.now c.loop-number.number-index _ refl (omega arith))

pub loop-number-preserved : goal.loop-number-preserved
loop-number-preserved c =
    let s = c.args in
    let left = cost_go s.set s.moves.now c.loop-number.number-index _ refl (omega arith) in
    (omega arith, omega arith)

pub returns : goal.returns
returns c =
    let s = c.args in
    omega (arith, cost-end s.set s.moves.now c.loop-number.number-index (omega arith))
