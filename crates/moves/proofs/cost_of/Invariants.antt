-- `moves::cost_of` meets its contract. The invariant: the total plus the cost of the moves left is the whole cost.
use Rattle.std.proofs.Common.{◌≡◌, ◌+◌, ◌≤◌, drop}
use Rattle.model_spec.specs.Rules.{sequence_cost}
use Rattle.moves.proofs.cost_of.Given as goal

abbrev pub invariant-loop-number : goal.invariant-loop-number
invariant-loop-number l =
    (l.total ≤ 65536)
    × (l.total + sequence_cost l.set (drop l.number-index l.moves) ≡ sequence_cost l.set l.moves)
