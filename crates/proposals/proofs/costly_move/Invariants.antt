-- `proposals::costly_move` meets its contract. The invariant: the total is the cost of the moves before i, within the
-- bound, and the moves from i on decide which one passes it first.
use mathlib.Core.Path.{◌≡◌}
use Prim.Native.Nat.{◌+◌, ◌≤◌}
use lib.Dec.{ltb}
use lib.ListN.{length, take}
use Rattle.model_spec.specs.Rules.{sequence_cost}
use Rattle.explain_spec.specs.Reasons.{costly_move}
use Rattle.explain_laws.proofs.ProposalLoopLaws.{first_from}
use Rattle.proposals.proofs.costly_move.Given as goal

abbrev pub invariant-loop-i : goal.invariant-loop-i
invariant-loop-i l =
    (l.total ≡ sequence_cost l.set (take l.i l.moves))
    × (l.total ≤ l.max_cost)
    × (first_from (λ k. ltb l.max_cost (sequence_cost l.set (take k l.moves))) (length l.moves) (l.i + 1)
    ≡ costly_move l.set l.max_cost l.moves)
