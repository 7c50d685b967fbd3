-- `sequences::profile_of` meets its contract. The invariant: the vectors so far are those of the first i moves, the
-- cost so far plus the cost of the moves left is the whole cost, and the cost so far is at most 255 for each of the
-- first i moves.
use mathlib.Core.Path.{◌≡◌}
use Prim.Native.Nat.{◌+◌, ◌*◌, ◌≤◌}
use lib.ListN.{length, take, drop}
use Rattle.model_spec.specs.Rules.{sequence_cost}
use Rattle.macros_spec.specs.Composition.{composed, as_vectors}
use Rattle.sequences.proofs.profile_of.Given as goal

abbrev pub invariant-loop-number : goal.invariant-loop-number
invariant-loop-number l =
    (l.number-index ≤ length l.moves)
    × (l.vectors ≡ as_vectors (composed l.set (take l.number-index l.moves)))
    × (l.cost + sequence_cost l.set (drop l.number-index l.moves) ≡ sequence_cost l.set l.moves)
    × (l.cost ≤ 255 * l.number-index)
