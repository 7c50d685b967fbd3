-- `composition::followed` meets its contract. The invariant: the first i places of the effect, and what the rule's
-- other entries stand for, are the whole.
use mathlib.Core.Path.{◌≡◌}
use mathlib.Core.List.{◌++◌}
use Prim.Native.Nat.{◌≤◌}
use lib.ListN.{length, take, drop}
use Rattle.model_spec.specs.States.{values_of}
use Rattle.composition.proofs.followed.Given as goal

abbrev pub invariant-loop-i : goal.invariant-loop-i
invariant-loop-i l =
    (l.i ≤ 16)
    × (l.sequence.admitted ≡ l.initial.sequence.admitted)
    × (l.sequence.condition ≡ l.initial.sequence.condition)
    × (length l.sequence.effect ≡ 16)
    × (take l.i l.sequence.effect ++ values_of (drop l.i l.last) l.held ≡ values_of l.last l.held)
