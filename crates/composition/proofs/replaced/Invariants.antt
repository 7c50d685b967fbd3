-- `composition::replaced` meets its contract. The invariant: in the first i places of both vectors each `from` is
-- replaced, the others are as they were.
use mathlib.Core.Path.{◌≡◌}
use Prim.Native.Nat.{◌≤◌}
use Rattle.model_spec.proofs.LoopLaws.{front}
use Rattle.macros_spec.proofs.VectorLaws.{exchanged}
use Rattle.composition.proofs.replaced.Given as goal

abbrev pub invariant-loop-i : goal.invariant-loop-i
invariant-loop-i l =
    (l.i ≤ 16)
    × (l.sequence.admitted ≡ l.initial.sequence.admitted)
    × (l.sequence.condition ≡ front (exchanged l.from l.to) l.i l.initial.sequence.condition)
    × (l.sequence.effect ≡ front (exchanged l.from l.to) l.i l.initial.sequence.effect)
