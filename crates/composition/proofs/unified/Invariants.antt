-- `composition::unified` meets its contract. The invariant: what is left to unify from place i on, in the vectors as
-- they stand, decides the whole.
use mathlib.Core.Path.{◌≡◌}
use mathlib.Core.Bool.{true}
use Prim.Native.Nat.{◌≤◌}
use lib.ListN.{drop}
use Rattle.macros_spec.specs.Composition.{Lines, unified}
use Rattle.macros_spec.specs.declared.Vectors.{Vectors}
use Rattle.composition.proofs.unified.Given as goal

-- both vectors of a sequence
abbrev pub lines_in : Vectors → Lines
lines_in v = record { condition = v.condition; effect = v.effect }

abbrev pub invariant-loop-i : goal.invariant-loop-i
invariant-loop-i l =
    (l.i ≤ 16)
    × (l.sequence.admitted ≡ true)
    × (unified (drop l.i l.asked) l.i (lines_in l.sequence) ≡ unified l.asked 0 (lines_in l.initial.sequence))
