-- `composition::own_variables` meets its contract. The invariant: the first i places, and what the others are to hold,
-- are the whole; the others still hold 0.
use mathlib.Core.Path.{◌≡◌}
use mathlib.Core.Bool.{cond}
use mathlib.Core.List.{◌++◌, map}
use Prim.Native.Nat.{◌+◌, ◌≤◌, ◌-◌}
use lib.ListN.{length, take, drop, replicate}
use Rattle.theory_spec.specs.Lists.{numbers_from}
use Rattle.model_spec.specs.States.{many_valued}
use Rattle.macros_spec.specs.Composition.{own_variables}
use Rattle.composition.proofs.own_variables.Given as goal

abbrev pub invariant-loop-i : goal.invariant-loop-i
invariant-loop-i l =
    (l.i ≤ l.i-end)
    × (length l.entries ≡ 16)
    × (take l.i l.entries
    ++ map (λ k. cond (many_valued l.positions l.sizes k) (16 + k) 0) (numbers_from l.i (16 - l.i))
    ≡ own_variables l.positions l.sizes)
    × (drop l.i l.entries ≡ replicate (16 - l.i) 0)
