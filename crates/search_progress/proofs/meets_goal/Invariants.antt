-- `search_progress::meets_goal` meets its contract. The invariant: the bytes from place i on, of the goal's first
-- sixteen, decide the whole.
use mathlib.Core.Path.{◌≡◌}
use mathlib.Core.Bool.{◌||◌}
use Prim.Native.Nat.{◌-◌}
use lib.Dec.{eqb}
use lib.ListN.{length, get_or, take}
use Rattle.theory_spec.specs.Lists.{every, numbers_from}
use Rattle.search_spec.specs.Query.{meets_goal}
use Rattle.search_progress.proofs.meets_goal.Given as goal

abbrev pub invariant-loop-i : goal.invariant-loop-i
invariant-loop-i l =
    every (λ j. eqb (get_or (take 16 l.goal) j 0) 255 || eqb (get_or l.state j 0) (get_or (take 16 l.goal) j 0))
    (numbers_from l.i (length (take 16 l.goal) - l.i))
    ≡ meets_goal (take 16 l.goal) l.state
