-- `lookup::lookup_of` meets its contract. The invariant: the places before i hold what they should, the others still 0.
use mathlib.Core.Path.{◌≡◌}
use Prim.Native.Nat.{◌-◌, ◌≤◌}
use lib.ListN.{length}
use Rattle.search_laws.proofs.LookupLaws.{LooksUpTo, BlankFrom}
use Rattle.lookup.proofs.lookup_of.Given as goal

abbrev pub invariant-loop-i : goal.invariant-loop-i
invariant-loop-i l =
    (1 ≤ l.i) × (length l.blocked ≡ 30784) × LooksUpTo l.rules l.table l.blocked l.i
    × BlankFrom l.blocked l.i l.end

abbrev pub decreases-loop-i : goal.decreases-loop-i
decreases-loop-i l = l.end - l.i
