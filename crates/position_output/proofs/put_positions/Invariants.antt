-- `position_output::put_positions` meets its contract. The invariant: the members before place k stand at the array's
-- front.
use mathlib.Core.Path.{◌≡◌}
use Prim.Native.Nat.{◌≤◌}
use lib.ListN.{length}
use Rattle.report_laws.proofs.PositionLoopLaws.{Written}
use Rattle.position_output.proofs.put_positions.Given as goal

abbrev pub invariant-loop-k : goal.invariant-loop-k
invariant-loop-k l =
    (length l.positions ≡ 16)
    × (l.count ≤ l.k)
    × Written l.members l.k l.count l.positions
