-- `packing::pack_table` meets its contract: the parts fit, so nothing overflows.
use native.Mathlib.Omega.{arith}
use Rattle.planner_spec.specs.PackedTable.{packed_table}
use Rattle.packing.proofs.pack_table.Goals as goal

pub returns : goal.returns
unfolding packed_table
returns c = omega arith
