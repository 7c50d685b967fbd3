-- `packing::pack` meets its contract: the fields fit, so nothing overflows.
use native.Mathlib.Omega.{arith}
use Rattle.planner_spec.specs.Packed.{packed}
use Rattle.packing.proofs.pack.Goals as goal

pub returns : goal.returns
unfolding packed
returns c = omega arith
