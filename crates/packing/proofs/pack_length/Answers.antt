-- `packing::pack_length` meets its contract: what is packed of the length is below the limit, so nothing overflows.
use native.Mathlib.Omega.{arith}
use Rattle.planner_spec.specs.PackedLength.{packed_length}
use Rattle.packing.proofs.pack_length.Goals as goal

pub returns : goal.returns
unfolding packed_length
returns c = omega arith
