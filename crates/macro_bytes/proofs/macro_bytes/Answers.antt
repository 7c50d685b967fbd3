-- `macro_bytes::macro_bytes` meets its contract: both vectors and the numbers, one behind the other.
use Rattle.planner_spec.specs.TextMacro.{macro_bytes}
use Rattle.macro_bytes.proofs.macro_bytes.Goals as goal

pub returns : goal.returns
unfolding macro_bytes
returns c = cc (
  c.copy_from_slice.ensures.after,
  c.copy_from_slice-2.ensures.after,
  c.copy_from_slice-3.ensures.after,
  c.number_bytes.ensures,
)
