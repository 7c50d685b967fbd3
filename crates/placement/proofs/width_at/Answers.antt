-- `placement::width_at` meets its contract.
use borrow.Author.Tests.{lt-ltb, le-ltb}
use Rattle.model_spec.specs.States.{width}
use Rattle.placement.proofs.width_at.Goals as goal

pub returns-then-i-positions : goal.returns-then-i-positions
unfolding width
returns-then-i-positions c = rw (lt-ltb _ _ c.if-i-positions.true) c.entry_at.ensures

pub returns-else-i-positions : goal.returns-else-i-positions
unfolding width
returns-else-i-positions c = rw (le-ltb _ _ c.if-i-positions.false)
