-- `validity::size_valid` meets its contract.
use borrow.Author.Tests.{lt-ltb, le-ltb}
use Rattle.model_spec.specs.Validity.{size_valid}
use Rattle.validity.proofs.size_valid.Goals as goal

pub returns-then-i-positions : goal.returns-then-i-positions
unfolding size_valid
returns-then-i-positions c = rw (lt-ltb _ _ c.if-i-positions.true) c.in_range.ensures

pub returns-else-i-positions : goal.returns-else-i-positions
unfolding size_valid
returns-else-i-positions c = rw (le-ltb _ _ c.if-i-positions.false)
