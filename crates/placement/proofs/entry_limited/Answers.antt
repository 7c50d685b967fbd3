-- `placement::entry_limited` meets its contract.
use borrow.Author.Tests.{lt-ltb, le-ltb}
use Rattle.model_spec.specs.Validity.{entry_limited}
use Rattle.placement.proofs.entry_limited.Goals as goal

pub returns-then-entry-lt-FIRST_VARIABLE : goal.returns-then-entry-lt-FIRST_VARIABLE
unfolding entry_limited
returns-then-entry-lt-FIRST_VARIABLE c = rw (lt-ltb _ _ c.if-entry-lt-FIRST_VARIABLE.true, c.width_at.ensures)

pub returns-else-entry-lt-FIRST_VARIABLE : goal.returns-else-entry-lt-FIRST_VARIABLE
unfolding entry_limited
returns-else-entry-lt-FIRST_VARIABLE c = rw (le-ltb _ _ c.if-entry-lt-FIRST_VARIABLE.false)
