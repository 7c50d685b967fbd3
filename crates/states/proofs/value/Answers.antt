-- `states::value` meets its contract: by cases on whether the entry is a constant.
use borrow.Author.Tests.{lt-ltb, le-ltb}
use Rattle.model_spec.specs.States.{value_of}
use Rattle.states.proofs.value.Goals as goal

pub returns-then-entry-lt-FIRST_VARIABLE : goal.returns-then-entry-lt-FIRST_VARIABLE
unfolding value_of
returns-then-entry-lt-FIRST_VARIABLE c = rw (lt-ltb _ _ c.if-entry-lt-FIRST_VARIABLE.true)

pub returns : goal.returns
unfolding value_of
returns c = rw (le-ltb _ _ c.if-entry-lt-FIRST_VARIABLE.false)
