-- `touched::named_by` meets its contract: a constant, the variable of its own place, another's.
use Rattle.macros_spec.proofs.TouchedLoopLaws.{constant_adds, own_adds, other_adds}
use Rattle.touched.proofs.named_by.Goals as goal

pub returns-then-entry-lt-FIRST_VARIABLE : goal.returns-then-entry-lt-FIRST_VARIABLE
returns-then-entry-lt-FIRST_VARIABLE c = constant_adds _ _ c.if-entry-lt-FIRST_VARIABLE.true

pub returns-then-named-place : goal.returns-then-named-place
returns-then-named-place c = own_adds _ _ c.if-named-place.true

pub returns : goal.returns
returns c = other_adds _ _ c.if-entry-lt-FIRST_VARIABLE.false c.if-named-place.false
