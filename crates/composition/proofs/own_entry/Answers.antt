-- `composition::own_entry` meets its contract: by cases on whether the position has two values or more.
use native.Mathlib.Omega.{arith}
use borrow.Author.Tests.{lt-ltb, le-ltb}
use Rattle.composition.proofs.own_entry.Goals as goal

pub returns-then-size-gt1 : goal.returns-then-size-gt1
returns-then-size-gt1 c = rw (lt-ltb 1 c.args.size (omega (arith, c.if-size-gt1.true)))

pub returns-else-size-gt1 : goal.returns-else-size-gt1
returns-else-size-gt1 c = rw (le-ltb 1 c.args.size (omega (arith, c.if-size-gt1.false)))
