-- `touched::asked_at` meets its contract: a constant, another's variable, its own.
use mathlib.Core.Path.{sym, ◌∙◌}
use borrow.Author.Tests.{lt-ltb, le-ltb, eq-eqb, ne_eqb}
use Rattle.theory_spec.proofs.SetLaws.{shifted_own}
use Rattle.touched.proofs.asked_at.Goals as goal

pub returns-then-entry-lt-FIRST_VARIABLE : goal.returns-then-entry-lt-FIRST_VARIABLE
returns-then-entry-lt-FIRST_VARIABLE c =
    shifted_own 16 _ c.requires ∙ sym (rw (lt-ltb _ _ c.if-entry-lt-FIRST_VARIABLE.true))

pub returns-then-named-place : goal.returns-then-named-place
returns-then-named-place c =
    shifted_own 16 _ c.requires
    ∙ sym (rw (le-ltb _ _ c.if-entry-lt-FIRST_VARIABLE.false, ne_eqb _ _ c.if-named-place.true))

pub returns : goal.returns
returns c = rw (le-ltb _ _ c.if-entry-lt-FIRST_VARIABLE.false, eq-eqb _ _ c.if-named-place.false)
