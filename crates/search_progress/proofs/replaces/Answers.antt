-- `search_progress::replaces` meets its contract: by the tests on the way.
use borrow.Author.Tests.{lt-ltb, le-ltb, eq-eqb, ne_eqb}
use Rattle.search_laws.specs.How.Visits.{replaces}
use Rattle.search_progress.proofs.replaces.Goals as goal

pub returns-in-None : goal.returns-in-None
unfolding replaces
returns-in-None c = rw c.in-None.is

pub returns-then-cost-former : goal.returns-then-cost-former
unfolding replaces
returns-then-cost-former c = rw (c.in-Some.is, lt-ltb _ _ c.if-cost-former.true)

pub returns-then-cost-former-2 : goal.returns-then-cost-former-2
unfolding replaces
returns-then-cost-former-2 c =
    rw (c.in-Some.is, le-ltb _ _ c.if-cost-former.false, eq-eqb _ _ c.if-cost-former-2.true)

pub returns-else-cost-former-2 : goal.returns-else-cost-former-2
unfolding replaces
returns-else-cost-former-2 c =
    rw (c.in-Some.is, le-ltb _ _ c.if-cost-former.false, ne_eqb _ _ c.if-cost-former-2.false)
