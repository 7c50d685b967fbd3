-- `answers::plan_part` meets its contract: the part is the first bytes, or none, of the caller's own buffer.
use mathlib.Core.Path.{refl}
use native.Mathlib.Omega.{arith}
use lib.ListN.{length}
use borrow.Author.Tests.{le-leb, lt-leb}
use Rattle.search_spec.specs.PlanPart.{plan_part}
use Rattle.answers.proofs.plan_part.Goals as goal

pub returns-then-count-plan : goal.returns-then-count-plan
unfolding plan_part
returns-then-count-plan c =
    let a = c.args in
    (simp (le-leb a.count (length a.plan.now) (omega (arith, c.if-count-plan.true))), refl)

pub returns : goal.returns
unfolding plan_part
returns c =
    let a = c.args in
    (simp (lt-leb a.count (length a.plan.now) (omega (arith, c.if-count-plan.false))), refl)
