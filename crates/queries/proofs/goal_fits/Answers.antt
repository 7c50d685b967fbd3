-- `queries::goal_fits` meets its contract: the closure is the test of a position.
use Rattle.std.proofs.Common.{rules, arith, tests, ◌∙◌, ℕ, ltb, eqb, ◌||◌}
use Rattle.std.proofs.lemmas.Iterator.{YieldsList-from_slice, YieldsList-from_zip}
use Rattle.std.proofs.lemmas.Iterator.Search.{all_from_yields_List}
use borrow.Author.Tests.{ne_eqb}
use Rattle.search_spec.specs.Query.{any_value, goal_fits}
use Rattle.search_laws.proofs.ByteLaws.{all_fit}
use Rattle.queries.proofs.goal_fits.Goals as goal

pub returns-then-goal-set : goal.returns-then-goal-set
unfolding goal_fits
returns-then-goal-set c =
    let goal = c.args.goal.now in
    let sizes = c.args.set.sizes in
    all_from_yields_List (λ (q : ℕ × ℕ). eqb q.0 any_value || ltb q.0 q.1) c.all.new.self _ _ c.all.ensures.ran
    (YieldsList-from_zip (YieldsList-from_slice goal cc) (YieldsList-from_slice sizes cc))
    (λ x b q k. search (rules, tests))
    ∙ all_fit (λ (byte size : ℕ). eqb byte any_value || ltb byte size) c.args.set.positions goal sizes
    c.if-goal-set.true (omega (arith, c.requires))

pub returns-else-goal-set : goal.returns-else-goal-set
unfolding goal_fits
returns-else-goal-set c = rw (ne_eqb _ _ c.if-goal-set.false)
