-- `queries::start_fits` meets its contract: the closure is the test of a position.
use Rattle.std.proofs.Common.{rules, arith, tests, ◌∙◌, ℕ, ltb}
use Rattle.std.proofs.lemmas.Iterator.{YieldsList-from_slice, YieldsList-from_zip}
use Rattle.std.proofs.lemmas.Iterator.Search.{all_from_yields_List}
use borrow.Author.Tests.{ne_eqb}
use Rattle.search_spec.specs.Query.{start_fits}
use Rattle.search_laws.proofs.ByteLaws.{all_fit}
use Rattle.queries.proofs.start_fits.Goals as goal

pub returns-then-start-set : goal.returns-then-start-set
unfolding start_fits
returns-then-start-set c =
    let start = c.args.start.now in
    let sizes = c.args.set.sizes in
    all_from_yields_List (λ (q : ℕ × ℕ). ltb q.0 q.1) c.all.new.self _ _ c.all.ensures.ran
    (YieldsList-from_zip (YieldsList-from_slice start cc) (YieldsList-from_slice sizes cc))
    (λ x b q k. search (rules, tests))
    ∙ all_fit (λ (byte size : ℕ). ltb byte size) c.args.set.positions start sizes c.if-start-set.true
    (omega (arith, c.requires))

pub returns-else-start-set : goal.returns-else-start-set
unfolding start_fits
returns-else-start-set c = rw (ne_eqb _ _ c.if-start-set.false)
