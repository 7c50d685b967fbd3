-- `search_progress::outcome_of` meets its contract.
use Rattle.search_laws.specs.How.Visits.{outcome_of}
use Rattle.search_progress.proofs.outcome_of.Goals as goal

pub returns-in-true-true : goal.returns-in-true-true
unfolding outcome_of
returns-in-true-true c = rw (c.in-true-true.is-0, c.in-true-true.is-1)

pub returns-in-true-false : goal.returns-in-true-false
unfolding outcome_of
returns-in-true-false c = rw (c.in-true-false.is-0, c.in-true-false.is-1)

pub returns-in-false-true : goal.returns-in-false-true
unfolding outcome_of
returns-in-false-true c = rw (c.in-false-true.is-0, c.in-false-true.is-1)

pub returns-in-false-false : goal.returns-in-false-false
unfolding outcome_of
returns-in-false-false c = rw (c.in-false-false.is-0, c.in-false-false.is-1)
