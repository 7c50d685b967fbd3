-- `search_progress::floor_shown` meets its contract.
use Rattle.std.proofs.Common.{◌∙◌}
use Rattle.search_laws.specs.How.Visits.{floor_shown}
use Rattle.search_progress.proofs.floor_shown.Goals as goal

pub returns-then-exceeded : goal.returns-then-exceeded
unfolding floor_shown
returns-then-exceeded c = c.min.ensures ∙ rw c.if-exceeded.true

pub returns-else-exceeded : goal.returns-else-exceeded
unfolding floor_shown
returns-else-exceeded c = rw c.if-exceeded.false
