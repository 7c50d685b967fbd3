-- `planner::planner_read` meets its contract: the reading's outcome, with its meaning.
use mathlib.Core.Path.{ap}
use Rattle.files_spec.specs.declared.Reading.{Reading}
use Rattle.planner.proofs.planner_read.Goals as goal

pub returns : goal.returns
returns c = (ap (λ (file : Reading). file.outcome) c.read-judged.ensures.0, c.read-judged.ensures.1.judged)
