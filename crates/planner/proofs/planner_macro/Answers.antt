-- `planner::planner_macro` meets its contract, which is that of `text_macros::macro_of`.
use Rattle.planner.proofs.planner_macro.Goals as goal

pub returns : goal.returns
returns c = c.macro_of.ensures
