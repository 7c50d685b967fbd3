-- `planner::explanation::planner_explain` meets its contract, which is that of `text_explain::explain_text`.
use Rattle.planner.proofs.explanation.planner_explain.Goals as goal

pub returns : goal.returns
returns c = c.explain_text.ensures
