-- `search_progress::noted` meets its contract: by the tests on the way.
use Rattle.std.proofs.Common.{sym, ◌∙◌}
use borrow.Author.Tests.{lt-ltb, le-ltb}
use Rattle.search_laws.specs.How.Visits.{best_at, noted_moves}
use Rattle.search_progress.proofs.noted.Goals as goal
use Rattle.search_progress.proofs.noted.Goals.{else-meets_goal-via-then-meets_goal+else-replaces}
use Rattle.search_progress.proofs.noted.Goals.{else-meets_goal-via-else-meets_goal}

pub returns-then-step_limit-progress : goal.returns-then-step_limit-progress
unfolding noted_moves
returns-then-step_limit-progress c =
    rw (le-ltb c.args.progress.steps c.args.step_limit c.if-step_limit-progress.true, c.min.ensures)

pub returns-then-replaces : goal.returns-then-replaces
unfolding noted_moves best_at
returns-then-replaces c =
    rw (
      lt-ltb _ _ c.if-step_limit-progress.false,
      sym c.meets_goal.ensures ∙ c.if-meets_goal.true,
      sym c.replaces.ensures ∙ c.if-replaces.true,
    )

pub returns-else-meets_goal : goal.returns-else-meets_goal
unfolding noted_moves best_at
returns-else-meets_goal c = elim c.else-meets_goal.branch [
  | else-meets_goal-via-then-meets_goal+else-replaces w ↦ rw (
    lt-ltb _ _ c.if-step_limit-progress.false,
    sym c.meets_goal.ensures ∙ w.if-meets_goal.true,
    sym w.replaces.ensures ∙ w.if-replaces.false,
  )
  | else-meets_goal-via-else-meets_goal w ↦ rw (
    lt-ltb _ _ c.if-step_limit-progress.false,
    sym c.meets_goal.ensures ∙ w.if-meets_goal.false,
  )
]
