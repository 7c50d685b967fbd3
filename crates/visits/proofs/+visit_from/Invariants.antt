-- `visits::visit_from` meets its contract, by a measure: each call of itself has one move less to come.
-- The invariant: what the rules from place k on make of the progress is what all rules make of the progress that the
-- sequence itself leaves; and the longer plan lacks only its last move.
use Rattle.std.proofs.Common.{◌-◌, ◌≡◌, take, set, ℕ, [], ◌∷◌, ◌++◌}
use Rattle.theory_spec.specs.Lists.{padded}
use Rattle.search_spec.specs.Searched.{no_move}
use Rattle.search_laws.proofs.VisitLoopLaws.{rest_from}
use Rattle.visits.proofs.+visit_from.Given as goal

-- how many moves are to come
abbrev pub decreases-visit_from : goal.decreases-visit_from
decreases-visit_from l = l.left

abbrev pub invariant-loop-k : goal.invariant-loop-k
invariant-loop-k l =
    let lent = l.task in
    (rest_from lent.conditions.now lent.effects.now lent.costs.now lent.blocked.now lent.goal.now lent.limits
    (l.left - 1) (take l.depth l.plan) l.state l.k l.carried
    ≡ rest_from lent.conditions.now lent.effects.now lent.costs.now lent.blocked.now lent.goal.now lent.limits
    (l.left - 1) (take l.depth l.plan) l.state 0 l.initial.carried)
    × ((number : ℕ) → set l.longer l.depth number ≡ padded 32 no_move (take l.depth l.plan ++ (number ∷ [])))
