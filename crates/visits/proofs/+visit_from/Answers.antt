-- `visits::visit_from` meets its contract, by a measure: each call of itself has one move less to come.
-- The invariant: what the rules from place k on make of the progress is what all rules make of the progress that the
-- sequence itself leaves; and the longer plan lacks only its last move.
use mathlib.Core.Path.{refl, sym, ◌∙◌}
use Prim.Native.Nat.{◌+◌}
use native.Mathlib.Omega.{arith}
use lib.ListN.{take}
use lib.Seq.{set-set}
use Rattle.tables_spec.proofs.CountLaws.{count_bound}
use Rattle.search_spec.specs.Searched.{no_move}
use Rattle.search_laws.proofs.LookupLaws.{place-fits}
use Rattle.search_laws.proofs.PlanArrayLaws.{plan_more, noted-plan}
use Rattle.search_laws.proofs.VisitLoopLaws.{visits-last, whole, whole_exceeded, loop-end}
use Rattle.search_laws.proofs.VisitLoopLaws.{turn_taken, turn_left, plan_next, reached_next}
use Rattle.visits.proofs.+visit_from.Goals as goal
use Rattle.visits.proofs.+visit_from.Goals.{then-goes_on, else-goes_on}

pub returns-then-left-eq0 : goal.returns-then-left-eq0
returns-then-left-eq0 t c =
    let asked = c.requires in
    visits-last _ _ _ _ _ _ _ _ _ _ _ _ c.if-left-eq0.true asked.1.total
    (noted-plan _ _ _ _ _ _ _ _ asked.0.goal_limit (omega (arith, asked.1.room)) asked.1.rest c.noted.ensures)

pub returns-then-carried : goal.returns-then-carried
returns-then-carried t c =
    let asked = c.requires in
    whole_exceeded _ _ _ _ _ _ _ _ _ _ _ _ c.if-left-eq0.false asked.1.total
    (noted-plan _ _ _ _ _ _ _ _ asked.0.goal_limit (omega (arith, asked.1.room)) asked.1.rest c.noted-carried.ensures)
    c.if-carried.true

pub loop-k-init : goal.loop-k-init
loop-k-init t c =
    let reached = c.requires.1 in (
      refl,
      λ number. plan_more 32 no_move _ _ reached.rest number (omega (arith, reached.room, c.if-left-eq0.false)),
    )

-- the place of the sequence with rule 1 behind it leaves room for the other rules: each is one of the look-up's places
pub overflow_add-first : goal.overflow_add-first
overflow_add-first t c =
    let lent = c.requires.0 in
    let s = c.args in
    let first = place-fits _ _ (take s.depth s.plan.now) _ lent.reach_limits.0 lent.reach_limits.1 c.requires.1.rules
    c.first_place-first.ensures in
    omega (arith, c.loop-k-test.true, first.1, count_bound _ _ lent.count_limits.1 lent.reach_limits.1)

pub bounds-task-first : goal.bounds-task-first
bounds-task-first t c =
    let lent = c.requires.0 in
    let s = c.args in
    let first = place-fits _ _ (take s.depth s.plan.now) _ lent.reach_limits.0 lent.reach_limits.1 c.requires.1.rules
    c.first_place-first.ensures in
    omega (arith, c.loop-k-test.true, first.1, count_bound _ _ lent.count_limits.1 lent.reach_limits.1)

pub visit_from-carried-requires : goal.visit_from-carried-requires
visit_from-carried-requires t c =
    let lent = c.requires.0 in
    let reached = c.requires.1 in (
      omega arith,
      (
        lent,
        reached_next _ _ _ _ _ _ _ reached _ _ (c.loop-k.invariant.1 _) _ _ _ lent c.loop-k-test.true _
            c.put_after.ensures _ (omega (arith, reached.room, c.if-left-eq0.false)),
      ),
    )

pub loop-k-preserved : goal.loop-k-preserved
loop-k-preserved t c =
    let lent = c.requires.0 in
    let reached = c.requires.1 in
    let l = c.loop-k in
    let s = c.args in
    let first = place-fits _ _ (take s.depth s.plan.now) _ lent.reach_limits.0 lent.reach_limits.1 reached.rules
    c.first_place-first.ensures in
    elim c.if-goes_on.branch [
      | then-goes_on w ↦ (
        turn_taken _ _ _ _ _ _ _ _ _ first.0 reached.total lent.reach_limits.0 _ _ _ _ _ c.loop-k-test.true
            l.invariant.0 lent reached.state_end _ c.goes_on.ensures.goes w.if-goes_on.true _
            (plan_next _ _ _ _ _ _ _ reached _ _ (l.invariant.1 _)) _ w.put_after.ensures w.visit_from-carried.result _
            w.carried-is w.visit_from-carried.ensures,
        λ number. rw w.longer-is (set-set l.longer s.depth (l.k + 1) number ∙ l.invariant.1 number),
      )
      | else-goes_on w ↦ (
        rw w.carried-is (turn_left _ _ _ _ _ _ _ _ _ first.0 reached.total lent.reach_limits.0 _ _ _ _ _
            c.loop-k-test.true l.invariant.0 lent reached.state_end _ c.goes_on.ensures.goes w.if-goes_on.false),
        λ number. rw w.longer-is (l.invariant.1 number),
      )
    ]

pub returns : goal.returns
returns t c =
    let asked = c.requires in
    let noted = noted-plan _ _ _ _ _ _ _ _ asked.0.goal_limit (omega (arith, asked.1.room)) asked.1.rest
    c.noted-carried.ensures in
    sym (loop-end _ _ _ _ _ _ _ _ _ _ _ c.loop-k-test.false) ∙ c.loop-k.invariant.0
    ∙ whole _ _ _ _ _ _ _ _ _ _ _ _ c.if-left-eq0.false asked.1.total noted
