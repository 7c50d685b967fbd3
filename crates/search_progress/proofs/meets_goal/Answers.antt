-- `search_progress::meets_goal` meets its contract. The invariant: the bytes from place i on, of the goal's first
-- sixteen, decide the whole.
use mathlib.Core.Path.{◌≡◌, ap, ◌∙◌}
use mathlib.Core.Bool.{true, ◌||◌}
use Prim.Native.Nat.{◌≤◌, ◌<◌, ◌-◌}
use native.Mathlib.Omega.{arith}
use lib.Dec.{eqb}
use lib.ListN.{length, get_or, take, length-take}
use lib.Seq.{get_or-take}
use borrow.Author.Tests.{eq-eqb, ne_eqb}
use Rattle.theory_spec.proofs.ListLaws.{or_left, or_right}
use Rattle.model_spec.proofs.LoopLaws.{every_go, every_stop, every-end}
use Rattle.search_spec.specs.Query.{meets_goal}
use Rattle.search_progress.proofs.meets_goal.Goals as goal
use Rattle.search_progress.proofs.meets_goal.Goals.{then-goal-i+else-state-i, else-goal-i}

pub loop-i-init : goal.loop-i-init
unfolding meets_goal
loop-i-init c =
    let goal = c.args.goal.now in
    let e : length (take 16 goal) - 0 ≡ length (take 16 goal) = omega arith in
    rw e

pub returns-then-state-i : goal.returns-then-state-i
returns-then-state-i c =
    let goal = c.args.goal.now in
    let i = c.loop-i.i in
    let here : i < length (take 16 goal) = omega (arith, c.loop-i-test.true, c.min-i-end.ensures, length-take 16 goal) in
    let same = get_or-take 16 goal i 0 (omega (arith, here, length-take 16 goal)) in
    every_stop _ _ _ _ c.loop-i.invariant here
    (rw (same, ne_eqb (get_or goal i 0) 255 c.if-goal-i.true, ne_eqb _ _ c.if-state-i.true))

pub loop-i-preserved : goal.loop-i-preserved
loop-i-preserved c =
    let l = c.loop-i in
    let goal = get_or c.args.goal.now l.i 0 in
    let held = get_or c.args.state.now l.i 0 in
    let here : l.i < length (take 16 c.args.goal.now) =
    omega (arith, c.loop-i-test.true, c.min-i-end.ensures, length-take 16 c.args.goal.now) in
    let same = get_or-take 16 c.args.goal.now l.i 0 (omega (arith, here, length-take 16 c.args.goal.now)) in
    let passes : (eqb goal 255 || eqb held goal) ≡ true = elim c.if-goal-i.branch [
      | then-goal-i+else-state-i w ↦ or_right (eqb goal 255) (eq-eqb held goal w.if-state-i.false)
      | else-goal-i w ↦ or_left (eqb held goal) (eq-eqb goal 255 w.if-goal-i.false)
    ] in
    every_go _ _ _ _ l.invariant here (ap (λ n. eqb n 255 || eqb held n) same ∙ passes)

pub returns : goal.returns
returns c =
    let l = c.loop-i in
    let goal = c.args.goal.now in
    let all : length (take 16 goal) ≤ l.i =
    omega (arith, c.loop-i-test.false, c.min-i-end.ensures, length-take 16 goal) in
    every-end _ _ _ _ l.invariant all
