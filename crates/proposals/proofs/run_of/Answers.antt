-- `proposals::run_of` meets its contract. The invariant: the moves before i lead to the state, and those from i on
-- decide which one fails first.
use mathlib.Core.Path.{refl, sym, ap, ◌∙◌}
use mathlib.Core.Bool.{not}
use mathlib.Core.Option.{some}
use Prim.Native.Nat.{◌+◌, ◌≤◌, ◌<◌}
use native.Mathlib.Omega.{arith}
use lib.ListN.{length}
use Rattle.theory_spec.specs.Lists.{is_some}
use Rattle.model_spec.specs.Rules.{rule_at, run_in}
use Rattle.explain_spec.specs.Reasons.{failing_move}
use Rattle.explain_laws.specs.How.Proposals.{held_moves}
use Rattle.explain_laws.proofs.ProposalLoopLaws.{from-start, from_go, from_stop, from-end}
use Rattle.explain_laws.proofs.ProposalLoopLaws.{run_goes, run_stops, whole_run, held-length, held_at}
use Rattle.proposals.proofs.run_of.Goals as goal

pub loop-i-init : goal.loop-i-init
unfolding run_in failing_move
loop-i-init c = (refl, from-start _ _)

pub returns-then-not-runs : goal.returns-then-not-runs
returns-then-not-runs c =
    let s = c.args in
    let q = held_moves s.moves.now in
    let inside : c.loop-i.i < length q = omega (arith, held-length s.moves.now) in
    let read = c.rule_at-rule.ensures ∙ ap (rule_at s.set) (sym (held_at s.moves.now c.loop-i.i)) in
    let stops = run_stops s.set q c.loop-i.i inside _ read s.start.now c.loop-i.state
    c.loop-i.invariant.0 (sym c.runs.ensures ∙ c.if-not-runs.true) in
    (from_stop _ (length q) (c.loop-i.i + 1) _ c.loop-i.invariant.1 (omega (arith, inside)) stops, λ z. omega (arith, z))

pub loop-i-preserved : goal.loop-i-preserved
loop-i-preserved c =
    let s = c.args in
    let q = held_moves s.moves.now in
    let inside : c.loop-i.i < length q = omega (arith, held-length s.moves.now) in
    let read = c.rule_at-rule.ensures ∙ ap (rule_at s.set) (sym (held_at s.moves.now c.loop-i.i)) in
    let goes = run_goes s.set q c.loop-i.i inside _ read s.start.now c.loop-i.state
    c.loop-i.invariant.0 (sym c.runs.ensures ∙ c.if-not-runs.false) in (
      goes ∙ ap some (sym c.after-state.ensures),
      from_go _ (length q) (c.loop-i.i + 1) _ c.loop-i.invariant.1 (omega (arith, inside)) (ap (λ o. not (is_some o)) goes),
    )

pub returns : goal.returns
returns c =
    let s = c.args in
    let q = held_moves s.moves.now in
    let all : length q ≤ c.loop-i.i = omega (arith, held-length s.moves.now) in (
      sym (from-end _ (length q) (c.loop-i.i + 1) _ c.loop-i.invariant.1 (omega (arith, all))),
      whole_run _ q _ _ _ all c.loop-i.invariant.0,
    )
