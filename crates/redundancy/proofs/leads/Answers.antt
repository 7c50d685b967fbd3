-- `redundancy::leads` meets its contract. The invariant: whether the moves left lead from the entries to the effect
-- decides the whole.
use mathlib.Core.Path.{refl, sym, ◌∙◌}
use native.Mathlib.Omega.{arith}
use Rattle.model_spec.specs.Rules.{rule_at}
use Rattle.model_spec.proofs.ChainLaws.{same_is}
use Rattle.model_spec.proofs.MoveLaws.{numbered_at}
use Rattle.macros_spec.proofs.MoveLoopLaws.{leads_go, leads_stop, leads-end}
use Rattle.redundancy.proofs.leads.Goals as goal

pub overflow_sub-rule : goal.overflow_sub-rule
overflow_sub-rule c = omega (arith, numbered_at 31 c.args.moves.now c.loop-number.number-index c.requires (omega arith))

pub bounds-set-number : goal.bounds-set-number
bounds-set-number c = omega (arith, numbered_at 31 c.args.moves.now c.loop-number.number-index c.requires (omega arith))

pub returns-then-not-runs : goal.returns-then-not-runs
unfolding rule_at
returns-then-not-runs c =
    let s = c.args in
    let l = c.loop-number in
    leads_stop s.set s.moves.now l.number-index l.entries s.effect _ l.invariant _ refl
    (omega arith) (sym c.runs.ensures ∙ c.if-not-runs.true)

pub loop-number-preserved : goal.loop-number-preserved
unfolding rule_at
loop-number-preserved c =
    let s = c.args in
    let l = c.loop-number in
    leads_go s.set s.moves.now l.number-index l.entries s.effect _ l.invariant _ refl
    (omega arith) (sym c.runs.ensures ∙ c.if-not-runs.false) _ c.after-entries.ensures

pub returns : goal.returns
returns c =
    let s = c.args in
    let l = c.loop-number in
    c.eq.ensures
    ∙ same_is l.entries s.effect
    ∙ leads-end s.set s.moves.now l.number-index l.entries s.effect _ l.invariant (omega arith)
