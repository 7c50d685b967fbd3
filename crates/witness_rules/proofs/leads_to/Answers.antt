-- `witness_rules::leads_to` meets its contract. The invariant: what is left of the effect and the target from place i
-- on decides the whole.
use mathlib.Core.Path.{refl, sym, ◌∙◌}
use native.Mathlib.Omega.{arith}
use Rattle.model_spec.specs.States.{value_of, values_of, successor}
use Rattle.model_spec.proofs.LoopLaws.{same_go, same_stop, same_end}
use Rattle.witness_rules.proofs.leads_to.Goals as goal

pub loop-i-init : goal.loop-i-init
unfolding successor values_of
loop-i-init c = refl

pub returns-then-value-target : goal.returns-then-value-target
returns-then-value-target c =
    let s = c.args in
    let is = c.value.ensures in
    same_stop (λ e. value_of e s.entries.now) s.effect.now s.target.now c.loop-i.i _ c.loop-i.invariant
    (omega arith) (omega arith) (λ e. c.if-value-target.true cc)

pub loop-i-preserved : goal.loop-i-preserved
loop-i-preserved c =
    let s = c.args in
    same_go (λ e. value_of e s.entries.now) s.effect.now s.target.now c.loop-i.i _ c.loop-i.invariant
    (omega arith) (omega arith) (sym c.value.ensures ∙ c.if-value-target.false)

pub returns : goal.returns
returns c =
    let s = c.args in
    same_end (λ e. value_of e s.entries.now) s.effect.now s.target.now c.loop-i.i _ c.loop-i.invariant
    (omega arith) (omega arith)
