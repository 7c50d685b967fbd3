-- `composition::followed` meets its contract. The invariant: the first i places of the effect, and what the rule's
-- other entries stand for, are the whole.
use mathlib.Core.Path.{refl}
use native.Mathlib.Omega.{arith}
use borrow.Author.Rules.{rules}
use Rattle.model_spec.specs.States.{value_of}
use Rattle.macros_spec.proofs.CompositionLoopLaws.{follow_go, follow-end}
use Rattle.composition.proofs.followed.Goals as goal

pub loop-i-init : goal.loop-i-init
loop-i-init c = (search rules, refl, refl, search rules, refl)

pub loop-i-preserved : goal.loop-i-preserved
unfolding value_of
loop-i-preserved c =
    let a = c.args in
    let l = c.loop-i in (
      search rules,
      l.invariant.1,
      l.invariant.2,
      search rules,
      follow_go a.last a.sequence.effect l.i l.sequence.effect _ l.invariant.4 _ c.stands_for.ensures
          (search rules) (omega (arith, l.invariant.3)),
    )

pub returns : goal.returns
returns c =
    let l = c.loop-i in
    let a = c.args in (
      l.invariant.1,
      l.invariant.2,
      follow-end a.last a.sequence.effect l.i l.sequence.effect _ l.invariant.4 (search rules)
          (omega (arith, l.invariant.3)),
    )
