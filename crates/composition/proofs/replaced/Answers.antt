-- `composition::replaced` meets its contract. The invariant: in the first i places of both vectors each `from` is
-- replaced, the others are as they were.
use mathlib.Core.Path.{refl, sym, ◌∙◌}
use native.Mathlib.Omega.{arith}
use borrow.Author.Rules.{rules}
use Rattle.model_spec.proofs.LoopLaws.{front_none, front_next, front_all}
use Rattle.macros_spec.specs.Composition.{replaced}
use Rattle.composition.proofs.replaced.Goals as goal

pub loop-i-init : goal.loop-i-init
loop-i-init c = (search rules, refl, sym (front_none _ _), sym (front_none _ _))

pub loop-i-preserved : goal.loop-i-preserved
loop-i-preserved c =
    let l = c.loop-i in (
      search rules,
      l.invariant.1,
      front_next _ _ _ _ _ l.invariant.2 c.exchanged.ensures,
      front_next _ _ _ _ _ l.invariant.3 c.exchanged-in-loop-i.ensures,
    )

pub returns : goal.returns
unfolding replaced
returns c =
    let inv = c.loop-i.invariant in (
      inv.1,
      inv.2 ∙ front_all _ _ _ (omega arith),
      inv.3 ∙ front_all _ _ _ (omega arith),
    )
