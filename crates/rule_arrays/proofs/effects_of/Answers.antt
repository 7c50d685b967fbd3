-- `rule_arrays::effects_of` meets its contract: each turn writes the effect of one rule more.
use mathlib.Core.Path.{refl}
use native.Mathlib.Omega.{arith}
use Rattle.search_laws.proofs.RowLaws.{row_more, row-whole}
use Rattle.rule_arrays.proofs.effects_of.Goals as goal

pub loop-j-init : goal.loop-j-init
loop-j-init c = refl

pub loop-j-preserved : goal.loop-j-preserved
loop-j-preserved c =
    row_more (λ rule. rule.effect) _ c.args.set.rules c.loop-j.j _ c.loop-j.invariant _ (omega arith) (omega arith)

pub returns : goal.returns
returns c =
    row-whole (λ rule. rule.effect) _ c.args.set.rules c.loop-j.j _ c.loop-j.invariant (omega arith) (omega arith)
