-- `rule_arrays::conditions_of` meets its contract: each turn writes the condition of one rule more.
use mathlib.Core.Path.{refl}
use native.Mathlib.Omega.{arith}
use Rattle.search_laws.proofs.RowLaws.{row_more, row-whole}
use Rattle.rule_arrays.proofs.conditions_of.Goals as goal

pub loop-i-init : goal.loop-i-init
loop-i-init c = refl

pub loop-i-preserved : goal.loop-i-preserved
loop-i-preserved c =
    row_more (λ rule. rule.condition) _ c.args.set.rules c.loop-i.i _ c.loop-i.invariant _ (omega arith) (omega arith)

pub returns : goal.returns
returns c =
    row-whole (λ rule. rule.condition) _ c.args.set.rules c.loop-i.i _ c.loop-i.invariant (omega arith) (omega arith)
