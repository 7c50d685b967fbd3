-- `rule_arrays::costs_of` meets its contract: each turn writes the cost of one rule more.
use mathlib.Core.Path.{refl}
use native.Mathlib.Omega.{arith}
use Rattle.search_laws.proofs.RowLaws.{row_more, row-whole}
use Rattle.rule_arrays.proofs.costs_of.Goals as goal

pub loop-k-init : goal.loop-k-init
loop-k-init c = refl

pub loop-k-preserved : goal.loop-k-preserved
loop-k-preserved c =
    row_more (λ rule. rule.cost) _ c.args.set.rules c.loop-k.k _ c.loop-k.invariant _ (omega arith) (omega arith)

pub returns : goal.returns
returns c =
    row-whole (λ rule. rule.cost) _ c.args.set.rules c.loop-k.k _ c.loop-k.invariant (omega arith) (omega arith)
