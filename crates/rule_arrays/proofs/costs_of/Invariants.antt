-- `rule_arrays::costs_of` meets its contract. The invariant: the first k places hold the costs of their rules,
-- the others still zeros.
use mathlib.Core.Path.{◌≡◌}
use mathlib.Core.List.{map}
use Rattle.model_spec.proofs.CopyLaws.{copied}
use Rattle.rule_arrays.proofs.costs_of.Given as goal

abbrev pub invariant-loop-k : goal.invariant-loop-k
invariant-loop-k l = l.costs ≡ copied l.initial.costs (map (λ rule. rule.cost) l.set.rules) l.k
