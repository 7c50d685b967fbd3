-- `rule_arrays::conditions_of` meets its contract. The invariant: the first i places hold the conditions of their rules,
-- the others still zeros.
use mathlib.Core.Path.{◌≡◌}
use mathlib.Core.List.{map}
use Rattle.model_spec.proofs.CopyLaws.{copied}
use Rattle.rule_arrays.proofs.conditions_of.Given as goal

abbrev pub invariant-loop-i : goal.invariant-loop-i
invariant-loop-i l = l.conditions ≡ copied l.initial.conditions (map (λ rule. rule.condition) l.set.rules) l.i
