-- `rule_arrays::effects_of` meets its contract. The invariant: the first j places hold the effects of their rules,
-- the others still zeros.
use mathlib.Core.Path.{◌≡◌}
use mathlib.Core.List.{map}
use Rattle.model_spec.proofs.CopyLaws.{copied}
use Rattle.rule_arrays.proofs.effects_of.Given as goal

abbrev pub invariant-loop-j : goal.invariant-loop-j
invariant-loop-j l = l.effects ≡ copied l.initial.effects (map (λ rule. rule.effect) l.set.rules) l.j
