-- `witness_rules::leads_to` meets its contract. The invariant: what is left of the effect and the target from place i
-- on decides the whole.
use mathlib.Core.Path.{◌≡◌}
use mathlib.Core.List.{map}
use lib.ListN.{drop}
use Rattle.theory_spec.specs.Lists.{same}
use Rattle.model_spec.specs.States.{value_of, successor}
use Rattle.witness_rules.proofs.leads_to.Given as goal

abbrev pub invariant-loop-i : goal.invariant-loop-i
invariant-loop-i l =
    same (map (λ e. value_of e l.entries) (drop l.i l.effect)) (drop l.i l.target)
    ≡ same (successor l.effect l.entries) l.target
