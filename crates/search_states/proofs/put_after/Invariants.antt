-- `search_states::put_after` meets its contract. The invariant: the first i places hold the values of the effect's
-- entries, the others what they held.
use mathlib.Core.Path.{◌≡◌}
use Rattle.model_spec.specs.States.{successor}
use Rattle.search_laws.specs.How.Visits.{laid_over}
use Rattle.search_states.proofs.put_after.Given as goal

abbrev pub invariant-loop-i : goal.invariant-loop-i
invariant-loop-i l = l.next ≡ laid_over l.i (successor l.effect l.state) l.initial.next
