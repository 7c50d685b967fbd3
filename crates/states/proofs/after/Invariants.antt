-- `states::after` meets its contract. The invariant: the first places hold the values of their entries, the others still
-- the entries.
use Rattle.std.proofs.Common.{◌≡◌}
use Rattle.model_spec.specs.States.{value_of}
use Rattle.model_spec.proofs.LoopLaws.{front}
use Rattle.states.proofs.after.Given as goal

abbrev pub invariant-loop-entry : goal.invariant-loop-entry
invariant-loop-entry l = l.entry-items ≡ front (λ e. value_of e l.state) l.entry-index l.effect
