-- `states::after` meets its contract. The invariant: the first places hold the values of their entries, the others still
-- the entries.
use Rattle.std.proofs.Common.{arith, sym, ◌∙◌}
use Rattle.model_spec.specs.States.{values_of, successor}
use Rattle.model_spec.proofs.LoopLaws.{front_none, front_next, front_all}
use Rattle.states.proofs.after.Goals as goal

pub loop-entry-init : goal.loop-entry-init
loop-entry-init c = sym (front_none _ _)

pub loop-entry-preserved : goal.loop-entry-preserved
loop-entry-preserved c = front_next _ _ _ _ _ c.loop-entry.invariant c.value.ensures

pub returns : goal.returns
unfolding successor values_of
returns c = c.loop-entry.invariant ∙ front_all _ _ _ (omega arith)
