-- `redundancy::leads` meets its contract. The invariant: whether the moves left lead from the entries to the effect
-- decides the whole.
use mathlib.Core.Path.{◌≡◌}
use lib.ListN.{drop}
use Rattle.model_spec.specs.Rules.{run_in}
use Rattle.macros_spec.specs.Redundancy.{ends_in}
use Rattle.redundancy.proofs.leads.Given as goal

abbrev pub invariant-loop-number : goal.invariant-loop-number
invariant-loop-number l =
    ends_in (run_in l.set (drop l.number-index l.moves) l.entries) l.effect
    ≡ ends_in (run_in l.set l.moves l.initial.entries) l.effect
