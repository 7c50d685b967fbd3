-- `proposals::run_of` meets its contract. The invariant: the moves before i lead to the state, and those from i on
-- decide which one fails first.
use mathlib.Core.Path.{◌≡◌}
use mathlib.Core.Bool.{not}
use mathlib.Core.Option.{some}
use Prim.Native.Nat.{◌+◌}
use lib.ListN.{length, take}
use Rattle.theory_spec.specs.Lists.{is_some}
use Rattle.model_spec.specs.Rules.{run_in}
use Rattle.explain_spec.specs.Reasons.{failing_move}
use Rattle.explain_laws.specs.How.Proposals.{held_moves}
use Rattle.explain_laws.proofs.ProposalLoopLaws.{first_from}
use Rattle.proposals.proofs.run_of.Given as goal

abbrev pub invariant-loop-i : goal.invariant-loop-i
invariant-loop-i l =
    let q = held_moves l.moves in
    (run_in l.set (take l.i q) l.start ≡ some l.state)
    × (first_from (λ k. not (is_some (run_in l.set (take k q) l.start))) (length q) (l.i + 1)
    ≡ failing_move l.set l.start q)
