-- `segments::shortest_at` meets its contract. The invariant: the lengths from `many` on decide which is the shortest.
use mathlib.Core.Path.{◌≡◌}
use Rattle.explain_spec.specs.Segments.{segment_of, shortest_at}
use Rattle.explain_laws.specs.How.LookedUp.{looked_up}
use Rattle.explain_laws.proofs.ProposalLoopLaws.{first_from}
use Rattle.segments.proofs.shortest_at.Given as goal

abbrev pub invariant-loop-many : goal.invariant-loop-many
invariant-loop-many l =
    first_from (λ n. looked_up l.count l.reach l.table (segment_of l.moves l.end n)) l.end l.many
    ≡ shortest_at (looked_up l.count l.reach l.table) l.moves l.end
