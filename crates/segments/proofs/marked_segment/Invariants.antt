-- `segments::marked_segment` meets its contract. The invariant: the ends from `end` on decide which is the first.
use mathlib.Core.Path.{◌≡◌}
use lib.ListN.{length}
use Rattle.explain_spec.specs.Segments.{soonest_end}
use Rattle.explain_spec.proofs.SegmentLaws.{ends_at}
use Rattle.explain_laws.specs.How.LookedUp.{looked_up}
use Rattle.explain_laws.proofs.ProposalLoopLaws.{first_from}
use Rattle.segments.proofs.marked_segment.Given as goal

abbrev pub invariant-loop-end : goal.invariant-loop-end
invariant-loop-end l =
    let marks = looked_up l.count l.reach l.table in
    first_from (ends_at marks l.moves) (length l.moves) l.end ≡ soonest_end marks l.moves
