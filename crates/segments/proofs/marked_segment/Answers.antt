-- `segments::marked_segment` meets its contract. The invariant: the ends from `end` on decide which is the first.
use mathlib.Core.Path.{sym, ◌∙◌}
use native.Mathlib.Omega.{arith}
use Rattle.explain_laws.proofs.SegmentLoopLaws.{ends-start, ends_go, ends_stop, ends-end}
use Rattle.segments.proofs.marked_segment.Goals as goal

pub loop-end-init : goal.loop-end-init
loop-end-init c = ends-start _ _ _ _

pub returns-in-Some : goal.returns-in-Some
returns-in-Some c =
    ends_stop _ _ _ _ c.loop-end.end c.loop-end.invariant (omega arith) (omega arith) c.in-Some.length
    (sym c.in-Some.is ∙ c.shortest_at.ensures)

pub loop-end-preserved : goal.loop-end-preserved
loop-end-preserved c =
    ends_go _ _ _ _ c.loop-end.end c.loop-end.invariant (omega arith) (sym c.in_default.is ∙ c.shortest_at.ensures)

pub returns : goal.returns
returns c = ends-end _ _ _ _ c.loop-end.end c.loop-end.invariant (omega arith)
