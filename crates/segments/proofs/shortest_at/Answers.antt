-- `segments::shortest_at` meets its contract. The invariant: the lengths from `many` on decide which is the shortest.
use mathlib.Core.Path.{◌≡◌, sym, ap, ◌∙◌}
use Prim.Native.Nat.{◌+◌, ◌-◌, ◌≤◌}
use native.Mathlib.Omega.{arith}
use lib.ListN.{take, drop}
use Rattle.explain_spec.specs.Segments.{segment_of}
use Rattle.explain_laws.specs.How.LookedUp.{looked_up}
use Rattle.explain_laws.proofs.PlaceLaws.{place_found, none_found}
use Rattle.explain_laws.proofs.ProposalLoopLaws.{from_go, from_stop}
use Rattle.explain_laws.proofs.SegmentLoopLaws.{shortest-start, shortest-end}
use Rattle.segments.proofs.shortest_at.Goals as goal

-- the part that is lent is the segment
lent : (q : _) (e n : _) → n ≤ e → take (e - (e - n)) (drop (e - n) q) ≡ segment_of q e n
lent q e n h = let z : e - (e - n) ≡ n = omega arith in ap (λ k. take k (drop (e - n) q)) z

pub loop-many-init : goal.loop-many-init
loop-many-init c =
    let a = c.args in shortest-start a.count a.reach a.table.now a.moves.now a.end c.requires

pub returns-then-is_marked : goal.returns-then-is_marked
returns-then-is_marked c =
    let s = c.args in
    let bound = c.min-many-end.ensures in
    let part = lent s.moves.now s.end c.loop-many.many (omega arith) in
    let told = ap (looked_up s.count s.reach s.table.now) (sym part) ∙ sym c.is_marked.ensures in
    place_found c.loop-many.many _ (omega arith)
    (from_stop _ s.end c.loop-many.many _ c.loop-many.invariant (omega arith) (told ∙ c.if-is_marked.true))

pub loop-many-preserved : goal.loop-many-preserved
loop-many-preserved c =
    let s = c.args in
    let bound = c.min-many-end.ensures in
    let part = lent s.moves.now s.end c.loop-many.many (omega arith) in
    let told = ap (looked_up s.count s.reach s.table.now) (sym part) ∙ sym c.is_marked.ensures in
    from_go _ s.end c.loop-many.many _ c.loop-many.invariant (omega arith) (told ∙ c.if-is_marked.false)

pub returns : goal.returns
returns c =
    let s = c.args in
    let most = c.min-many-end.ensures in
    none_found _ (shortest-end s.count s.reach s.table.now s.moves.now s.end c.requires c.loop-many.many (omega arith)
    (omega (arith, c.min.ensures)) c.loop-many.invariant)
