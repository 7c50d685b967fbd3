-- `proposals::costly_move` meets its contract. The invariant: the total is the cost of the moves before i, within the
-- bound, and the moves from i on decide which one passes it first.
use mathlib.Core.Path.{refl}
use Prim.Native.Nat.{◌+◌}
use native.Mathlib.Omega.{arith}
use lib.ListN.{length}
use borrow.Author.Tests.{lt-ltb, le-ltb}
use Rattle.model_spec.specs.Rules.{sequence_cost}
use Rattle.explain_spec.specs.Reasons.{costly_move}
use Rattle.explain_laws.proofs.PlaceLaws.{place_found, none_found}
use Rattle.explain_laws.proofs.ProposalLoopLaws.{from-start, from_go, from_stop, from-end}
use Rattle.explain_laws.proofs.ProposalLoopLaws.{cost_more}
use Rattle.proposals.proofs.costly_move.Goals as goal

pub loop-i-init : goal.loop-i-init
unfolding sequence_cost costly_move
loop-i-init c = (refl, omega arith, from-start _ _)

pub returns-then-from-total : goal.returns-then-from-total
returns-then-from-total c =
    let s = c.args in
    let paid = cost_more s.set s.moves.now c.loop-i.i (omega arith) in
    place_found (c.loop-i.i + 1) _ (omega arith)
    (from_stop _ (length s.moves.now) (c.loop-i.i + 1) _ c.loop-i.invariant.2 (omega arith)
    (lt-ltb s.max_cost _ (omega (arith, paid, c.cost_at.ensures))))

pub loop-i-preserved : goal.loop-i-preserved
loop-i-preserved c =
    let s = c.args in
    let paid = cost_more s.set s.moves.now c.loop-i.i (omega arith) in
    let told = c.cost_at.ensures in (
      omega arith,
      omega arith,
      from_go _ (length s.moves.now) (c.loop-i.i + 1) _ c.loop-i.invariant.2 (omega arith)
          (le-ltb s.max_cost _ (omega arith)),
    )

pub returns : goal.returns
returns c =
    none_found _ (from-end _ (length c.args.moves.now) (c.loop-i.i + 1) _ c.loop-i.invariant.2 (omega arith))
