-- `segments::index_of` meets its contract. The invariant: the index is that of the rules so far.
use mathlib.Core.Path.{sym, ap}
use Prim.Native.Nat.{◌<◌}
use native.Mathlib.Omega.{arith}
use lib.ListN.{length, length-take}
use Rattle.explain_laws.proofs.SegmentLoopLaws.{index_more, limit_more, limit_small}
use Rattle.segments.proofs.index_of.Goals as goal

pub overflow_mul-index : goal.overflow_mul-index
overflow_mul-index c =
    let three = c.first_three-number-items.ensures in
    let near : c.loop-number.number-index < 3 = omega (arith, ap length three, length-take 3 c.args.sequence.now) in
    omega (
      arith,
      limit_small c.from.result c.loop-number.index c.loop-number.number-index (omega arith) near
          c.loop-number.invariant.1,
    )

pub overflow_add-index : goal.overflow_add-index
overflow_add-index c =
    let three = c.first_three-number-items.ensures in
    let near : c.loop-number.number-index < 3 = omega (arith, ap length three, length-take 3 c.args.sequence.now) in
    let small = limit_small c.from.result c.loop-number.index c.loop-number.number-index (omega arith) near
    c.loop-number.invariant.1 in
    omega (arith, small, c.type_inv.number-items c.loop-number.number-index)

pub loop-number-preserved : goal.loop-number-preserved
loop-number-preserved c =
    let l = c.loop-number in
    let items = c.first_three-number-items.result.now in
    let next = index_more c.args.count items l.number-index (omega arith) in
    let number = c.from-in-loop-number.ensures in
    let byte = c.type_inv.number-items l.number-index in (
      rw (c.from.ensures, number, l.invariant.0) (sym next),
      limit_more c.from.result _ l.index l.number-index (omega arith) (omega arith) l.invariant.1,
    )
