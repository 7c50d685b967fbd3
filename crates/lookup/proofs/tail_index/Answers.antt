-- `lookup::tail_index` meets its contract: the quotient tells how many rules the sequence has.
use Prim.Native.Nat.{◌-◌, ◌/◌}
use native.Mathlib.Nat.{mod-lt, mul-le-mul}
use native.Mathlib.Omega.{arith}
use Rattle.search_laws.proofs.LookupLaws.{tail_none, tail_one, tail_two}
use Rattle.lookup.proofs.tail_index.Goals as goal

pub returns-then-before-eq0 : goal.returns-then-before-eq0
returns-then-before-eq0 c = tail_none c.args.count c.args.index c.requires.2 c.if-before-eq0.true

pub overflow_add-newest : goal.overflow_add-newest
overflow_add-newest c = omega (arith, mod-lt (c.args.index - 1) {m = c.args.count} c.requires.0)

pub returns-then-before-count : goal.returns-then-before-count
returns-then-before-count c =
    tail_one c.args.count c.args.index c.requires.2 c.if-before-eq0.false
    c.if-before-count.true

pub overflow_add-result : goal.overflow_add-result
overflow_add-result c = omega (arith, mod-lt ((c.args.index - 1) / c.args.count - 1) {m = c.args.count} c.requires.0)

pub overflow_mul-result : goal.overflow_mul-result
overflow_mul-result c =
    omega (
      arith,
      mul-le-mul (mod-lt ((c.args.index - 1) / c.args.count - 1) {m = c.args.count} c.requires.0)
          c.requires.1,
    )

pub overflow_add-result-2 : goal.overflow_add-result-2
overflow_add-result-2 c =
    omega (
      arith,
      mod-lt (c.args.index - 1) {m = c.args.count} c.requires.0,
      mul-le-mul (mod-lt ((c.args.index - 1) / c.args.count - 1) {m = c.args.count} c.requires.0) c.requires.1,
    )

pub returns : goal.returns
returns c = tail_two c.args.count c.args.index c.requires.0 c.requires.2 (omega arith)
