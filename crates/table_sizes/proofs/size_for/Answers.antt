-- `table_sizes::size_for` meets its contract: a reach of 1 to 3 is counted as it is.
use mathlib.Core.Path.{◌≡◌, ap, ◌∙◌}
use Prim.Native.Nat.{min, ◌*◌}
use native.Mathlib.Omega.{arith}
use Rattle.tables_spec.specs.Table.{sequence_count, table_entries}
use Rattle.tables_spec.proofs.CountLaws.{count_byte}
use Rattle.table_sizes.proofs.size_for.Goals as goal

pub overflow_mul-result : goal.overflow_mul-result
overflow_mul-result c =
    let s = c.args in
    omega (arith, c.sequence_count.ensures, count_byte s.set.count (min s.reach 3) (omega arith) (omega arith))

pub returns-clause-length : goal.returns-clause-length
unfolding table_entries
returns-clause-length c =
    let s = c.args in
    let e : min s.reach 3 ≡ s.reach = grind (arith, c.contains.ensures.value, c.if-not-contains.false) in
    ap (λ n. 2 * n) (c.sequence_count.ensures ∙ ap (sequence_count s.set.count) e)
