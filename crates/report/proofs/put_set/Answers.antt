-- `report::put_set` meets its contract: the part of the array that is lent has room for the table, and the array
-- for that part.
use mathlib.Core.Path.{◌≡◌, sym, ap, ◌∙◌}
use Prim.Native.Nat.{ℕ, ◌*◌, ◌≤◌}
use native.Mathlib.Omega.{arith}
use lib.ListN.{length, take, replicate, length-replicate}
use lib.Seq.{length-take-le}
use Rattle.model_spec.specs.Validity.{Valid}
use Rattle.model_spec.specs.declared.RuleSet.{RuleSet}
use Rattle.tables_spec.specs.Table.{sequence_count, table_entries}
use Rattle.tables_spec.proofs.CountLaws.{count_prefix}
use Rattle.report.proofs.put_set.Goals as goal

module _ (set : RuleSet) (valid : Valid set) (entries : ℕ) (e : entries ≡ sequence_count set.count 2) where
  -- the part that is lent fits the array
  part_limit : 2 * entries ≤ 1986
  part_limit = omega (arith, count_prefix set.count 2 valid.formed.count_limits.1 (omega arith))

  part_length : length (take (2 * entries) (replicate {A = ℕ} 1986 0)) ≡ 2 * entries
  part_length =
      length-take-le (2 * entries) (replicate 1986 0) (omega (arith, part_limit, length-replicate {A = ℕ} 1986 0))

  -- it has room for the table
  part-fits : length (take (2 * entries) (replicate {A = ℕ} 1986 0)) ≡ 2 * table_entries set 2
  unfolding table_entries
  part-fits = part_length ∙ ap (λ n. 2 * n) e

pub overflow_mul-size : goal.overflow_mul-size
overflow_mul-size c =
    let size = c.sequence_count-size in
    omega (arith, part_limit c.args.set c.requires size.result size.ensures)

pub slice_bounds-table-end : goal.slice_bounds-table-end
slice_bounds-table-end c = let size = c.sequence_count-size in part_limit c.args.set c.requires size.result size.ensures

pub slice_bounds-put_built-end : goal.slice_bounds-put_built-end
slice_bounds-put_built-end c =
    let size = c.sequence_count-size in
    sym (part_length c.args.set c.requires size.result size.ensures)

pub put_built-requires : goal.put_built-requires
put_built-requires c =
    let size = c.sequence_count-size in
    (c.requires, part-fits c.args.set c.requires size.result size.ensures)
