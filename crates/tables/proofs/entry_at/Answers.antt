-- `tables::entry_at` meets its contract: beyond the end of a table both bytes are 0.
use Prim.Native.Nat.{◌+◌, ◌*◌}
use native.Mathlib.Omega.{arith}
use lib.ListN.{get_or-eq_default}
use borrow.Author.Rules.{rules}
use Rattle.tables_spec.specs.Table.{entry_at}
use Rattle.tables.proofs.entry_at.Goals as goal

pub returns-then-table-i : goal.returns-then-table-i
unfolding entry_at
returns-then-table-i c =
    let a = c.args in
    let low = get_or-eq_default a.table.now 0 {n = 2 * a.i} (omega arith) in
    let high = get_or-eq_default a.table.now 0 {n = 2 * a.i + 1} (omega arith) in
    (omega (arith, low, high), omega arith)

pub returns : goal.returns
unfolding entry_at
returns c = search rules
