-- `acceptance::check_marks` meets its contract. The invariant: whether the entries left are justified decides it all.
use mathlib.Core.Path.{◌≡◌}
use Prim.Native.Nat.{◌-◌}
use Rattle.theory_spec.specs.Lists.{every, numbers_from}
use Rattle.tables_spec.specs.Table.{table_entries, entry_justified, accepted}
use Rattle.acceptance.proofs.check_marks.Given as goal

abbrev pub invariant-loop-i : goal.invariant-loop-i
invariant-loop-i l =
    every (entry_justified l.set l.reach l.table) (numbers_from l.i (table_entries l.set l.reach - l.i))
    ≡ accepted l.set l.reach l.table
