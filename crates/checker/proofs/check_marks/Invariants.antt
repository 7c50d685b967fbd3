-- `checker::check_marks` meets its contract. The invariant: whether the entries left are justified decides the whole,
-- and the sets are what the marks so far touch.
use mathlib.Core.Path.{◌≡◌}
use mathlib.Core.Bool.{Bool, not}
use mathlib.Core.List.{List}
use Prim.Native.Nat.{ℕ, ◌-◌}
use lib.Dec.{eqb}
use Rattle.theory_spec.specs.Lists.{every, numbers_from}
use Rattle.tables_spec.specs.Table.{table_entries, kept, entry_at, entry_justified, accepted}
use Rattle.unions_spec.specs.How.United.{united_to}
use Rattle.checker.proofs.check_marks.Given as goal

-- an entry marks its sequence
abbrev pub marks : List ℕ → ℕ → Bool
marks table k = not (eqb (entry_at table k) kept)

abbrev pub invariant-loop-i : goal.invariant-loop-i
invariant-loop-i l =
    (every (entry_justified l.set l.reach l.table) (numbers_from l.i (table_entries l.set l.reach - l.i))
    ≡ accepted l.set l.reach l.table)
    × (l.touched ≡ united_to l.set l.reach (marks l.table) l.i)
