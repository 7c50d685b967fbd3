-- `builder::write_entries` meets its contract. The invariant: the entries so far, with those still to come, are the
-- built table, and the sets are what the marks so far touch.
use mathlib.Core.Path.{◌≡◌}
use mathlib.Core.Bool.{Bool, not}
use Prim.Native.Nat.{ℕ}
use lib.Dec.{eqb}
use Rattle.model_spec.specs.declared.RuleSet.{RuleSet}
use Rattle.tables_spec.specs.Table.{table_entries, kept, built_entry, built_table}
use Rattle.tables_laws.proofs.TableLoopLaws.{entered}
use Rattle.unions_spec.specs.How.United.{united_to}
use Rattle.builder.proofs.write_entries.Given as goal

-- the builder marks the sequence of an index
abbrev pub marks : RuleSet → ℕ → ℕ → Bool
marks set reach k = not (eqb (built_entry set reach k) kept)

abbrev pub invariant-loop-i : goal.invariant-loop-i
invariant-loop-i l =
    (entered (built_entry l.set l.reach) (table_entries l.set l.reach) l.i l.table ≡ built_table l.set l.reach)
    × (l.touched ≡ united_to l.set l.reach (marks l.set l.reach) l.i)
