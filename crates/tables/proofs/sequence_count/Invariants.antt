-- `tables::sequence_count` meets its contract. The invariant: `first` is the number of sequences of as many rules as
-- there were turns.
use mathlib.Core.Path.{◌≡◌}
use Rattle.tables_spec.specs.Table.{sequence_count}
use Rattle.tables.proofs.sequence_count.Given as goal

abbrev pub invariant-loop : goal.invariant-loop
invariant-loop l = l.first ≡ sequence_count l.count l.counter
