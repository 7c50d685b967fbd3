-- `sequences::sequence_at` meets its contract. The invariant: the sequence is that of `rest`, of at most `start` rules,
-- and then the rules of the array from `start` on.
use mathlib.Core.Path.{◌≡◌}
use mathlib.Core.List.{◌++◌}
use Prim.Native.Nat.{◌≤◌}
use lib.ListN.{length, drop}
use Rattle.theory_spec.specs.How.Indices.{sequence_of}
use Rattle.tables_laws.specs.How.ShortSequences.{short_sequence}
use Rattle.sequences.proofs.sequence_at.Given as goal

abbrev pub invariant-loop-start : goal.invariant-loop-start
invariant-loop-start l =
    (1 ≤ l.many)
    × (l.many ≤ 31)
    × (l.start ≤ 3)
    × (length l.rules ≡ 3)
    × (short_sequence l.count l.index ≡ sequence_of l.many l.start l.rest ++ drop l.start l.rules)

abbrev pub decreases-loop-start : goal.decreases-loop-start
decreases-loop-start l = l.start
