-- Marks looked up by a sequence's index, for every number of rules, reach, table and sequence. No promise of a call
-- needs this file: the laws `looked_up_lem` and `witness-named_by` say that of a set's sequences just the marked ones
-- pass, and that the witness is the table's.
use Rattle.std.specs.Prelude.{Bool, not, cond, ◌&&◌, List, [], ℕ, zero, suc, min, leb, eqb, length, take}
use Rattle.std.specs.Prelude.{Option, Some, None}
use Rattle.theory_spec.specs.Sequences.{Sequence}
use Rattle.theory_spec.specs.How.Indices.{index_of}
use Rattle.tables_spec.specs.Table.{kept, entry_at}
use Rattle.tables_laws.specs.How.ShortSequences.{short_sequence}
use Rattle.explain_spec.specs.Segments.{segment_of}
use Rattle.explain_laws.specs.declared.Segment.{Segment}

-- a sequence is no longer than the reach, where one above 3 counts as 3, and the entry at its index is not 65535
unfoldable pub looked_up : ℕ → ℕ → List ℕ → Sequence → Bool
looked_up m reach table b = leb (length b) (min reach 3) && not (eqb (entry_at table (index_of m b)) kept)

-- the sequence that the entry of a segment names: that of the n moves that end with move e; empty if e is 0
unfoldable pub named_witness : ℕ → List ℕ → Sequence → ℕ → ℕ → Sequence
named_witness m table q e n =
    cond (eqb e 0) [] (short_sequence m (entry_at table (index_of m (take 3 (segment_of q e n)))))

-- a segment by its last move, from 1, and its length, where a last move 0 stands for none
abbrev pub segment_if : ℕ → ℕ → Option Segment
segment_if zero n = None
segment_if (suc e) n = Some (record { end = suc e; length = n })
