-- The look-up that spares the search a look at each segment: one byte for each index, whether a suffix of its sequence
-- is marked. No promise of a call needs this file, only those of functions below the calls.
use Rattle.std.specs.Prelude.{◌≡◌, Bool, not, cond, ◌&&◌, List, ℕ, ◌/◌, min, eqb, ltb, length, get_or}
use Rattle.theory_spec.specs.Lists.{any}
use Rattle.theory_spec.specs.Sequences.{Sequence}
use Rattle.theory_spec.specs.How.Indices.{index_of, sequence_of}
use Rattle.theory_spec.specs.How.Recursion.{suffixes}
use Rattle.tables_spec.specs.Table.{sequence_count, kept, entry_at}

-- the entry at the index of a sequence of rules 1 to m is a mark
unfoldable pub marked_at : ℕ → List ℕ → Sequence → Bool
marked_at m table q = not (eqb (entry_at table (index_of m q)) kept)

-- some suffix of the sequence is marked
unfoldable pub suffix_marked : ℕ → List ℕ → Sequence → Bool
suffix_marked m table q = any (marked_at m table) (suffixes q)

-- the look-up of a table of a reach of at most 3: at each index 1 if the table has an entry there and a suffix of its
-- sequence is marked, else 0
abbrev pub LooksUp : ℕ → List ℕ → List ℕ → Type 0
LooksUp m table blocked =
    (i : ℕ)
    → get_or blocked i 0
    ≡ cond (ltb i (min (length table / 2) (sequence_count m 3)) && suffix_marked m table (sequence_of m 3 i)) 1 0
