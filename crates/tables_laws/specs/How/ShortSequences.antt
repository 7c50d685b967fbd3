-- The sequence of at most three rules that an index names, by arithmetic: for every number of rules and every index.
-- No promise of a call needs this file, only those of functions below the calls: the law `short_at` says that for a
-- well-formed set and an index of its tables it is `sequence_at`.
use Rattle.std.specs.Prelude.{ℕ, min, max}
use Rattle.theory_spec.specs.Sequences.{Sequence}
use Rattle.theory_spec.specs.How.Indices.{sequence_of}
use Rattle.model_spec.specs.Limits.{max_rules}

-- of as many rules as a valid set may have, from 1 to 31
unfoldable pub short_sequence : ℕ → ℕ → Sequence
short_sequence m i = sequence_of (max 1 (min m max_rules)) 3 i
