-- The index of a sequence by arithmetic, the number (r₁ · m + r₂) · m + r₃ and so on, and back.
-- No promise of a call needs this file, only those of functions below the calls: document 01's index is a position in
-- `sequences`, and the laws `index_at` and `sequence_at_lem` say that the two are the same.
use Rattle.std.specs.Prelude.{[], ◌∷◌, ◌++◌, ℕ, zero, suc, ◌+◌, ◌*◌, ◌/◌, ◌%◌}
use Rattle.theory_spec.specs.Sequences.{Sequence}

-- the index of q behind a sequence whose index is i
abbrev pub index_from : ℕ → ℕ → Sequence → ℕ
index_from m i [] = i
index_from m i (r ∷ q) = index_from m (i * m + r) q

-- the index of a sequence of rules 1 to m
abbrev pub index_of : ℕ → Sequence → ℕ
index_of m q = index_from m 0 q

-- the index of the first sequence of n rules, and how many sequences of n rules there are
abbrev pub level_start : ℕ → ℕ → ℕ
level_start m zero = 0
level_start m (suc n) = level_start m n * m + 1

abbrev pub level_count : ℕ → ℕ → ℕ
level_count m zero = 1
level_count m (suc n) = level_count m n * m

-- the sequence of an index, of at most n rules: its last rule is the remainder of i - 1 by m, and 1; the rules before
-- it have the quotient as their index
abbrev pub sequence_of : ℕ → ℕ → ℕ → Sequence
sequence_of m zero i = []
sequence_of m (suc n) zero = []
sequence_of m (suc n) (suc k) = sequence_of m n (k / m) ++ ((k % m + 1) ∷ [])
