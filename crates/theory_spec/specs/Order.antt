-- The order of sequences: length-lexicographic, after source document 000.
use Rattle.std.specs.Prelude.{◌≡◌, ◌⊎◌, [], ◌∷◌, ◌<◌, length}
use Rattle.theory_spec.specs.Sequences.{Sequence}

-- lexicographic order, strict: the smaller number at the first place where the two differ, and a sequence before its
-- extensions
abbrev pub LexBefore : Sequence → Sequence → Type 0
LexBefore [] [] = ⊥
LexBefore [] (y ∷ b) = Unit {0}
LexBefore (x ∷ a) [] = ⊥
LexBefore (x ∷ a) (y ∷ b) = (x < y) ⊎ ((x ≡ y) × LexBefore a b)

-- a is earlier than b in document 01's order, strict: fewer rules first; at equal length, the smaller rule number at
-- the first difference
abbrev pub Before : Sequence → Sequence → Type 0
Before a b = (length a < length b) ⊎ ((length a ≡ length b) × LexBefore a b)
