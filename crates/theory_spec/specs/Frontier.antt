-- Where only some of the visited sequences are looked at: which of the others stand next to these, and the least cost.
use Rattle.std.specs.Prelude.{Bool, false, List, [], ◌∷◌, ℕ, min}
use Rattle.theory_spec.specs.Lists.{any, keep, same}
use Rattle.theory_spec.specs.Sequences.{Sequence, cost_of}

-- the sequence is one of a list
abbrev pub is_in : List Sequence → Sequence → Bool
is_in l q = any (same q) l

-- without its last rule
abbrev pub initial : Sequence → Sequence
initial [] = []
initial (r ∷ []) = []
initial (r ∷ s ∷ q) = r ∷ initial (s ∷ q)

-- the sequence extends one of a list by a single rule
abbrev pub extends_one : List Sequence → Sequence → Bool
extends_one l [] = false
extends_one l (r ∷ q) = is_in l (initial (r ∷ q))

-- the frontier: of the rest of the visited sequences those that extend a looked-at one by a single rule
abbrev pub frontier : List Sequence → List Sequence → List Sequence
frontier looked rest = keep (extends_one looked) rest

-- the least of c and of what the sequences of a list cost
abbrev pub least_cost : (ℕ → ℕ) → ℕ → List Sequence → ℕ
least_cost cost c [] = c
least_cost cost c (q ∷ l) = min (cost_of cost q) (least_cost cost c l)
