-- Redundant sequences, and pruning by marked ones, over any transition system (source document 000, Definition 1).
use Rattle.std.specs.Prelude.{◌≡◌, Bool, List, [], ◌∷◌, ◌++◌, ℕ, ◌≤◌}
use Rattle.std.proofs.Math.Option.{Option, some}
use Rattle.theory_spec.specs.Lists.{any}
use Rattle.theory_spec.specs.Sequences.{Sequence, run, cost_of, with_first}

-- the non-empty prefixes
abbrev pub prefixes : Sequence → List Sequence
prefixes [] = []
prefixes (r ∷ q) = (r ∷ []) ∷ with_first (prefixes q) r

-- the segments (document 01: stretches): neighbouring rules of a sequence, from one rule to the whole
abbrev pub segments : Sequence → List Sequence
segments [] = []
segments (r ∷ q) = prefixes (r ∷ q) ++ segments q

-- a sequence is pruned (document 01: dropped) where a segment of it is marked
abbrev pub pruned : (Sequence → Bool) → Sequence → Bool
pruned marked q = any marked (segments q)

-- b is redundant with a (source document 000, Definition 1): b costs no less than a, and from every valid state that
-- admits b, a leads to the same state
abbrev pub Redundant : {A : Type 0} → (ℕ → A → Option A) → (ℕ → ℕ) → (A → Type 0) → Sequence → Sequence → Type 0
Redundant {A} step cost Valid b a =
    (cost_of cost a ≤ cost_of cost b)
    × ((s t : A) → Valid s → run step b s ≡ some t → run step a s ≡ some t)
