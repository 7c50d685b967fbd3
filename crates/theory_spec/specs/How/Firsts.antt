-- The first of a list: the sequence that is preferred to all others. No promise of a call needs this file: the laws of
-- `cheapest` are stated by it.
use Rattle.std.specs.Prelude.{◌≡◌, ◌⊎◌, List, ℕ}
use Rattle.theory_spec.specs.Lists.{◌∈◌}
use Rattle.theory_spec.specs.Sequences.{Sequence}
use Rattle.theory_spec.specs.Plans.{Preferred}

-- p is in the list and preferred to every other sequence of it
abbrev pub Least : (ℕ → ℕ) → List Sequence → Sequence → Type 0
Least cost l p = (p ∈ l) × ((q : Sequence) → q ∈ l → (q ≡ p) ⊎ Preferred cost p q)
