-- Plans over any transition system: the sequences that lead to a goal within both bounds, the cheapest of them, and the
-- sequences that a pruned search visits.
-- None of this depends on how a search goes about it.
use Rattle.std.specs.Prelude.{◌≡◌, ◌⊎◌, Bool, false, not, ◌&&◌, cond, List, [], ◌∷◌, ℕ, ◌<◌, leb}
use Rattle.std.proofs.Math.Option.{Option, some, none}
use Rattle.theory_spec.specs.Lists.{keep, is_some}
use Rattle.theory_spec.specs.Sequences.{Sequence, run, cost_of, sequences, depth_first}
use Rattle.theory_spec.specs.Order.{Before}
use Rattle.theory_spec.specs.Pruning.{pruned}

-- a test of the state in which a run ends
abbrev pub ends_in : {A : Type 0} → (A → Bool) → Option A → Bool
ends_in goal none = false
ends_in goal (some s) = goal s

-- a sequence leads to the goal: it can be run from the start, and the state that it ends in meets the goal
abbrev pub reaches : {A : Type 0} → (ℕ → A → Option A) → A → (A → Bool) → Sequence → Bool
reaches step start goal q = ends_in goal (run step q start)

-- it leads to the goal and costs no more than the cost bound
abbrev pub is_plan : {A : Type 0} → (ℕ → A → Option A) → (ℕ → ℕ) → A → (A → Bool) → ℕ → Sequence → Bool
is_plan step cost start goal max_cost q = reaches step start goal q && leb (cost_of cost q) max_cost

-- the candidates: all sequences that lead to the goal within both bounds, pruned ones included, in document 01's order
abbrev pub candidates : {A : Type 0} → (ℕ → A → Option A) → (ℕ → ℕ) → ℕ → A → (A → Bool) → ℕ → ℕ → List Sequence
candidates step cost m start goal max_moves max_cost =
    keep (is_plan step cost start goal max_cost) (sequences m max_moves)

-- q costs no more than p
abbrev pub no_dearer : (ℕ → ℕ) → Sequence → Sequence → Bool
no_dearer cost q p = leb (cost_of cost q) (cost_of cost p)

-- the cheaper of the two, the first where they cost the same
abbrev pub cheaper : (ℕ → ℕ) → Sequence → Option Sequence → Option Sequence
cheaper cost q none = some q
cheaper cost q (some p) = cond (no_dearer cost q p) (some q) (some p)

-- the first sequence of least cost
abbrev pub cheapest : (ℕ → ℕ) → List Sequence → Option Sequence
cheapest cost [] = none
cheapest cost (q ∷ qs) = cheaper cost q (cheapest cost qs)

-- p is preferred to q: q costs more, or costs as much and comes later
abbrev pub Preferred : (ℕ → ℕ) → Sequence → Sequence → Type 0
Preferred cost p q = (cost_of cost p < cost_of cost q) ⊎ ((cost_of cost p ≡ cost_of cost q) × Before p q)

-- a sequence costs no more than the cost bound, and is not pruned (document 01: undropped)
abbrev pub allowed : (ℕ → ℕ) → (Sequence → Bool) → ℕ → Sequence → Bool
allowed cost marked max_cost q = leb (cost_of cost q) max_cost && not (pruned marked q)

-- a visited sequence (document 01: walked): it can be run from the start, costs no more than the cost bound, and is
-- not pruned
abbrev pub is_visited : {A : Type 0} → (ℕ → A → Option A) → (ℕ → ℕ) → (Sequence → Bool) → A → ℕ → Sequence → Bool
is_visited step cost marked start max_cost q = is_some (run step q start) && allowed cost marked max_cost q

-- the visited sequences within the move bound, in depth-first order
abbrev pub visited : {A : Type 0} → (ℕ → A → Option A) → (ℕ → ℕ) → ℕ → (Sequence → Bool) → A → ℕ → ℕ → List Sequence
visited step cost m marked start max_moves max_cost =
    keep (is_visited step cost marked start max_cost) (depth_first m max_moves)
