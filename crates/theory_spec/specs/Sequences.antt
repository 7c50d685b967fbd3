-- Sequences of rules over any transition system: their runs and costs, and the two lists of all sequences up to a
-- length. A system is given by `step : ℕ → A → Option A`: rule r takes state s to `step r s`, where it runs. The rules
-- are numbered 1 to m.
use Rattle.std.proofs.Math.Option.{Option, some, none}
use Rattle.std.specs.Prelude.{List, [], ◌∷◌, ◌++◌, map, ℕ, zero, suc, ◌+◌, ◌≤◌}
use Rattle.theory_spec.specs.Lists.{flat, numbers_from}

-- a sequence of rules, by their numbers
abbrev pub Sequence : Type 0
Sequence = List ℕ

-- what a partial step `f` makes of a state that may be none
abbrev pub and_then : {A : Type 0} → Option A → (A → Option A) → Option A
and_then none f = none
and_then (some s) f = f s

-- the state in which a sequence ends that is run from s: each rule runs in the state that the rules before it leave;
-- none where one does not
abbrev pub run : {A : Type 0} → (ℕ → A → Option A) → Sequence → A → Option A
run step [] s = some s
run step (r ∷ q) s = and_then (step r s) (run step q)

-- the cost of a sequence: the sum of its rules' costs
abbrev pub cost_of : (ℕ → ℕ) → Sequence → ℕ
cost_of cost [] = 0
cost_of cost (r ∷ q) = cost r + cost_of cost q

-- the rule numbers 1 to m
abbrev pub numbers : ℕ → List ℕ
numbers m = numbers_from 1 m

-- every number of a sequence is one of 1 to m
abbrev pub Numbered : ℕ → Sequence → Type 0
Numbered m [] = Unit {0}
Numbered m (r ∷ q) = (1 ≤ r) × (r ≤ m) × Numbered m q

-- a rule number in front of each of the sequences
abbrev pub with_first : List Sequence → ℕ → List Sequence
with_first l r = map (λ (q : Sequence). r ∷ q) l

-- the sequences of exactly n rules, in lexicographic order
abbrev pub level : ℕ → ℕ → List Sequence
level m zero = [] ∷ []
level m (suc n) = flat (with_first (level m n)) (numbers m)

-- the sequences of at most n rules in document 01's order: fewer rules first, at equal length by rule number at the
-- first difference. A sequence's place in this list, counted from 0, is its index
abbrev pub sequences : ℕ → ℕ → List Sequence
sequences m zero = level m zero
sequences m (suc n) = sequences m n ++ level m (suc n)

-- the same sequences in depth-first order (document 01: the order of the walk): a sequence before its extensions, these
-- by rule number
abbrev pub depth_first : ℕ → ℕ → List Sequence
depth_first m zero = [] ∷ []
depth_first m (suc n) = [] ∷ flat (with_first (depth_first m n)) (numbers m)
