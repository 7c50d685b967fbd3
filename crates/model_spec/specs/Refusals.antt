-- One way to an outcome: each call on a rule set has a list of causes in document 01's order, each with its number and
-- a test, and the first that holds is the answer.
use Rattle.std.specs.Prelude.{◌≡◌, ◌≢◌, Bool, true, false, List, [], ◌∷◌, ◌++◌, ℕ}

-- a refusal's number, and whether its cause holds
abbrev pub Cause : Type 0
Cause = ℕ × Bool

-- the number of the first cause that holds; 0 if none does
abbrev pub first_refusal : List Cause → ℕ
first_refusal [] = 0
first_refusal ((n, true) ∷ causes) = n
first_refusal ((n, false) ∷ causes) = first_refusal causes

-- no cause holds
abbrev pub NoneHolds : List Cause → Type 0
NoneHolds [] = Unit {0}
NoneHolds ((n, b) ∷ causes) = (b ≡ false) × NoneHolds causes

-- the cause of n holds, and none before it does
abbrev pub First : ℕ → List Cause → Type 0
First n causes =
    (before : List Cause) × (after : List Cause)
    × (causes ≡ before ++ ((n, true) ∷ after))
    × NoneHolds before

-- no refusal has the number 0
abbrev pub NonZero : List Cause → Type 0
NonZero [] = Unit {0}
NonZero ((n, b) ∷ causes) = (n ≢ 0) × NonZero causes
