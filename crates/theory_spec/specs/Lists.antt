-- Lists, and tests on their elements. A test is a `Bool`; it passes where it is `true`.
use Rattle.std.specs.Prelude.{Bool, true, false, cond, ◌&&◌, ◌||◌, ℕ, zero, suc, ◌-◌, leb, eqb, length, replicate}
use Rattle.std.proofs.Math.Option.{Option, some, none}
use mathlib.Core.List.{List, [], ◌∷◌, ◌++◌, Memᴰ}

infix 4 ◌∈◌
-- `a ∈ l`: a stands in l
abbrev pub ◌∈◌ : {A : Type 0} → A → List A → Type 0
a ∈ l = Memᴰ a l

module _ {A : Type 0} where
  abbrev pub keep_if : Bool → A → List A → List A
  keep_if true x l = x ∷ l
  keep_if false x l = l

  -- the elements that pass a test, in their order
  abbrev pub keep : (A → Bool) → List A → List A
  keep p [] = []
  keep p (x ∷ xs) = keep_if (p x) x (keep p xs)

  -- some element passes the test
  abbrev pub any : (A → Bool) → List A → Bool
  any p [] = false
  any p (x ∷ xs) = p x || any p xs

  -- every element passes the test
  abbrev pub every : (A → Bool) → List A → Bool
  every p [] = true
  every p (x ∷ xs) = p x && every p xs

  -- each element is in relation R to every later one
  abbrev pub Pairwise : (A → A → Type 0) → List A → Type 0
  Pairwise R [] = Unit {0}
  Pairwise R (x ∷ xs) = ((y : A) → y ∈ xs → R x y) × Pairwise R xs

  -- the value, where a test passes
  abbrev pub only_if : Bool → A → Option A
  only_if true x = some x
  only_if false x = none

  abbrev pub is_some : Option A → Bool
  is_some none = false
  is_some (some x) = true

  -- l, made up to n elements by x
  abbrev pub padded : ℕ → A → List A → List A
  padded n x l = l ++ replicate (n - length l) x

module _ {A B : Type 0} where
  -- the lists of the elements, one after the other
  abbrev pub flat : (A → List B) → List A → List B
  flat f [] = []
  flat f (x ∷ xs) = f x ++ flat f xs

-- the n numbers from i on
abbrev pub numbers_from : ℕ → ℕ → List ℕ
numbers_from i zero = []
numbers_from i (suc n) = i ∷ numbers_from (suc i) n

-- the first number of a list that passes a test; 0 if none does
abbrev pub first_that : (ℕ → Bool) → List ℕ → ℕ
first_that test [] = 0
first_that test (k ∷ later) = cond (test k) k (first_that test later)

-- a number from lo to hi
abbrev pub within : ℕ → ℕ → ℕ → Bool
within lo hi n = leb lo n && leb n hi

-- two lists of numbers are the same
abbrev pub same : List ℕ → List ℕ → Bool
same [] [] = true
same [] (y ∷ b) = false
same (x ∷ a) [] = false
same (x ∷ a) (y ∷ b) = eqb x y && same a b
