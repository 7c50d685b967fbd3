-- Laws of the elements of a list that pass a test, of lists put together from its elements, and of their lengths.
-- Assumes nothing.
use mathlib.Core.Path.{◌≡◌, refl, ap, ap₂}
use mathlib.Core.Bool.{Bool, true, false, cond}
use mathlib.Core.List.Memᴰ
use mathlib.Core.List.{List, [], ◌∷◌, ◌++◌}
use Prim.Native.Nat.{ℕ, zero, suc, ◌≤◌, ◌<◌}
use native.Mathlib.Omega.{arith}
use lib.ListN.{length}
use Rattle.theory_spec.specs.Lists.{◌∈◌, keep_if, keep, Pairwise, flat, numbers_from}
use Rattle.theory_spec.proofs.ListLaws.{here, of-numbers_from}

-- two tests that agree on the list
pub keep_same : {A : Type 0} (p q : A → Bool) (l : List A) → ((a : A) → a ∈ l → p a ≡ q a) → keep p l ≡ keep q l
keep_same p q [] h = refl
keep_same p q (x ∷ l) h = ap₂ (λ b r. keep_if b x r) (h x (here x l)) (keep_same p q l (λ a d. h a (Memᴰ.tail d)))

-- the lists of the elements that pass, one after the other
pub flat_keep : {A B : Type 0} (p : A → Bool) (f : A → List B) (l : List A)
    → flat (λ a. cond (p a) (f a) []) l ≡ flat f (keep p l)
flat_keep p f [] = refl
flat_keep {A} {B} p f (x ∷ l) = go (p x) (flat_keep p f l)
  where
    go : (b : Bool) → flat (λ a. cond (p a) (f a) []) l ≡ flat f (keep p l) → cond b (f x) []
        ++ flat (λ a. cond (p a) (f a) []) l ≡ flat f (keep_if b x (keep p l))
    go true e = ap (λ r. f x ++ r) e
    go false e = e

-- numbers from a number on increase
pub increase : (i n : ℕ) → Pairwise (λ i j. i < j) (numbers_from i n)
increase i zero = tt
increase i (suc n) = (λ j d. (of-numbers_from (suc i) n d).0, increase (suc i) n)

-- no more elements pass than there are
pub keep-length : {A : Type 0} (p : A → Bool) (l : List A) → length (keep p l) ≤ length l
keep-length p [] = omega arith
keep-length p (x ∷ l) = go (p x) (keep-length p l)
  where
    go : (b : Bool) → length (keep p l) ≤ length l → length (keep_if b x (keep p l)) ≤ suc (length l)
    go true h = omega arith
    go false h = omega arith
