-- What the library says of chains of iterators and of mapped arrays, in this repository's words.
-- Assumes nothing.
use Prim.Native.Nat.{ℕ, zero, suc, ◌+◌, ◌≤◌}
use mathlib.Core.Path.{◌≡◌, refl, sym, ap, subst, ◌∙◌}
use mathlib.Core.Bool.{Bool, true, false, not, ◌&&◌, ◌||◌}
use mathlib.Core.List.{List, [], ◌∷◌, map}
use native.Mathlib.Numerals.{add-one}
use native.Mathlib.Omega.{arith}
use lib.ListN.{length, get_or, take, drop, drop_of_length-le}
use lib.Dec.{eqb}
use lib.Seq.{drop-cons}
use denote.Param.Members.{Mut}
use Rattle.std.specs.Array.{IsMapOf, MapsFrom}
use Rattle.std.specs.Cmp.Lexicographic.{pointwise}
use Rattle.std.specs.Fn.{Called}
use Rattle.std.specs.Iterator.{YieldsThen}
use Rattle.std.specs.List.{FoldsTo, list_all, list_any, range_with_len, zip}
use Rattle.std.specs.Option.{MatchOption}
use Rattle.std.specs.Prelude.{Option}
use Rattle.std.specs.declared.ops.Range.{Range}
use Rattle.std.proofs.iter.Yields.{nat_range_steps}
use Rattle.std.proofs.lemmas.Iterator.{YieldsList-from_range}
use Rattle.std.proofs.lemmas.Iterator.Search.{all_from_yields_List, any_from_yields_List}
use Rattle.std.proofs.lemmas.List.Recursion.{same_from_clauses}
use Rattle.theory_spec.specs.Lists.{any, every, numbers_from, same}

-- ── `all` and `any` ──────────────────────────────────────────────────────────────────────────────

module _ {A : Type 0} (p : A → Bool) where
  pub every_is : (l : List A) → list_all p l ≡ every p l
  every_is = same_from_clauses (list_all p) (every p) (λ x b. p x && b) refl (λ _ _. refl) (λ _ _. refl)

  pub any_is : (l : List A) → list_any p l ≡ any p l
  any_is = same_from_clauses (list_any p) (any p) (λ x b. p x || b) refl (λ _ _. refl) (λ _ _. refl)

-- the numbers that a range gives
pub numbers_are : (i n : ℕ) → range_with_len i n ≡ numbers_from i n
numbers_are i zero = refl
numbers_are i (suc n) = rw (add-one i) (ap (λ (l : List ℕ). i ∷ l) (numbers_are (suc i) n))

module _ (p : ℕ → Bool) (i n : ℕ) where
  pub every_in_range : list_all p (range_with_len i n) ≡ every p (numbers_from i n)
  every_in_range = every_is p (range_with_len i n) ∙ ap (every p) (numbers_are i n)

  pub any_in_range : list_any p (range_with_len i n) ≡ any p (numbers_from i n)
  any_in_range = any_is p (range_with_len i n) ∙ ap (any p) (numbers_are i n)

-- what `all` and `any` answer over the numbers below n, where the closure f stays as it is and computes the test
module _ {F : Type 0} (g : Mut F (ℕ × Unit {0}) Bool) (test : ℕ → Bool) (n : ℕ) {s : Range ℕ} (u : Range ℕ) (f : F)
    (r : Bool) (below : s ≡ record { start = 0; end = n }) where
  abbrev Computes : Type 0
  Computes = (x : ℕ) (b : Bool) (q : F) → Called g f (x, tt) b q → (q ≡ f) × (b ≡ test x)

  -- calls at the numbers in turn, each answered by b, to the end or to one that is answered otherwise
  abbrev Ran : Bool → Type 0
  Ran b =
      (xs : List ℕ) × (o : Option ℕ) × (j : F) × YieldsThen nat_range_steps s xs o u
      × FoldsTo (λ p x q. Called g p (x, tt) b q) f xs j
      × MatchOption o (r ≡ b) (λ x. (r ≡ not b) × ((h : F) × Called g j (x, tt) (not b) h))

  pub all_below : Ran true → Computes → r ≡ every test (numbers_from 0 n)
  all_below ran computes =
      all_from_yields_List test u f r ran (YieldsList-from_range 0 n n below (omega arith)) computes
      ∙ every_in_range test 0 n

  pub any_below : Ran false → Computes → r ≡ any test (numbers_from 0 n)
  any_below ran computes =
      any_from_yields_List test u f r ran (YieldsList-from_range 0 n n below (omega arith)) computes
      ∙ any_in_range test 0 n

-- a test of the numbers after the first is one of their predecessors
any_shift : (p : ℕ → Bool) (i n : ℕ) → any p (numbers_from (suc i) n) ≡ any (λ j. p (suc j)) (numbers_from i n)
any_shift p i zero = refl
any_shift p i (suc n) = ap (λ (r : Bool). p (suc i) || r) (any_shift p (suc i) n)

-- a test of the first k elements of a list reads them by their places
pub any_reads : {A : Type 0} (p : A → Bool) (l : List A) (d : A) (k : ℕ) → k ≤ length l
    → any p (take k l) ≡ any (λ j. p (get_or l j d)) (numbers_from 0 k)
any_reads p l d zero h = refl
any_reads p [] d (suc k) h = absurd (omega arith)
any_reads p (x ∷ l) d (suc k) h =
    ap (λ (r : Bool). p x || r)
    (any_reads p l d k (omega arith) ∙ sym (any_shift (λ j. p (get_or (x ∷ l) j d)) 0 k))

-- two lists of numbers are compared as the library's `==` compares them
pub same_is : (x y : List ℕ) → pointwise eqb x y ≡ same x y
same_is [] [] = refl
same_is [] (b ∷ y) = refl
same_is (a ∷ x) [] = refl
same_is (a ∷ x) (b ∷ y) = ap (λ (r : Bool). eqb a b && r) (same_is x y)

-- two lists, place by place: the first, mapped by f, and the second
pub same_zip : (f : ℕ → ℕ) (x y : List ℕ) → length x ≡ length y
    → list_all (λ (q : ℕ × ℕ). eqb (f q.0) q.1) (zip x y) ≡ same (map f x) y
same_zip f [] [] h = refl
same_zip f [] (b ∷ y) h = absurd (omega arith)
same_zip f (a ∷ x) [] h = absurd (omega arith)
same_zip f (a ∷ x) (b ∷ y) h = ap (λ (r : Bool). eqb (f a) b && r) (same_zip f x y (omega arith))

-- ── `&&` ─────────────────────────────────────────────────────────────────────────────────────────

-- the value v of `x && r`, where x passed: it is that of r
pub and_passed : {v x r a b : Bool} → v ≡ r → r ≡ b → x ≡ a → x ≡ true → v ≡ (a && b)
and_passed {b} p q e t = p ∙ q ∙ ap (λ (c : Bool). c && b) (sym t ∙ e)

-- and where x failed: it is that of x
pub and_failed : {v x a : Bool} (b : Bool) → v ≡ x → x ≡ a → x ≡ false → v ≡ (a && b)
and_failed b p e f = p ∙ f ∙ ap (λ (c : Bool). c && b) (sym f ∙ e)

-- ── An array that is mapped ──────────────────────────────────────────────────────────────────────

-- calls of a closure f that stays as it is, and gives h of each element
module _ {F A B : Type 0} (g : Mut F (A × Unit {0}) B) (h : A → B) (f : F)
    (gives : (x : A) (y : B) (q : F) → Called g f (x, tt) y q → (q ≡ f) × (y ≡ h x)) (xs : List A) (ys : List B) where
  -- the n elements from i on
  mapped_from : (i n : ℕ) → length xs ≡ i + n → length ys ≡ i + n → MapsFrom g f xs ys i n
      → drop i ys ≡ map h (drop i xs)
  mapped_from i zero a b m = rw (drop_of_length-le xs {i = i} (omega arith), drop_of_length-le ys {i = i} (omega arith))
  mapped_from i (suc n) a b (q, x, y, at_x, at_y, call, later) =
      let gave = gives x y q call in
      let rest : MapsFrom g f xs ys (i + 1) n = subst (λ (p : F). MapsFrom g p xs ys (i + 1) n) gave.0 later in
      let tail : drop (suc i) ys ≡ map h (drop (suc i) xs) =
      rw add-one at (mapped_from (i + 1) n (omega arith) (omega arith) rest) in
      rw (drop-cons xs i x (omega arith), drop-cons ys i y (omega arith), at_x.0, at_y.0, gave.1)
      (ap (λ (l : List B). h x ∷ l) tail)

  pub mapped : (n : ℕ) → length xs ≡ n → IsMapOf g f xs ys n → ys ≡ map h xs
  mapped n long m = mapped_from 0 n (omega arith) (omega (arith, m.long)) m.each
