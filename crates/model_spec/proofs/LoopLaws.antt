-- The turns of loops: over the numbers from 0 to n for a test of each or of some, over two lists for their sameness,
-- and over an array that is mapped in place.
-- An invariant says of what is left at i that it decides the whole, X.
-- Assumes nothing.
use Prim.Native.Nat.{ℕ, zero, suc, ◌+◌, ◌-◌, ◌≤◌, ◌<◌}
use mathlib.Core.Path.{◌≡◌, refl, sym, ap, ◌∙◌}
use mathlib.Core.Bool.{Bool, true, false, not, ◌&&◌}
use mathlib.Core.List.{List, [], ◌∷◌, map}
use native.Mathlib.Nat.{not-suc-le-zero, le_of_suc-le-suc}
use native.Mathlib.Numerals.{add-one}
use native.Mathlib.Omega.{arith}
use lib.ListN.{length, get_or, set, drop, drop_of_length-le}
use lib.Dec.{eqb}
use lib.Seq.{drop-cons}
use borrow.Author.Tests.{eq-eqb, ne_eqb, not-true, not-false}
use Rattle.theory_spec.specs.Lists.{any, every, numbers_from, first_that, same}

-- ── A test of the numbers from 0 to n ────────────────────────────────────────────────────────────

-- the numbers that are left at i: i first, where there is one
pub left_more : (i n : ℕ) → i < n → numbers_from i (n - i) ≡ i ∷ numbers_from (i + 1) (n - (i + 1))
left_more i n h = let e : n - i ≡ suc (n - (i + 1)) = omega arith in rw (e, add-one i)

pub left_none : (i n : ℕ) → n ≤ i → numbers_from i (n - i) ≡ []
left_none i n h = let e : n - i ≡ 0 = omega arith in rw e

-- the rules that are left at place k, by their numbers: that place's first, where there is one
pub rules_left : (k m : ℕ) → k < m → numbers_from (k + 1) (m - k) ≡ (k + 1) ∷ numbers_from (k + 1 + 1) (m - (k + 1))
rules_left k m h = let e : m - k ≡ suc (m - (k + 1)) = omega arith in rw (e, add-one (k + 1))

module _ (p : ℕ → Bool) (i n : ℕ) (X : Bool) where
  pub every_go : every p (numbers_from i (n - i)) ≡ X → i < n → p i ≡ true
      → every p (numbers_from (i + 1) (n - (i + 1))) ≡ X
  every_go inv h t = sym (rw (left_more i n h, t)) ∙ inv

  pub every_stop : every p (numbers_from i (n - i)) ≡ X → i < n → p i ≡ false → false ≡ X
  every_stop inv h t = sym (rw (left_more i n h, t)) ∙ inv

  pub every-end : every p (numbers_from i (n - i)) ≡ X → n ≤ i → true ≡ X
  every-end inv h = sym (rw (left_none i n h)) ∙ inv

  pub any_go : any p (numbers_from i (n - i)) ≡ X → i < n → p i ≡ false → any p (numbers_from (i + 1) (n - (i + 1))) ≡ X
  any_go inv h t = sym (rw (left_more i n h, t)) ∙ inv

  pub any_stop : any p (numbers_from i (n - i)) ≡ X → i < n → p i ≡ true → true ≡ X
  any_stop inv h t = sym (rw (left_more i n h, t)) ∙ inv

  pub any-end : any p (numbers_from i (n - i)) ≡ X → n ≤ i → false ≡ X
  any-end inv h = sym (rw (left_none i n h)) ∙ inv

-- the first that passes: what is left at i decides it
module _ (p : ℕ → Bool) (i n X : ℕ) where
  pub first_go : first_that p (numbers_from i (n - i)) ≡ X → i < n → p i ≡ false
      → first_that p (numbers_from (i + 1) (n - (i + 1))) ≡ X
  first_go inv h t = sym (rw (left_more i n h, t)) ∙ inv

  pub first_stop : first_that p (numbers_from i (n - i)) ≡ X → i < n → p i ≡ true → i ≡ X
  first_stop inv h t = sym (rw (left_more i n h, t)) ∙ inv

  pub first-end : first_that p (numbers_from i (n - i)) ≡ X → n ≤ i → 0 ≡ X
  first-end inv h = sym (rw (left_none i n h)) ∙ inv

pub any-start : (p : ℕ → Bool) (n : ℕ) → any p (numbers_from 0 (n - 0)) ≡ any p (numbers_from 0 n)
any-start p n = let e : n - 0 ≡ n = omega arith in rw e

-- a test that also asks the length of a list
pub sized : {A : Type 0} (l : List A) (n : ℕ) (b : Bool) → length l ≡ n → b ≡ (eqb (length l) n && b)
sized l n b h = rw (eq-eqb (length l) n h)

-- what a call that tests b tells, by its result r
pub failed : {r b : Bool} → r ≡ b → not r ≡ true → b ≡ false
failed {r} e h = sym e ∙ not-true r h

pub passed : {r b : Bool} → r ≡ b → not r ≡ false → b ≡ true
passed {r} e h = sym e ∙ not-false r h

-- a test of two parts fails
pub first_fails : {a : Bool} (b : Bool) → a ≡ false → (a && b) ≡ false
first_fails b h = rw h

pub second_fails : (a : Bool) {b : Bool} → b ≡ false → (a && b) ≡ false
second_fails true h = h
second_fails false h = refl

-- ── Two lists, place by place: `same` of the first, mapped by f, and the second ──────────────────

module _ (f : ℕ → ℕ) (x y : List ℕ) (i : ℕ) (X : Bool) where
  pub same_go : same (map f (drop i x)) (drop i y) ≡ X → i < length x → i < length y → f (get_or x i 0) ≡ get_or y i 0
      → same (map f (drop (i + 1) x)) (drop (i + 1) y) ≡ X
  same_go inv hx hy e =
      sym (rw (drop-cons x i 0 hx, drop-cons y i 0 hy, eq-eqb (f (get_or x i 0)) (get_or y i 0) e, add-one i)) ∙ inv

  pub same_stop : same (map f (drop i x)) (drop i y) ≡ X → i < length x → i < length y
      → (f (get_or x i 0) ≡ get_or y i 0 → ⊥) → false ≡ X
  same_stop inv hx hy ne =
      sym (rw (drop-cons x i 0 hx, drop-cons y i 0 hy, ne_eqb (f (get_or x i 0)) (get_or y i 0) ne)) ∙ inv

  pub same_end : same (map f (drop i x)) (drop i y) ≡ X → length x ≤ i → length y ≤ i → true ≡ X
  same_end inv hx hy = sym (rw (drop_of_length-le x {i = i} hx, drop_of_length-le y {i = i} hy)) ∙ inv

-- ── An array that is mapped in place: after i turns it is `front f i l` ──────────────────────────

pub front : (ℕ → ℕ) → ℕ → List ℕ → List ℕ
front f zero l = l
front f (suc i) [] = []
front f (suc i) (x ∷ l) = f x ∷ front f i l

pub front_none : (f : ℕ → ℕ) (l : List ℕ) → front f 0 l ≡ l
unfolding front
front_none f l = refl

front-suc : (f : ℕ → ℕ) (i : ℕ) (l : List ℕ) → set (front f i l) i (f (get_or l i 0)) ≡ front f (suc i) l
unfolding front
front-suc f zero [] = refl
front-suc f (suc i) [] = refl
front-suc f zero (x ∷ l) = refl
front-suc f (suc i) (x ∷ l) = ap (λ (r : List ℕ). f x ∷ r) (front-suc f i l)

-- a store at i
pub front_more : (f : ℕ → ℕ) (i : ℕ) (l r : List ℕ) (v : ℕ) → r ≡ front f i l → v ≡ f (get_or l i 0)
    → set r i v ≡ front f (i + 1) l
front_more f i l r v h e = rw (e, h, add-one i) (front-suc f i l)

-- what is not yet mapped is as it was
front_at : (f : ℕ → ℕ) (i : ℕ) (l r : List ℕ) → r ≡ front f i l → get_or r i 0 ≡ get_or l i 0
unfolding front
front_at f zero l r h = rw h
front_at f (suc i) [] r h = rw h
front_at f (suc i) (x ∷ l) r h = rw h (front_at f i l (front f i l) refl)

-- a store at i of f of what is there
pub front_next : (f : ℕ → ℕ) (i : ℕ) (l r : List ℕ) (v : ℕ) → r ≡ front f i l → v ≡ f (get_or r i 0)
    → set r i v ≡ front f (i + 1) l
front_next f i l r v h e = front_more f i l r v h (e ∙ ap f (front_at f i l r h))

pub front_all : (f : ℕ → ℕ) (i : ℕ) (l : List ℕ) → length l ≤ i → front f i l ≡ map f l
unfolding front
front_all f zero [] h = refl
front_all f zero (x ∷ l) h = absurd (not-suc-le-zero h)
front_all f (suc i) [] h = refl
front_all f (suc i) (x ∷ l) h = ap (λ (r : List ℕ). f x ∷ r) (front_all f i l (le_of_suc-le-suc h))
