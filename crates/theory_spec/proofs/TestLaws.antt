-- When a test passes, as a statement: `(test ≡ true) ↔ statement`, for the tests on numbers and lists and for tests put
-- together.
-- Assumes nothing.
use mathlib.Core.Path.{◌≡◌, refl, sym, ap, ◌∙◌, subst}
use mathlib.Core.Logic.{◌↔◌, ◌⊎◌, inl, inr, ◌≢◌, ⊎_elim}
use mathlib.Core.Bool.{Bool, true, false, not, cond, ◌&&◌, ◌||◌, false≢true}
use mathlib.Core.List.{List}
use Prim.Native.Nat.{ℕ, zero, suc, ◌+◌, ◌≤◌, ◌<◌}
use lib.Dec.{leb, ltb, eqb}
use native.Mathlib.Omega.{arith}
use borrow.Author.Tests.{leb-true, le-leb, ltb-true, ltb-false, lt-ltb, eqb-true, eqb-false, eq-eqb, not-false}
use Rattle.theory_spec.specs.Lists.{◌∈◌, any, every, numbers_from, first_that, within, same}
use Rattle.theory_spec.proofs.ListLaws.{not-both, never_true, and_split, and_join, every_at, true-every}
use Rattle.theory_spec.proofs.ListLaws.{any_true, true-any}
use Rattle.theory_spec.proofs.ListLaws.{of-numbers_from, in-numbers_from, same_true, same_refl}

-- a number is below another or not
pub below? : (i n : ℕ) → (i < n) ⊎ (n ≤ i)
below? i n = go (ltb i n) refl
  where
    go : (t : Bool) → ltb i n ≡ t → (i < n) ⊎ (n ≤ i)
    go true e = inl (ltb-true i n e)
    go false e = inr (ltb-false i n e)

-- two numbers are equal or not
pub equal? : (m n : ℕ) → (m ≡ n) ⊎ (m ≡ n → ⊥)
equal? m n = go (eqb m n) refl
  where
    go : (t : Bool) → eqb m n ≡ t → (m ≡ n) ⊎ (m ≡ n → ⊥)
    go true e = inl (eqb-true m n e)
    go false e = inr (eqb-false m n e)

pub leb_iff : (m n : ℕ) → (leb m n ≡ true) ↔ (m ≤ n)
leb_iff m n = (leb-true m n, le-leb m n)

pub ltb_iff : (m n : ℕ) → (ltb m n ≡ true) ↔ (m < n)
ltb_iff m n = (ltb-true m n, lt-ltb m n)

pub eqb_iff : (m n : ℕ) → (eqb m n ≡ true) ↔ (m ≡ n)
eqb_iff m n = (eqb-true m n, eq-eqb m n)

pub same_iff : (a b : List ℕ) → (same a b ≡ true) ↔ (a ≡ b)
same_iff a b = (same_true a b, λ e. subst (λ l. same a l ≡ true) e (same_refl a))

pub not_iff : (a : Bool) {P : Type 0} → (a ≡ true) ↔ P → (not a ≡ true) ↔ (P → ⊥)
not_iff true i = (λ e p. false≢true e, λ h. absurd (h (i.0 refl)))
not_iff false i = (λ e p. false≢true (i.1 p), λ h. refl)

-- a test fails exactly if its statement does not hold; the negated test fails exactly if it does
pub fails_iff : (a : Bool) {P : Type 0} → (a ≡ true) ↔ P → (a ≡ false) ↔ (P → ⊥)
fails_iff a i = (λ e p. not-both (i.1 p) e, λ n. never_true a (λ e. n (i.0 e)))

pub unfailed_iff : (a : Bool) {P : Type 0} → (a ≡ true) ↔ P → (not a ≡ false) ↔ P
unfailed_iff a i = (λ e. i.0 (not-false a e), λ p. ap not (i.1 p))

pub and_iff : (a b : Bool) {P Q : Type 0} → (a ≡ true) ↔ P → (b ≡ true) ↔ Q → ((a && b) ≡ true) ↔ (P × Q)
and_iff a b i j =
    (λ e. let w = and_split a b e in (i.0 w.0, j.0 w.1), λ w. and_join (i.1 w.0) (j.1 w.1))

-- a test that is asked only where another fails
pub unless_iff : (a b : Bool) {P Q : Type 0} → (a ≡ true) ↔ P → (b ≡ true) ↔ Q → ((a || b) ≡ true) ↔ ((P → ⊥) → Q)
unless_iff true b i j = (λ _ n. absurd (n (i.0 refl)), λ _. refl)
unless_iff false b i j = (λ e _. j.0 e, λ f. j.1 (f (λ p. false≢true (i.1 p))))

pub within_iff : (lo hi n : ℕ) → (within lo hi n ≡ true) ↔ ((lo ≤ n) × (n ≤ hi))
within_iff lo hi n = and_iff (leb lo n) (leb n hi) (leb_iff lo n) (leb_iff n hi)

-- one test below a number, another from it on
pub cond_iff : (i n : ℕ) (a b : Bool) {P Q : Type 0} → (a ≡ true) ↔ P → (b ≡ true) ↔ Q → (cond (ltb i n) a b ≡ true)
    ↔ ((i < n → P) × (n ≤ i → Q))
cond_iff i n a b {P} {Q} p q = go (ltb i n) refl
  where
    go : (t : Bool) → ltb i n ≡ t → (cond t a b ≡ true) ↔ ((i < n → P) × (n ≤ i → Q))
    go true e = let h = ltb-true i n e in (λ x. (λ _. p.0 x, λ k. absurd (omega arith)), λ w. p.1 (w.0 h))
    go false e = let h = ltb-false i n e in (λ x. (λ k. absurd (omega arith), λ _. q.0 x), λ w. q.1 (w.1 h))

-- a test that is asked only from n on
pub or_iff : (i n : ℕ) (b : Bool) {Q : Type 0} → (b ≡ true) ↔ Q → ((ltb i n || b) ≡ true) ↔ (n ≤ i → Q)
or_iff i n b {Q} q = go (ltb i n) refl
  where
    go : (t : Bool) → ltb i n ≡ t → ((t || b) ≡ true) ↔ (n ≤ i → Q)
    go true e = let h = ltb-true i n e in (λ _ k. absurd (omega arith), λ _. refl)
    go false e = let h = ltb-false i n e in (λ x _. q.0 x, λ w. q.1 (w h))

module _ {A : Type 0} (p : A → Bool) (P : A → Type 0) (each : (a : A) → (p a ≡ true) ↔ P a) (l : List A) where
  pub every_iff : (every p l ≡ true) ↔ ((a : A) → a ∈ l → P a)
  every_iff = (λ e a d. (each a).0 (every_at p e d), λ h. true-every p l (λ a d. (each a).1 (h a d)))

  pub any_iff : (any p l ≡ true) ↔ ((a : A) × (a ∈ l) × P a)
  any_iff = (
    λ e. let w = any_true p l e in (w.0, w.1, (each w.0).0 w.2),
    λ w. true-any p w.1 ((each w.0).1 w.2),
  )

-- the same over the numbers below n
module _ (p : ℕ → Bool) (P : ℕ → Type 0) (each : (i : ℕ) → (p i ≡ true) ↔ P i) (n : ℕ) where
  pub every-below_iff : (every p (numbers_from 0 n) ≡ true) ↔ ((i : ℕ) → i < n → P i)
  every-below_iff =
      let w = every_iff p P each (numbers_from 0 n) in (
        λ e i h. w.0 e i (in-numbers_from 0 n i (omega arith) (omega arith)),
        λ f. w.1 (λ i d. let b = of-numbers_from 0 n d in f i (omega arith)),
      )

  pub any-below_iff : (any p (numbers_from 0 n) ≡ true) ↔ ((i : ℕ) × (i < n) × P i)
  any-below_iff =
      let w = any_iff p P each (numbers_from 0 n) in (
        λ e. let v = w.0 e in let b = of-numbers_from 0 n v.1 in
            (v.0, omega arith, v.2),
        λ v. w.1 (v.0, in-numbers_from 0 n v.0 (omega arith) (omega arith), v.2),
      )

-- ── The first number from i on that passes a test ────────────────────────────────────────────────

module _ (test : ℕ → Bool) where
  -- none of the n numbers from i on passes
  abbrev pub NonePasses : ℕ → ℕ → Type 0
  NonePasses i n = (j : ℕ) → i ≤ j → j < i + n → test j ≡ false

  -- k is the least of them that passes
  abbrev pub FirstPasses : ℕ → ℕ → ℕ → Type 0
  FirstPasses i n k = (i ≤ k) × (k < i + n) × (test k ≡ true) × ((j : ℕ) → i ≤ j → j < k → test j ≡ false)

  -- behind a number that does not pass
  none-behind : (i n : ℕ) → test i ≡ false → NonePasses (suc i) n → NonePasses i (suc n)
  none-behind i n e f j h k = ⊎_elim (λ d. ap test d ∙ e) (λ d. f j (omega arith) (omega arith)) (equal? j i)

  first-behind : (i n k : ℕ) → test i ≡ false → FirstPasses (suc i) n k → FirstPasses i (suc n) k
  first-behind i n k e w =
      let low = w.0 in
      let high = w.1 in
      (omega arith, omega arith, w.2, λ j h b. ⊎_elim (λ d. ap test d ∙ e) (λ d. w.3 j (omega arith) b) (equal? j i))

  pub first_that_lem : (i n : ℕ) → ((first_that test (numbers_from i n) ≡ 0) × NonePasses i n)
      ⊎ FirstPasses i n (first_that test (numbers_from i n))
  first_that_lem i zero = inl (refl, λ j h k. absurd (omega arith))
  first_that_lem i (suc n) = go (test i) refl (first_that_lem (suc i) n)
    where
      later : ℕ
      later = first_that test (numbers_from (suc i) n)

      go : (b : Bool) → test i ≡ b → ((later ≡ 0) × NonePasses (suc i) n) ⊎ FirstPasses (suc i) n later
          → ((cond b i later ≡ 0) × NonePasses i (suc n)) ⊎ FirstPasses i (suc n) (cond b i later)
      go true e w = inr (omega arith, omega arith, e, λ j h k. absurd (omega arith))
      go false e (inl w) = inl (w.0, none-behind i n e w.1)
      go false e (inr w) = inr (first-behind i n later e w)

  -- counted from 1 or more on it is 0 exactly if none passes
  pub first_none_iff : (i n : ℕ) → 1 ≤ i → (first_that test (numbers_from i n) ≡ 0) ↔ NonePasses i n
  first_none_iff i n one = (
    λ e. ⊎_elim (λ w. w.1) (λ w. let low = w.0 in absurd (omega arith)) (first_that_lem i n),
    λ f. ⊎_elim (λ w. w.0) (λ w. not-both w.2 (f _ w.0 w.1)) (first_that_lem i n),
  )

  -- and k exactly if k is the least that passes
  pub first_that_iff : (i n k : ℕ) → 1 ≤ i → (first_that test (numbers_from i n) ≡ k) × (k ≢ 0) ↔ FirstPasses i n k
  first_that_iff i n k one = (
    λ w. ⊎_elim (λ v. absurd (w.1 (sym w.0 ∙ v.0))) (λ v. subst (FirstPasses i n) w.0 v) (first_that_lem i n),
    λ v.
        let low = v.0 in (
          ⊎_elim (λ w. not-both v.2 (w.1 k v.0 v.1)) (λ w. least (first_that test (numbers_from i n)) w v)
              (first_that_lem i n),
          λ e. omega arith,
        ),
  )
    where
      least : (m : ℕ) → FirstPasses i n m → FirstPasses i n k → m ≡ k
      least m w v =
          ⊎_elim (λ e. e)
          (λ d. ⊎_elim (λ h. not-both w.2 (v.3 m w.0 h)) (λ h. not-both v.2 (w.3 k v.0 (omega arith)))
          (below? m k))
          (equal? m k)
