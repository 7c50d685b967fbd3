-- Laws of sets of small numbers as numbers.
-- Assumes nothing.
use mathlib.Core.Path.{◌≡◌, refl, sym, ap, ap₂, ◌∙◌, subst}
use mathlib.Core.Logic.{◌⊎◌, inl, inr}
use mathlib.Core.Bool.{Bool, true, false, ◌&&◌, ◌||◌, cond, true≢false, false≢true}
use mathlib.Core.Bool.{or-true, or-false, and-false}
use Prim.Native.Nat.{ℕ, zero, suc, ◌+◌, ◌*◌, ◌/◌, ◌%◌, ◌^◌, ◌<◌}
use native.Mathlib.Nat.{pow-suc, div-div-eq-div-mul, div-one, mod-lt, zero-lt-suc, div-lt_iff_lt-mul, zero-div}
use native.Mathlib.Nat.{div-eq_of_lt, mul-mod_left, mul-div-mul_right, mul_comm, one-mul, mod-eq_of_lt}
use native.Mathlib.Nat.{add_comm, add-zero}
use native.Mathlib.Numerals.{add-one}
use native.Mathlib.Omega.{arith}
use lib.Pow.{pow-lt}
use lib.Dec.{eqb, ltb, eqb-suc-suc, eqb-suc-zero, eqb-zero-suc}
use lib.Arith.{lt_of_le-ne}
use lib.Bits.{bit_and, bit_or, and_shr, and_mod, or_shr, or_mod, or_shifted_r}
use borrow.Author.Tests.{ltb-true, eqb-true, eqb-false, lt-ltb, le-ltb}
use Rattle.theory_spec.specs.Sets.{has, set_of}
use Rattle.theory_spec.proofs.ListLaws.{passes?, same_test, and_join}

-- ── Digits ───────────────────────────────────────────────────────────────────────────────────────

-- the digit above: halving first
lower : (m k : ℕ) → m / 2 ^ suc k ≡ m / 2 / 2 ^ k
lower m k = ap (λ x. m / x) (pow-suc 2 k ∙ mul_comm (2 ^ k) 2) ∙ sym (div-div-eq-div-mul m 2 (2 ^ k))

-- a digit is 0 or 1
bit? : (m : ℕ) → (m % 2 ≡ 0) ⊎ (m % 2 ≡ 1)
bit? m = go (m % 2) (mod-lt m (zero-lt-suc 1))
  where
    go : (d : ℕ) → d < 2 → (d ≡ 0) ⊎ (d ≡ 1)
    go zero h = inl refl
    go (suc zero) h = inr refl
    go (suc (suc d)) h = absurd (omega arith)

same_bit : (x y : ℕ) → (x ≡ 0) ⊎ (x ≡ 1) → (y ≡ 0) ⊎ (y ≡ 1) → eqb x 1 ≡ eqb y 1 → x ≡ y
same_bit x y (inl e) (inl f) h = e ∙ sym f
same_bit x y (inl e) (inr f) h = absurd (false≢true (ap (λ a. eqb a 1) (sym e) ∙ h ∙ ap (λ a. eqb a 1) f))
same_bit x y (inr e) (inl f) h = absurd (true≢false (ap (λ a. eqb a 1) (sym e) ∙ h ∙ ap (λ a. eqb a 1) f))
same_bit x y (inr e) (inr f) h = e ∙ sym f

half-below : (n m : ℕ) → m < 2 ^ suc n → m / 2 < 2 ^ n
half-below n m h = (div-lt_iff_lt-mul (zero-lt-suc 1)).1 (subst (λ x. m < x) (pow-suc 2 n) h)

-- a digit of a & b and of a | b
digit_and : (a b k : ℕ) → bit_and a b / 2 ^ k % 2 ≡ bit_and (a / 2 ^ k % 2) (b / 2 ^ k % 2)
digit_and a b k = ap (λ x. x % 2) (and_shr a b k) ∙ and_mod (a / 2 ^ k) (b / 2 ^ k) 1

digit_or : (a b k : ℕ) → bit_or a b / 2 ^ k % 2 ≡ bit_or (a / 2 ^ k % 2) (b / 2 ^ k % 2)
digit_or a b k = ap (λ x. x % 2) (or_shr a b k) ∙ or_mod (a / 2 ^ k) (b / 2 ^ k) 1

and_bits : (x y : ℕ) → (x ≡ 0) ⊎ (x ≡ 1) → (y ≡ 0) ⊎ (y ≡ 1) → eqb (bit_and x y) 1 ≡ (eqb x 1 && eqb y 1)
and_bits x y (inl e) f = rw e refl
and_bits x y (inr e) (inl f) = rw (e, f) refl
and_bits x y (inr e) (inr f) = rw (e, f) refl

or_bits : (x y : ℕ) → (x ≡ 0) ⊎ (x ≡ 1) → (y ≡ 0) ⊎ (y ≡ 1) → eqb (bit_or x y) 1 ≡ (eqb x 1 || eqb y 1)
or_bits x y (inl e) f = rw e refl
or_bits x y (inr e) (inl f) = rw (e, f) refl
or_bits x y (inr e) (inr f) = rw (e, f) refl

-- the members of both sets, and of either
pub has_and : (a b k : ℕ) → has (bit_and a b) k ≡ (has a k && has b k)
unfolding has
has_and a b k =
    ap (λ x. eqb x 1) (digit_and a b k)
    ∙ and_bits (a / 2 ^ k % 2) (b / 2 ^ k % 2) (bit? (a / 2 ^ k)) (bit? (b / 2 ^ k))

pub has_or : (a b k : ℕ) → has (bit_or a b) k ≡ (has a k || has b k)
unfolding has
has_or a b k =
    ap (λ x. eqb x 1) (digit_or a b k)
    ∙ or_bits (a / 2 ^ k % 2) (b / 2 ^ k % 2) (bit? (a / 2 ^ k)) (bit? (b / 2 ^ k))

-- the empty set has no member
pub has_none : (k : ℕ) → has 0 k ≡ false
unfolding has
has_none k = rw zero-div refl

-- the set of one number
pub has_own : (k j : ℕ) → has (2 ^ k) j ≡ eqb j k
unfolding has
has_own zero zero = refl
has_own zero (suc j) = rw (div-eq_of_lt (pow-lt {i = 0} {j = suc j} (omega arith))) (sym (eqb-suc-zero j))
has_own (suc k) zero =
    ap (λ x. eqb (x % 2) 1) (div-one (2 ^ suc k) ∙ pow-suc 2 k) ∙ rw mul-mod_left (sym (eqb-zero-suc k))
has_own (suc k) (suc j) =
    ap (λ x. eqb (x % 2) 1)
    (ap₂ (λ x y. x / y) (pow-suc 2 k) (pow-suc 2 j) ∙ mul-div-mul_right (2 ^ k) (2 ^ j) (zero-lt-suc 1))
    ∙ has_own k j
    ∙ sym (eqb-suc-suc j k)

-- two sets with the same members are the same number
pub sets_equal : (n a b : ℕ) → a < 2 ^ n → b < 2 ^ n → ((k : ℕ) → k < n → has a k ≡ has b k) → a ≡ b
unfolding has
sets_equal zero a b h l e = omega arith
sets_equal (suc n) a b h l e =
    let first : eqb (a % 2) 1 ≡ eqb (b % 2) 1 = rw (div-one a, div-one b) at (e 0 (omega arith)) in
    let rest : a / 2 ≡ b / 2 =
    sets_equal n (a / 2) (b / 2) (half-below n a h) (half-below n b l)
    (λ k i. ap (λ x. eqb (x % 2) 1) (sym (lower a k))
    ∙ e (suc k) (omega arith)
    ∙ ap (λ x. eqb (x % 2) 1) (lower b k)) in
    let low : a % 2 ≡ b % 2 = same_bit (a % 2) (b % 2) (bit? a) (bit? b) first in
    omega arith

-- the set of one number as a program makes it, `1 << k`
pub shifted_own : (n k : ℕ) → k < n → (1 * 2 ^ k) % 2 ^ n ≡ 2 ^ k
shifted_own n k h = ap (λ x. x % 2 ^ n) (one-mul (2 ^ k)) ∙ mod-eq_of_lt (pow-lt h)

-- ── Sets made by a program ───────────────────────────────────────────────────────────────────────

-- `m | (1 << k)`
pub has_with : (m k j : ℕ) → has (bit_or m (2 ^ k)) j ≡ (has m j || eqb j k)
has_with m k j = has_or m (2 ^ k) j ∙ ap (λ b. has m j || b) (has_own k j)

-- a number above all members
joined : (n m : ℕ) → m < 2 ^ n → bit_or m (2 ^ n) ≡ m + 2 ^ n
joined n m h =
    ap (bit_or m) (sym (one-mul (2 ^ n))) ∙ or_shifted_r 1 n m h ∙ ap (λ x. x + m) (one-mul (2 ^ n)) ∙ add_comm (2 ^ n) m

-- a loop over k that puts in each k that passes a test: before k, and one further
pub filled_none : (p : ℕ → Bool) (j : ℕ) → has 0 j ≡ (ltb j 0 && p j)
filled_none p j = has_none j ∙ ap (λ b. b && p j) (sym (le-ltb j 0 (omega arith)))

module _ (p : ℕ → Bool) (m k : ℕ) (so_far : (j : ℕ) → has m j ≡ (ltb j k && p j)) where
  beside : (j : ℕ) → (j ≡ k → ⊥) → ltb j k ≡ ltb j (k + 1)
  beside j ne =
      same_test (ltb j k) (ltb j (k + 1)) (λ e. lt-ltb j (k + 1) (omega (arith, ltb-true j k e)))
      (λ e. lt-ltb j k (lt_of_le-ne (omega (arith, ltb-true j (k + 1) e)) ne))

  at_once : ltb k (k + 1) ≡ true
  at_once = lt-ltb k (k + 1) (omega arith)

  pub filled_with : p k ≡ true → (j : ℕ) → has (bit_or m (2 ^ k)) j ≡ (ltb j (k + 1) && p j)
  filled_with h j = has_with m k j ∙ go (passes? (eqb j k))
    where
      go : (eqb j k ≡ true) ⊎ (eqb j k ≡ false) → (has m j || eqb j k) ≡ (ltb j (k + 1) && p j)
      go (inl e) =
          let f : j ≡ k = eqb-true j k e in
          ap (λ b. has m j || b) e
          ∙ or-true (has m j)
          ∙ sym (and_join (ap (λ x. ltb x (k + 1)) f ∙ at_once) (ap p f ∙ h))
      go (inr e) =
          ap (λ b. has m j || b) e
          ∙ or-false (has m j)
          ∙ so_far j
          ∙ ap (λ b. b && p j) (beside j (eqb-false j k e))

  pub filled_skip : p k ≡ false → (j : ℕ) → has m j ≡ (ltb j (k + 1) && p j)
  filled_skip h j = so_far j ∙ go (passes? (eqb j k))
    where
      go : (eqb j k ≡ true) ⊎ (eqb j k ≡ false) → (ltb j k && p j) ≡ (ltb j (k + 1) && p j)
      go (inl e) =
          let f : j ≡ k = eqb-true j k e in
          ap (λ b. ltb j k && b) (ap p f ∙ h)
          ∙ and-false (ltb j k)
          ∙ sym (ap (λ b. ltb j (k + 1) && b) (ap p f ∙ h) ∙ and-false (ltb j (k + 1)))
      go (inr e) = ap (λ b. b && p j) (beside j (eqb-false j k e))

-- ── The set of a test ────────────────────────────────────────────────────────────────────────────

-- it stands below 2 ^ n
pub set_of-below : (p : ℕ → Bool) (n : ℕ) → set_of p n < 2 ^ n
unfolding set_of
set_of-below p zero = omega arith
set_of-below p (suc n) = rw (pow-suc 2 n) (go (p n) (set_of-below p n))
  where
    go : (b : Bool) → set_of p n < 2 ^ n → set_of p n + cond b (2 ^ n) 0 < 2 ^ n * 2
    go true h = omega arith
    go false h = omega arith

-- its members are the numbers below n that pass
pub has-set_of : (p : ℕ → Bool) (n k : ℕ) → has (set_of p n) k ≡ (ltb k n && p k)
unfolding set_of
has-set_of p zero k = filled_none p k
has-set_of p (suc n) k = go (passes? (p n)) (λ j. has-set_of p n j) ∙ ap (λ m. ltb k m && p k) (add-one n)
  where
    go : (p n ≡ true) ⊎ (p n ≡ false) → ((j : ℕ) → has (set_of p n) j ≡ (ltb j n && p j))
        → has (set_of p n + cond (p n) (2 ^ n) 0) k ≡ (ltb k (n + 1) && p k)
    go (inl e) so_far =
        ap (λ m. has m k) (ap (λ b. set_of p n + cond b (2 ^ n) 0) e ∙ sym (joined n (set_of p n) (set_of-below p n)))
        ∙ filled_with p (set_of p n) n so_far e k
    go (inr e) so_far =
        ap (λ m. has m k) (ap (λ b. set_of p n + cond b (2 ^ n) 0) e ∙ add-zero (set_of p n))
        ∙ filled_skip p (set_of p n) n so_far e k

-- a set with these members is that set
pub set_of_lem : (p : ℕ → Bool) (n m : ℕ) → m < 2 ^ n → ((k : ℕ) → k < n → has m k ≡ p k) → m ≡ set_of p n
set_of_lem p n m h e =
    sets_equal n m (set_of p n) h (set_of-below p n)
    (λ k l. e k l ∙ sym (has-set_of p n k ∙ ap (λ b. b && p k) (lt-ltb k n l)))
