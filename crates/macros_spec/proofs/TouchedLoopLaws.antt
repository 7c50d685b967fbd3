-- The turns of the loops that make the sets of a sequence, and how the parts of the sets are put together.
-- Assumes nothing.
use mathlib.Core.Path.{◌≡◌, refl, sym, ap, ap₂, ◌∙◌}
use mathlib.Core.Bool.{Bool, true, false, not, cond, ◌&&◌, ◌||◌, and-false, or_assoc, or-false}
use mathlib.Core.Logic.{◌⊎◌, inl, inr}
use mathlib.Core.Option.{some, none}
use mathlib.Core.List.{List}
use Prim.Native.Nat.{ℕ, ◌+◌, ◌*◌, ◌-◌, ◌%◌, ◌^◌, ◌≤◌, ◌<◌}
use native.Mathlib.Nat.{lt_of_le_of_lt, mod-lt, zero-lt-suc}
use native.Mathlib.Omega.{arith}
use lib.Dec.{ltb, eqb}
use lib.Bits.{bit_and, bit_or, and_le_r, or_lt, or_zero_r}
use lib.Pow.{pow-lt}
use lib.ListN.{get_or}
use borrow.Author.Tests.{lt-ltb, le-ltb, eq-eqb, ne_eqb}
use Rattle.theory_spec.specs.Lists.{any, numbers_from}
use Rattle.theory_spec.specs.Sets.{has, set_of}
use Rattle.theory_spec.proofs.ListLaws.{and_join}
use Rattle.theory_spec.proofs.TestLaws.{equal?}
use Rattle.theory_spec.proofs.SetLaws.{has_and, has_or, has_none, has_own, has-set_of, set_of-below, set_of_lem, shifted_own}
use Rattle.theory_spec.proofs.SetLaws.{filled_with, filled_skip}
use Rattle.model_spec.proofs.LoopLaws.{left_more, left_none}
use Rattle.macros_spec.specs.Composition.{Lines, lines_of}
use Rattle.macros_spec.specs.Touched.{names, named_elsewhere, read_at, written_at}
use Rattle.macros_spec.specs.How.Touching.{touched_within}
use Rattle.macros_spec.specs.declared.Vectors.{Vectors}

-- ── A loop that puts in each place that passes a test ────────────────────────────────────────────

-- before place k: no place beyond the sixteen, and those before k that pass
abbrev pub Filled : (ℕ → Bool) → ℕ → ℕ → Type 0
Filled p m k = (k ≤ 16) × (m < 2 ^ 16) × ((j : ℕ) → has m j ≡ (ltb j k && p j))

module _ (p : ℕ → Bool) (m k : ℕ) (so_far : Filled p m k) (h : k < 16) where
  own_below : 2 ^ k < 2 ^ 16
  own_below = pow-lt h

  -- the place is put in, as `1 << k`; or it is not
  pub put_in : p k ≡ true → (next : ℕ) → next ≡ bit_or m ((1 * 2 ^ k) % 2 ^ 16) → Filled p next (k + 1)
  put_in e next n =
      let same : next ≡ bit_or m (2 ^ k) = n ∙ ap (bit_or m) (shifted_own 16 k h) in (
        omega arith,
        rw same (or_lt 16 m (2 ^ k) so_far.1 own_below),
        λ j. ap (λ x. has x j) same ∙ filled_with p m k so_far.2 e j,
      )

  pub left_out : p k ≡ false → (next : ℕ) → next ≡ m → Filled p next (k + 1)
  left_out e next n = (
    omega arith,
    rw n so_far.1,
    λ j. ap (λ x. has x j) n ∙ filled_skip p m k so_far.2 e j,
  )

  -- or either, by a set that has it or is empty
  pub put_or_not : (empty : Bool) → p k ≡ not empty → (added : ℕ) → added ≡ cond empty 0 (2 ^ k)
      → Filled p (bit_or m added) (k + 1)
  put_or_not true e added a = left_out e (bit_or m added) (ap (bit_or m) a ∙ or_zero_r m)
  put_or_not false e added a = put_in e (bit_or m added) (ap (bit_or m) (a ∙ sym (shifted_own 16 k h)))

  -- or either, by a test
  pub put_if : (test : Bool) → p k ≡ test → (next : ℕ) → next ≡ cond test (bit_or m ((1 * 2 ^ k) % 2 ^ 16)) m
      → Filled p next (k + 1)
  put_if true e next n = put_in e next n
  put_if false e next n = left_out e next n

-- after the last place
pub filled : (p : ℕ → Bool) (m k : ℕ) → Filled p m k → 16 ≤ k → m ≡ set_of p 16
filled p m k w h =
    set_of_lem p 16 m w.1 (λ j l. w.2 j ∙ ap (λ b. b && p j) (lt-ltb j k (omega arith)))

-- ── The position that an entry names, as a set ───────────────────────────────────────────────────

-- what one entry at place k adds: at most the position that it names
abbrev pub Adds : (entry k added : ℕ) → Type 0
Adds entry k added = (added < 2 ^ 16) × ((i : ℕ) → has added i ≡ (not (eqb k i) && names entry i))

module _ (entry k : ℕ) where
  -- a constant
  pub constant_adds : entry < 16 → Adds entry k 0
  constant_adds h = (omega arith, λ i. has_none i ∙ sym (unnamed i))
    where
      unnamed : (i : ℕ) → (not (eqb k i) && names entry i) ≡ false
      unnamed i =
          ap (λ b. not (eqb k i) && (not b && eqb (entry % 16) i)) (lt-ltb entry 16 h) ∙ and-false (not (eqb k i))

  -- the variable of its own place
  pub own_adds : entry % 16 ≡ k → Adds entry k 0
  own_adds e = (omega arith, λ i. has_none i ∙ sym (unnamed i))
    where
      never : (a b : Bool) → (not a && (b && a)) ≡ false
      never true b = refl
      never false b = and-false b

      unnamed : (i : ℕ) → (not (eqb k i) && names entry i) ≡ false
      unnamed i =
          ap (λ x. not (eqb k i) && (not (ltb entry 16) && eqb x i)) e ∙ never (eqb k i) (not (ltb entry 16))

  -- another's
  pub other_adds : 16 ≤ entry → (entry % 16 ≡ k → ⊥) → Adds entry k ((1 * 2 ^ (entry % 16)) % 2 ^ 16)
  other_adds h ne = (
    rw same (pow-lt low),
    λ i. ap (λ x. has x i) same ∙ has_own (entry % 16) i ∙ named i (equal? i (entry % 16)),
  )
    where
      low : entry % 16 < 16
      low = mod-lt entry (zero-lt-suc 15)

      same : (1 * 2 ^ (entry % 16)) % 2 ^ 16 ≡ 2 ^ (entry % 16)
      same = shifted_own 16 (entry % 16) low

      variable : not (ltb entry 16) ≡ true
      variable = ap not (le-ltb entry 16 h)

      named : (i : ℕ) → (i ≡ entry % 16) ⊎ (i ≡ entry % 16 → ⊥)
          → eqb i (entry % 16) ≡ (not (eqb k i) && names entry i)
      named i (inl e) =
          let other : not (eqb k i) ≡ true = ap not (ne_eqb k i (λ d. ne (sym (d ∙ e)))) in
          eq-eqb i (entry % 16) e ∙ sym (and_join other (and_join variable (eq-eqb (entry % 16) i (sym e))))
      named i (inr d) =
          let unnamed : names entry i ≡ false =
          ap (λ b. not (ltb entry 16) && b) (ne_eqb (entry % 16) i (λ e. d (sym e))) ∙ and-false (not (ltb entry 16)) in
          ne_eqb i (entry % 16) d ∙ sym (ap (λ b. not (eqb k i) && b) unnamed ∙ and-false (not (eqb k i)))

-- ── The positions that the entries of a line name from other places ──────────────────────────────

-- the entry at place j names position i + 1 from another place
abbrev names_from : List ℕ → ℕ → ℕ → Bool
names_from line i j = not (eqb j i) && names (get_or line j 0) i

-- before place k: these are named so far or by what is left
abbrev pub Named : List ℕ → ℕ → ℕ → Type 0
Named line m k =
    (k ≤ 16)
    × (m < 2 ^ 16)
    × ((i : ℕ) → (has m i || any (names_from line i) (numbers_from k (16 - k))) ≡ named_elsewhere line i)

module _ (line : List ℕ) where
  pub named_none : Named line 0 0
  unfolding named_elsewhere
  named_none = (omega arith, omega arith, λ i. ap (λ b. b || any (names_from line i) (numbers_from 0 16)) (has_none i))

  pub named_more : (m k added : ℕ) → Named line m k → k < 16 → Adds (get_or line k 0) k added
      → Named line (bit_or m added) (k + 1)
  named_more m k added w h a = (
    omega arith,
    or_lt 16 m added w.1 a.0,
    λ i.
        let test : ℕ → Bool = names_from line i in
        let rest = any test (numbers_from (k + 1) (16 - (k + 1))) in
        ap (λ b. b || rest) (has_or m added i ∙ ap (λ b. has m i || b) (a.1 i))
        ∙ or_assoc (has m i) (test k) rest
        ∙ ap (λ l. has m i || any test l) (sym (left_more k 16 h))
        ∙ w.2 i,
  )

  pub named_all : (m k : ℕ) → Named line m k → 16 ≤ k → m ≡ set_of (named_elsewhere line) 16
  named_all m k w h =
      set_of_lem (named_elsewhere line) 16 m w.1
      (λ i l. sym (ap (λ q. has m i || any (names_from line i) q) (left_none k 16 h) ∙ or-false (has m i)) ∙ w.2 i)

-- ── Both sets, from their parts ──────────────────────────────────────────────────────────────────

module _ (wide : ℕ) where
  -- those of a set that pass a test
  among : (p : ℕ → Bool) (m : ℕ) → m < 2 ^ 16 → ((i : ℕ) → i < 16 → has m i ≡ p i)
      → bit_and wide m ≡ set_of (λ i. has wide i && p i) 16
  among p m h e =
      set_of_lem (λ i. has wide i && p i) 16 (bit_and wide m) (lt_of_le_of_lt (and_le_r wide m) h)
      (λ i l. has_and wide m i ∙ ap (λ b. has wide i && b) (e i l))

  member : (p : ℕ → Bool) (i : ℕ) → i < 16 → has (set_of p 16) i ≡ p i
  member p i l = has-set_of p 16 i ∙ ap (λ b. b && p i) (lt-ltb i 16 l)

  pub written_among : (m : Lines) → bit_and wide (set_of (written_at m) 16) ≡ set_of (λ i. has wide i && written_at m i) 16
  written_among m = among (written_at m) (set_of (written_at m) 16) (set_of-below (written_at m) 16) (member (written_at m))

  pub read_among : (m : Lines)
      → bit_and wide (bit_or (set_of (λ i. not (names (get_or m.condition i 0) i)) 16)
      (bit_or (set_of (named_elsewhere m.condition) 16) (set_of (named_elsewhere m.effect) 16)))
      ≡ set_of (λ i. has wide i && read_at m i) 16
  unfolding read_at
  read_among m =
      let asked : ℕ → Bool = λ i. not (names (get_or m.condition i 0) i) in
      let first = named_elsewhere m.condition in
      let last = named_elsewhere m.effect in
      let named = bit_or (set_of first 16) (set_of last 16) in
      among (read_at m) (bit_or (set_of asked 16) named)
      (or_lt 16 (set_of asked 16) named (set_of-below asked 16)
      (or_lt 16 (set_of first 16) (set_of last 16) (set_of-below first 16) (set_of-below last 16)))
      (λ i l.
      has_or (set_of asked 16) named i
      ∙ ap₂ (λ a b. a || b) (member asked i l)
      (has_or (set_of first 16) (set_of last 16) i ∙ ap₂ (λ a b. a || b) (member first i l) (member last i l)))

-- what the code gives for vectors
module _ (wide : ℕ) (v : Vectors) where
  abbrev lines : Lines
  lines = record { condition = v.condition; effect = v.effect }

  pub touched_none : v.admitted ≡ false → record { reads = 0; writes = 0 } ≡ touched_within wide (lines_of v)
  unfolding touched_within
  touched_none e = sym (ap (λ b. touched_within wide (cond b (some lines) none)) e)

  pub touched_parts : v.admitted ≡ true → (asked named written : ℕ)
      → asked ≡ set_of (λ i. not (names (get_or v.condition i 0) i)) 16
      → named ≡ bit_or (set_of (named_elsewhere v.condition) 16) (set_of (named_elsewhere v.effect) 16)
      → written ≡ set_of (λ i. not (eqb (get_or v.condition i 0) (get_or v.effect i 0))) 16
      → record { reads = bit_and wide (bit_or asked named); writes = bit_and wide written }
      ≡ touched_within wide (lines_of v)
  unfolding touched_within written_at
  touched_parts admitted asked named written a n w =
      let reads = ap₂ (λ x y. bit_and wide (bit_or x y)) a n ∙ read_among wide lines in
      let writes = ap (bit_and wide) w ∙ written_among wide lines in
      let given = touched_within wide (some lines) in
      let both : record { reads = bit_and wide (bit_or asked named); writes = bit_and wide written } ≡ given =
      λ j. record { reads = reads j; writes = writes j } in
      both ∙ sym (ap (λ b. touched_within wide (cond b (some lines) none)) admitted)
