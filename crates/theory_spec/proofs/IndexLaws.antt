-- A sequence's index by arithmetic is its place in `sequences`, and the sequence that an index gives back is the one at
-- that place.
-- Assumes nothing.
use mathlib.Core.Path.{◌≡◌, refl, sym, ap, ap₂, ◌∙◌, subst, fun_ext}
use mathlib.Core.List.{List, [], ◌∷◌, ◌++◌, map, map-append, append-nil}
use mathlib.Core.List.Memᴰ
use Prim.Native.Nat.{ℕ, zero, suc, ◌+◌, ◌*◌, ◌/◌, ◌%◌, ◌≤◌, ◌<◌}
use native.Mathlib.Nat.{zero-add, add-zero, add-suc, suc-add, zero-mul, add-mul, suc-mul, mul-add-div_right}
use native.Mathlib.Nat.{div-eq_of_lt, mul-add-mod_self_right, mod-eq_of_lt}
use native.Mathlib.Numerals.{add-one}
use native.Mathlib.Omega.{arith}
use lib.ListN.{length, get_or, take, length-map, length-take, get_or-map}
use lib.Seq.{take-suc, take-length}
use Rattle.theory_spec.specs.Lists.{◌∈◌, flat, numbers_from}
use Rattle.theory_spec.specs.Sequences.{Sequence, Numbered, numbers, with_first, level, sequences}
use Rattle.theory_spec.specs.How.Indices.{index_from, index_of, level_start, level_count, sequence_of}
use Rattle.theory_spec.proofs.ListLaws.{flat-same, flat_map, flat-flat, flat_one, map-flat, map_of-map, in_get_d}
use Rattle.theory_spec.proofs.ListLaws.{length-numbers_from}
use Rattle.theory_spec.proofs.SequenceLaws.{numbered_left, numbered-right, of-sequences, in-sequences}

-- ── A level from the one before it, by a last rule ───────────────────────────────────────────────

-- each of the rules 1 to m behind a sequence
abbrev pub behind : ℕ → Sequence → List Sequence
behind m q = map (λ r. q ++ (r ∷ [])) (numbers m)

pub level_snoc : (m n : ℕ) → level m (suc n) ≡ flat (behind m) (level m n)
level_snoc m zero = flat_one (λ r. r ∷ []) (numbers m) ∙ sym (append-nil (map (λ r. r ∷ []) (numbers m)))
level_snoc m (suc n) =
    ap (λ l. flat (with_first l) (numbers m)) (level_snoc m n)
    ∙ flat-same (with_first (flat (behind m) (level m n))) (λ r. flat (behind m) (with_first (level m n) r)) (numbers m)
    (λ r d. swap r)
    ∙ sym (flat-flat (behind m) (with_first (level m n)) (numbers m))
  where
    swap : (r : ℕ) → with_first (flat (behind m) (level m n)) r ≡ flat (behind m) (with_first (level m n) r)
    swap r =
        map-flat (λ (q : Sequence). r ∷ q) (behind m) (level m n)
        ∙ flat-same (λ q. with_first (behind m q) r) (λ q. behind m (r ∷ q)) (level m n)
        (λ q d. map_of-map (λ (w : Sequence). r ∷ w) (λ p. q ++ (p ∷ [])) (numbers m))
        ∙ sym (flat_map (behind m) (λ (q : Sequence). r ∷ q) (level m n))

-- ── The places of a level are neighbours ─────────────────────────────────────────────────────────

-- the index of one rule is its number
pub index_one : (m r : ℕ) → index_of m (r ∷ []) ≡ r
index_one m r = omega arith

-- the index with one more rule behind the sequence
pub index_snoc : (m i : ℕ) (q : Sequence) (r : ℕ) → index_from m i (q ++ (r ∷ [])) ≡ index_from m i q * m + r
index_snoc m i [] r = refl
index_snoc m i (p ∷ q) r = index_snoc m (i * m + p) q r

numbers_from-append : (i k l : ℕ) → numbers_from i k ++ numbers_from (i + k) l ≡ numbers_from i (k + l)
numbers_from-append i zero l = ap₂ numbers_from (add-zero i) (sym (zero-add l))
numbers_from-append i (suc k) l =
    ap {B =
    List ℕ} (λ r. i ∷ r) (ap (λ j. numbers_from (suc i) k ++ numbers_from j l) (add-suc i k ∙ sym (suc-add i k))
    ∙ numbers_from-append (suc i) k l)
    ∙ ap (numbers_from i) (sym (suc-add k l))

numbers_from_shift : (i k n : ℕ) → map (λ r. i + r) (numbers_from k n) ≡ numbers_from (i + k) n
numbers_from_shift i k zero = refl
numbers_from_shift i k (suc n) =
    ap {B = List ℕ} (λ r. (i + k) ∷ r) (numbers_from_shift i (suc k) n ∙ ap (λ j. numbers_from j n) (add-suc i k))

first_next : (m n : ℕ) → level_start m (suc n) ≡ level_start m n + level_count m n
first_next m zero = omega (arith, zero-mul m)
first_next m (suc n) = omega (arith, ap (λ x. x * m) (first_next m n), add-mul (level_start m n) (level_count m n) m)

-- the m places from i · m + 1 on, for each i of a run of neighbours
spread : (m a k : ℕ) → flat (λ i. numbers_from (i * m + 1) m) (numbers_from a k) ≡ numbers_from (a * m + 1) (k * m)
spread m a zero = ap (numbers_from (a * m + 1)) (sym (zero-mul m))
spread m a (suc k) =
    let e : suc a * m + 1 ≡ a * m + 1 + m = omega (arith, suc-mul a m) in
    let f : m + k * m ≡ suc k * m = omega (arith, suc-mul k m) in
    ap (λ l. numbers_from (a * m + 1) m ++ l) (spread m (suc a) k ∙ ap (λ j. numbers_from j (k * m)) e)
    ∙ numbers_from-append (a * m + 1) m (k * m)
    ∙ ap (numbers_from (a * m + 1)) f

behind_indices : (m : ℕ) (q : Sequence) → map (index_of m) (behind m q) ≡ numbers_from (index_of m q * m + 1) m
behind_indices m q =
    map_of-map (index_of m) (λ r. q ++ (r ∷ [])) (numbers m)
    ∙ ap (λ (f : ℕ → ℕ). map f (numbers m)) (fun_ext (λ r. index_snoc m 0 q r))
    ∙ numbers_from_shift (index_of m q * m) 1 m

pub level_indices : (m n : ℕ) → map (index_of m) (level m n) ≡ numbers_from (level_start m n) (level_count m n)
level_indices m zero = refl
level_indices m (suc n) =
    ap (map (index_of m)) (level_snoc m n)
    ∙ map-flat (index_of m) (behind m) (level m n)
    ∙ flat-same (λ q. map (index_of m) (behind m q)) (λ q. numbers_from (index_of m q * m + 1) m) (level m n)
    (λ q d. behind_indices m q)
    ∙ sym (flat_map (λ i. numbers_from (i * m + 1) m) (index_of m) (level m n))
    ∙ ap (flat (λ i. numbers_from (i * m + 1) m)) (level_indices m n)
    ∙ spread m (level_start m n) (level_count m n)

-- ── The places of `sequences` are 0, 1, 2 and so on ──────────────────────────────────────────────

pub sequences_all : (m n : ℕ) → map (index_of m) (sequences m n) ≡ numbers_from 0 (level_start m (suc n))
sequences_all m zero = ap (numbers_from 0) (sym (first_next m zero))
sequences_all m (suc n) =
    map-append (index_of m) (sequences m n) (level m (suc n))
    ∙ ap₂ ◌++◌ (sequences_all m n) (level_indices m (suc n))
    ∙ ap (λ j. numbers_from 0 (level_start m (suc n)) ++ numbers_from j (level_count m (suc n)))
    (sym (zero-add (level_start m (suc n))))
    ∙ numbers_from-append 0 (level_start m (suc n)) (level_count m (suc n))
    ∙ ap (numbers_from 0) (sym (first_next m (suc n)))

-- how many sequences there are
pub sequences_count : (m n : ℕ) → length (sequences m n) ≡ level_start m (suc n)
sequences_count m n =
    sym (length-map (sequences m n) (index_of m)) ∙ ap length (sequences_all m n)
    ∙ length-numbers_from 0 (level_start m (suc n))

get_d-numbers_from : (k n i : ℕ) → i < n → get_or (numbers_from k n) i 0 ≡ k + i
get_d-numbers_from k zero i h = absurd (omega arith)
get_d-numbers_from k (suc n) zero h = sym (add-zero k)
get_d-numbers_from k (suc n) (suc i) h = get_d-numbers_from (suc k) n i (omega arith) ∙ suc-add k i ∙ sym (add-suc k i)

-- the index by arithmetic of the sequence at a place is that place
pub index_of-place : (m n i : ℕ) → i < length (sequences m n) → index_of m (get_or (sequences m n) i []) ≡ i
index_of-place m n i h =
    sym (get_or-map (index_of m) (sequences m n) i [])
    ∙ ap (λ l. get_or l i 0) (sequences_all m n)
    ∙ get_d-numbers_from 0 (level_start m (suc n)) i (omega (arith, sequences_count m n))
    ∙ zero-add i

place_of_lem : (l : List Sequence) {q : Sequence} → q ∈ l → (i : ℕ) × (i < length l) × (get_or l i [] ≡ q)
place_of_lem [] d = elim d [ ]
place_of_lem (x ∷ xs) (Memᴰ.head e) = (0, omega arith, sym e)
place_of_lem (x ∷ xs) (Memᴰ.tail d) = let w = place_of_lem xs d in (suc w.0, omega (arith, w.1), w.2)

-- a sequence stands in `sequences` at its place
pub index_at : (m n : ℕ) (q : Sequence) → length q ≤ n → Numbered m q → (index_of m q < length (sequences m n))
    × (get_or (sequences m n) (index_of m q) [] ≡ q)
index_at m n q h k =
    let w = place_of_lem (sequences m n) (in-sequences m n q h k) in
    let e : index_of m q ≡ w.0 = ap (index_of m) (sym w.2) ∙ index_of-place m n w.0 w.1 in
    (subst (λ j. j < length (sequences m n)) (sym e) w.1, ap (λ j. get_or (sequences m n) j []) e ∙ w.2)

-- ── Back from the index to the sequence ──────────────────────────────────────────────────────────

-- a last rule stands apart: it is the remainder, and 1; the index of the rules before it is the quotient
sequence_snoc : (m k i r : ℕ) → 1 ≤ r → r ≤ m → sequence_of m (suc k) (i * m + r) ≡ sequence_of m k i ++ (r ∷ [])
sequence_snoc m k i zero h l = absurd (omega arith)
sequence_snoc m k i (suc r) h l =
    ap (sequence_of m (suc k)) (add-suc (i * m) r) ∙ ap₂ (λ j n. sequence_of m k j ++ (n ∷ [])) quotient remainder
  where
    quotient : (i * m + r) / m ≡ i
    quotient = mul-add-div_right {m = m} (omega arith) i r ∙ ap (λ n. i + n) (div-eq_of_lt l) ∙ add-zero i

    remainder : (i * m + r) % m + 1 ≡ suc r
    remainder = ap (λ n. n + 1) (mul-add-mod_self_right i m r ∙ mod-eq_of_lt l) ∙ add-one r

sequence_of-index : (m k : ℕ) (q : Sequence) → length q ≤ k → Numbered m q → sequence_of m k (index_of m q) ≡ q
sequence_of-index m zero [] h n = refl
sequence_of-index m zero (r ∷ q) h n = absurd (omega arith)
sequence_of-index m (suc k) [] h n = refl
sequence_of-index m (suc k) (r ∷ q) h n =
    ap (λ w. sequence_of m (suc k) (index_of m w)) cut
    ∙ ap (sequence_of m (suc k)) (index_snoc m 0 front end)
    ∙ sequence_snoc m k (index_of m front) end last.0 last.1
    ∙ ap (λ w. w ++ (end ∷ [])) (sequence_of-index m k front (omega (arith, length-take (length q) (r ∷ q)))
    (numbered_left m front (end ∷ []) numbered))
    ∙ sym cut
  where
    front : Sequence
    front = take (length q) (r ∷ q)

    end : ℕ
    end = get_or (r ∷ q) (length q) 0

    cut : r ∷ q ≡ front ++ (end ∷ [])
    cut = sym (take-length (r ∷ q)) ∙ take-suc (r ∷ q) (length q) 0 (omega arith)

    numbered : Numbered m (front ++ (end ∷ []))
    numbered = subst (Numbered m) cut n

    last : Numbered m (end ∷ [])
    last = numbered-right m front (end ∷ []) numbered

-- the sequence that the index gives back is the one at its place
pub sequence_at_lem : (m n k i : ℕ) → n ≤ k → i < length (sequences m n) → sequence_of m k i ≡ get_or (sequences m n) i []
sequence_at_lem m n k i h l =
    let w = of-sequences m n (in_get_d (sequences m n) i [] l) in
    ap (sequence_of m k) (sym (index_of-place m n i l))
    ∙ sequence_of-index m k (get_or (sequences m n) i []) (omega (arith, w.0)) w.1
