-- The look-up holds what the marks of a table say: at the index of the last rules of a sequence, whether one of its
-- short suffixes is marked.
-- With it, what the functions of the look-up need: the sequence of an index without its first rule, the turns of the
-- loop that fills the look-up, and the index of the last rules.
-- Assumes nothing.
use mathlib.Core.Path.{◌≡◌, refl, sym, ap, ap₂, ◌∙◌, subst}
use mathlib.Core.Logic.{◌⊎◌, inl, inr, ◌≢◌, ⊎_elim}
use mathlib.Core.Bool.{Bool, true, false, not, cond, ◌&&◌, ◌||◌}
use mathlib.Core.List.{List, [], ◌∷◌, ◌++◌}
use Prim.Native.Nat.{ℕ, zero, suc, ◌+◌, ◌*◌, ◌-◌, ◌/◌, ◌%◌, ◌≤◌, ◌<◌, min}
use native.Mathlib.Nat.{div-eq_of_lt, div-add-mod', le-div_iff_mul-le, mul-le-mul, mul-le-mul_right}
use native.Mathlib.Omega.{arith}
use lib.Dec.{eqb, ltb}
use lib.ListN.{length, get_or, set, take, drop, replicate, length-append, length-drop, take-append-drop}
use lib.Seq.{drop-append-le, drop-nil, drop-length, take_all, take-suc, get_or-set_same, get_or-set_other}
use borrow.Author.Tests.{le-leb, lt-leb, lt-ltb, le-ltb}
use Rattle.theory_spec.specs.Lists.{any, keep_if}
use Rattle.theory_spec.specs.Sequences.{Sequence, Numbered, sequences}
use Rattle.theory_spec.specs.How.Indices.{index_of, sequence_of}
use Rattle.theory_spec.specs.How.Recursion.{last, suffixes, short_suffixes}
use Rattle.theory_spec.proofs.ListLaws.{zeros_at, in_get_d}
use Rattle.theory_spec.proofs.TestLaws.{below?}
use Rattle.theory_spec.proofs.SequenceLaws.{numbered-right, of-sequences}
use Rattle.theory_spec.proofs.IndexLaws.{index_one, index_snoc, index_at, sequence_at_lem, index_of-place}
use Rattle.model_spec.specs.declared.RuleSet.{RuleSet}
use Rattle.tables_spec.specs.Table.{sequence_count, table_entries, kept, entry_at, marked}
use Rattle.tables_spec.proofs.CountLaws.{count-sequences, count_next}
use Rattle.tables_spec.proofs.TableLaws.{mark-index}
use Rattle.search_laws.specs.How.Lookup.{marked_at, suffix_marked, LooksUp}

-- ── The last rules ───────────────────────────────────────────────────────────────────────────────

-- with one more rule behind the sequence
last_snoc : (n : ℕ) (q : Sequence) (r : ℕ) → last (suc n) (q ++ (r ∷ [])) ≡ last n q ++ (r ∷ [])
last_snoc n q r =
    let e : length (q ++ (r ∷ [])) - suc n ≡ length q - n = omega (arith, length-append q (r ∷ [])) in
    ap (λ k. drop k (q ++ (r ∷ []))) e ∙ drop-append-le (length q - n) q (r ∷ []) (omega arith)

-- their index, from that of one rule less
pub last-place : (m n : ℕ) (q : Sequence) (r : ℕ)
    → index_of m (last (suc n) (q ++ (r ∷ []))) ≡ index_of m (last n q) * m + r
last-place m n q r = ap (index_of m) (last_snoc n q r) ∙ index_snoc m 0 (last n q) r

-- they are at most so many
last-length : (n : ℕ) (q : Sequence) → length (last n q) ≤ n
last-length n q = omega (arith, length-drop (length q - n) q)

-- they are rules of the set
last_numbered : (m n : ℕ) (q : Sequence) → Numbered m q → Numbered m (last n q)
last_numbered m n q k =
    numbered-right m (take (length q - n) q) (last n q) (subst (Numbered m) (sym (take-append-drop (length q - n) q)) k)

-- a sequence that is not longer is the last rules of itself
last_all : (n : ℕ) (q : Sequence) → length q ≤ n → last n q ≡ q
last_all n q h = let e : length q - n ≡ 0 = omega arith in ap (λ k. drop k q) e

-- their suffixes are the short suffixes of the sequence
last-suffixes : (n : ℕ) (q : Sequence) → suffixes (last n q) ≡ short_suffixes n q
last-suffixes n [] = ap suffixes (drop-nil (0 - n))
last-suffixes n (r ∷ q) = go (below? n (suc (length q))) (last-suffixes n q)
  where
    go : (n < suc (length q)) ⊎ (suc (length q) ≤ n) → suffixes (last n q) ≡ short_suffixes n q
        → suffixes (last n (r ∷ q)) ≡ short_suffixes n (r ∷ q)
    go (inl h) e =
        let one : suc (length q) - n ≡ suc (length q - n) = omega arith in
        ap (λ k. suffixes (drop k (r ∷ q))) one ∙ e
        ∙ sym (ap (λ b. keep_if b (r ∷ q) (short_suffixes n q)) (lt-leb (suc (length q)) n h))
    go (inr h) e =
        ap suffixes (last_all n (r ∷ q) h)
        ∙ ap {B = List Sequence} (λ l. (r ∷ q) ∷ l) (ap suffixes (sym (last_all n q (omega arith))) ∙ e)
        ∙ sym (ap (λ b. keep_if b (r ∷ q) (short_suffixes n q)) (le-leb (suc (length q)) n h))

-- ── The marks ────────────────────────────────────────────────────────────────────────────────────

module _ (set : RuleSet) (reach : ℕ) (table : List ℕ) where
  -- a sequence of at most `reach` rules of the set is marked exactly if the entry at its index is a mark
  mark_at : (q : Sequence) → length q ≤ reach → Numbered set.count q
      → marked_at set.count table q ≡ marked set reach table q
  unfolding marked_at
  mark_at q h k = sym (mark-index set reach table q h k)

  -- so with its suffixes
  suffix-marks : (q : Sequence) → length q ≤ reach → Numbered set.count q
      → suffix_marked set.count table q ≡ any (marked set reach table) (suffixes q)
  unfolding suffix_marked
  suffix-marks [] h k = refl
  suffix-marks (r ∷ q) h k = ap₂ ◌||◌ (mark_at (r ∷ q) h k) (suffix-marks q (omega arith) k.2)

-- the index of a sequence of at most three rules gives it back
sequence_back : (m reach : ℕ) (q : Sequence) → reach ≤ 3 → length q ≤ reach → Numbered m q
    → sequence_of m 3 (index_of m q) ≡ q
sequence_back m reach q near h k =
    let place = index_at m reach q h k in sequence_at_lem m reach 3 (index_of m q) near place.0 ∙ place.1

zero-mark : (b : Bool) → eqb (cond b 1 0) 0 ≡ not b
zero-mark true = refl
zero-mark false = refl

-- the look-up at the index of the last `reach` rules of a sequence is zero exactly if none of its suffixes of at most
-- `reach` rules is marked
pub look_up-marks : (set : RuleSet) (reach : ℕ) (table blocked : List ℕ) → reach ≤ 3
    → length table ≡ 2 * table_entries set reach
    → LooksUp set.count table blocked → (q : Sequence) → Numbered set.count q
    → eqb (get_or blocked (index_of set.count (last reach q)) 0) 0
    ≡ not (any (marked set reach table) (short_suffixes reach q))
unfolding table_entries
look_up-marks set reach table blocked near size looks q k =
    ap (λ n. eqb n 0) (looks (index_of m l) ∙ ap₂ (λ a w. cond (a && suffix_marked m table w) 1 0)
    (lt-ltb (index_of m l) _ fits) (sequence_back m reach l near short numbered))
    ∙ zero-mark (suffix_marked m table l)
    ∙ ap not (suffix-marks set reach table l short numbered ∙ ap (any (marked set reach table)) (last-suffixes reach q))
  where
    m : ℕ
    m = set.count

    l : Sequence
    l = last reach q

    short : length l ≤ reach
    short = last-length reach q

    numbered : Numbered m l
    numbered = last_numbered m reach q k

    fits : index_of m l < min (length table / 2) (sequence_count m 3)
    fits =
        let inside = (index_at m reach l short numbered).0 in
        let near-inside = (index_at m 3 l (omega (arith, short)) numbered).0 in
        omega (arith, inside, near-inside, count-sequences m reach, count-sequences m 3, size)

-- ── A sequence without its first rule ────────────────────────────────────────────────────────────

-- of one rule, none is left
pub tail_none : (m i : ℕ) → 1 ≤ i → (i - 1) / m ≡ 0 → (0 ≡ index_of m (drop 1 (sequence_of m 3 i))) × (0 < i)
tail_none m zero h e = absurd (omega arith)
tail_none m (suc k) h e =
    let same : suc k - 1 ≡ k = omega arith in
    (sym (ap (λ b. index_of m (drop 1 (sequence_of m 2 b ++ ((k % m + 1) ∷ [])))) (rw same at e)), h)

-- of two rules, the second
pub tail_one : (m i : ℕ) → 1 ≤ i → (i - 1) / m ≢ 0 → (i - 1) / m ≤ m
    → ((i - 1) % m + 1 ≡ index_of m (drop 1 (sequence_of m 3 i))) × ((i - 1) % m + 1 < i)
tail_one m zero h some few = absurd (omega arith)
tail_one m (suc k) h some few =
    let same : suc k - 1 ≡ k = omega arith in rw same (go (k / m) refl (rw same at some) (rw same at few))
  where
    go : (b : ℕ) → k / m ≡ b → b ≢ 0 → b ≤ m → (k % m + 1 ≡ index_of m (drop 1 (sequence_of m 2 b ++ ((k % m + 1) ∷ []))))
        × (k % m + 1 < suc k)
    go zero e n l = absurd (n refl)
    go (suc j) e n l = (
      sym (ap (λ b. index_of m (drop 1 ((sequence_of m 1 b ++ ((j % m + 1) ∷ [])) ++ ((k % m + 1) ∷ []))))
          (div-eq_of_lt l) ∙ index_one m (k % m + 1)),
      omega (arith, div-add-mod' k m, ap (λ b. b * m) e),
    )

-- of three rules, the second and the third
pub tail_two : (m i : ℕ) → 1 ≤ m → 1 ≤ i → m < (i - 1) / m
    → ((((i - 1) / m - 1) % m + 1) * m + ((i - 1) % m + 1) ≡ index_of m (drop 1 (sequence_of m 3 i)))
    × ((((i - 1) / m - 1) % m + 1) * m + ((i - 1) % m + 1) < i)
tail_two m zero some h many = absurd (omega arith)
tail_two m (suc k) some h many = let same : suc k - 1 ≡ k = omega arith in rw same (go (k / m) refl (rw same at many))
  where
    newest : ℕ
    newest = k % m + 1

    behind : (n y : ℕ) → 1 ≤ n → drop 1 ((sequence_of m 1 n ++ (y ∷ [])) ++ (newest ∷ [])) ≡ y ∷ newest ∷ []
    behind zero y l = absurd (omega arith)
    behind (suc n) y l = refl

    go : (b : ℕ) → k / m ≡ b → m < b → (((b - 1) % m + 1) * m + newest
        ≡ index_of m (drop 1 (sequence_of m 2 b ++ (newest ∷ [])))) × (((b - 1) % m + 1) * m + newest < suc k)
    go zero e l = absurd (omega arith)
    go (suc j) e l =
        let same : suc j - 1 ≡ j = omega arith in
        let first : 1 ≤ j / m = (le-div_iff_mul-le {k = m} {x = 1} {y = j} some).1 (omega arith) in
        let smaller : suc (j % m + 1) ≤ suc j = omega (arith, div-add-mod' j m, mul-le-mul_right m first) in
        rw same (
          sym (ap (index_of m) (behind (j / m) (j % m + 1) first) ∙ ap (λ i. i * m + newest) (index_one m (j % m + 1))),
          omega (arith, div-add-mod' k m, ap (λ b. b * m) e, mul-le-mul_right m smaller),
        )

-- ── The turns of the loop that fills the look-up ─────────────────────────────────────────────────

-- the look-up holds the first n places
abbrev pub LooksUpTo : ℕ → List ℕ → List ℕ → ℕ → Type 0
LooksUpTo m table blocked n = (i : ℕ) → i < n → get_or blocked i 0 ≡ cond (suffix_marked m table (sequence_of m 3 i)) 1 0

-- and only zeros from there on, and from a number on
abbrev pub BlankFrom : List ℕ → ℕ → ℕ → Type 0
BlankFrom blocked n end = (i : ℕ) → min n end ≤ i → get_or blocked i 0 ≡ 0

-- the first place of a blank look-up holds what it should
pub look_up-start : (m : ℕ) (table : List ℕ) (size : ℕ) → LooksUpTo m table (replicate size 0) 1
unfolding suffix_marked
look_up-start m table size zero h = zeros_at size 0
look_up-start m table size (suc i) h = absurd (omega arith)

-- there is a rule where there is a place but the first
pub some-rule : (m i end : ℕ) → 1 ≤ i → i < end → end ≤ sequence_count m 3 → 1 ≤ m
some-rule zero i end some h k = absurd (omega (arith, count_next 0 2))
some-rule (suc m) i end some h k = omega arith

module _ (m : ℕ) (table : List ℕ) where
  -- a suffix of a sequence is the sequence, or one of what is left without its first rule
  first_apart : (q : Sequence) (r : ℕ) → suffix_marked m table (q ++ (r ∷ []))
      ≡ (marked_at m table (q ++ (r ∷ [])) || suffix_marked m table (drop 1 (q ++ (r ∷ []))))
  unfolding suffix_marked
  first_apart [] r = refl
  first_apart (p ∷ q) r = refl

  index_apart : (i : ℕ) → 1 ≤ i → suffix_marked m table (sequence_of m 3 i)
      ≡ (marked_at m table (sequence_of m 3 i) || suffix_marked m table (drop 1 (sequence_of m 3 i)))
  index_apart zero h = absurd (omega arith)
  index_apart (suc k) h = first_apart (sequence_of m 2 (k / m)) (k % m + 1)

  module _ (i : ℕ) (fits : i < sequence_count m 3) where
    inside : i < length (sequences m 3)
    inside = omega (arith, count-sequences m 3)

    -- the entry of an index is that of its sequence
    index-mark : marked_at m table (sequence_of m 3 i) ≡ not (eqb (entry_at table i) kept)
    unfolding marked_at
    index-mark =
        ap (λ j. not (eqb (entry_at table j) kept))
        (ap (index_of m) (sequence_at_lem m 3 3 i (omega arith) inside) ∙ index_of-place m 3 i inside)

    -- without its first rule, the sequence has the index of what is left
    tail_back : sequence_of m 3 (index_of m (drop 1 (sequence_of m 3 i))) ≡ drop 1 (sequence_of m 3 i)
    tail_back =
        let w = subst (λ q. (length q ≤ 3) × Numbered m q) (sym (sequence_at_lem m 3 3 i (omega arith) inside))
        (of-sequences m 3 (in_get_d (sequences m 3) i [] inside)) in
        sequence_back m 3 (drop 1 (sequence_of m 3 i)) (omega arith)
        (omega (arith, w.0, length-drop 1 (sequence_of m 3 i)))
        (numbered-right m (take 1 (sequence_of m 3 i)) (drop 1 (sequence_of m 3 i))
        (subst (Numbered m) (sym (take-append-drop 1 (sequence_of m 3 i))) w.1))

either : {A : Type 0} (a b : Bool) (x y : A) → cond a x (cond b x y) ≡ cond (a || b) x y
either true b x y = refl
either false b x y = refl

-- the next place holds 1 if the entry there is a mark, else what the place of the sequence without its first rule holds
pub look_up_more : (m : ℕ) (table blocked : List ℕ) (i tail block : ℕ) → i < sequence_count m 3 → 1 ≤ i
    → i < length blocked → LooksUpTo m table blocked i
    → tail ≡ index_of m (drop 1 (sequence_of m 3 i)) → tail < i
    → block ≡ cond (not (eqb (entry_at table i) kept)) 1 (get_or blocked tail 0)
    → LooksUpTo m table (set blocked i block) (i + 1)
look_up_more m table blocked i tail block fits some room looks is less write j h = ⊎_elim before here (below? j i)
  where
    before : j < i → get_or (set blocked i block) j 0 ≡ cond (suffix_marked m table (sequence_of m 3 j)) 1 0
    before l = get_or-set_other blocked i j block 0 (λ e. omega (arith, e)) ∙ looks j l

    rest : get_or blocked tail 0 ≡ cond (suffix_marked m table (drop 1 (sequence_of m 3 i))) 1 0
    rest =
        looks tail less ∙ ap (λ q. cond (suffix_marked m table q) 1 0)
        (ap (sequence_of m 3) is ∙ tail_back m table i fits)

    written : block ≡ cond (suffix_marked m table (sequence_of m 3 i)) 1 0
    written =
        write
        ∙ ap₂ (λ a n. cond a 1 n) (sym (index-mark m table i fits)) rest
        ∙ either (marked_at m table (sequence_of m 3 i)) (suffix_marked m table (drop 1 (sequence_of m 3 i))) 1 0
        ∙ ap (λ a. cond a 1 0) (sym (index_apart m table i some))

    here : i ≤ j → get_or (set blocked i block) j 0 ≡ cond (suffix_marked m table (sequence_of m 3 j)) 1 0
    here l =
        let e : i ≡ j = omega arith in
        subst (λ k. get_or (set blocked i block) k 0 ≡ cond (suffix_marked m table (sequence_of m 3 k)) 1 0) e
        (get_or-set_same blocked i block 0 room ∙ written)

-- the other places stay blank
pub blank_more : (blocked : List ℕ) (i end block : ℕ) → i < end → BlankFrom blocked i end
    → BlankFrom (set blocked i block) (i + 1) end
blank_more blocked i end block h blank j k =
    get_or-set_other blocked i j block 0 (λ e. omega (arith, e)) ∙ blank j (omega arith)

-- after the last turn it is the look-up
pub look_up-whole : (m : ℕ) (table blocked : List ℕ) (i end : ℕ) → end ≡ min (length table / 2) (sequence_count m 3)
    → end ≤ i
    → LooksUpTo m table blocked i → BlankFrom blocked i end → LooksUp m table blocked
look_up-whole m table blocked i end is all looks blank j = ⊎_elim entry none (below? j end)
  where
    what : Bool → ℕ
    what a = cond (a && suffix_marked m table (sequence_of m 3 j)) 1 0

    entry : j < end → get_or blocked j 0 ≡ what (ltb j (min (length table / 2) (sequence_count m 3)))
    entry h =
        looks j (omega arith)
        ∙ sym (ap what (lt-ltb j (min (length table / 2) (sequence_count m 3)) (omega (arith, is))))

    none : end ≤ j → get_or blocked j 0 ≡ what (ltb j (min (length table / 2) (sequence_count m 3)))
    none h =
        blank j (omega arith)
        ∙ sym (ap what (le-ltb j (min (length table / 2) (sequence_count m 3)) (omega (arith, is))))

-- ── The place of the last rules of a plan ────────────────────────────────────────────────────────

-- no rule is asked for
pub last_none : (m n : ℕ) (q : Sequence) → n ≡ 0 → index_of m (last n q) ≡ 0
last_none m n q h =
    let e : length q - n ≡ length q = omega arith in ap (λ k. index_of m (drop k q)) e ∙ ap (index_of m) (drop-length q)

-- there is no rule
pub last_empty : (m n d : ℕ) (plan : List ℕ) → d ≡ 0 → index_of m (last n (take d plan)) ≡ 0
last_empty m n d plan h = ap (λ k. index_of m (last n (take k plan))) h ∙ ap (index_of m) (drop-nil (0 - n))

-- the newest rule stands apart
newest_apart : (m n d : ℕ) (plan : List ℕ) → 1 ≤ n → 1 ≤ d → d ≤ length plan
    → index_of m (last n (take d plan)) ≡ index_of m (last (n - 1) (take (d - 1) plan)) * m + get_or plan (d - 1) 0
newest_apart m zero d plan h l fits = absurd (omega arith)
newest_apart m (suc n) zero plan h l fits = absurd (omega arith)
newest_apart m (suc n) (suc d) plan h l fits =
    let e : suc n - 1 ≡ n = omega arith in
    let e' : suc d - 1 ≡ d = omega arith in
    rw (e, e') (ap (λ q. index_of m (last (suc n) q)) (take-suc plan d 0 fits)
    ∙ last-place m n (take d plan) (get_or plan d 0))

-- nothing is before the newest rule
pub last_one : (m n d : ℕ) (plan : List ℕ) → 1 ≤ n → 1 ≤ d → d ≤ length plan
    → index_of m (last (n - 1) (take (d - 1) plan)) ≡ 0
    → get_or plan (d - 1) 0 ≡ index_of m (last n (take d plan))
last_one m n d plan h l fits e =
    sym (newest_apart m n d plan h l fits ∙ ap (λ i. i * m + get_or plan (d - 1) 0) e ∙ index_one m (get_or plan (d - 1) 0))

-- one rule is before the newest
pub last_two : (m n d : ℕ) (plan : List ℕ) → n ≡ 2 → 2 ≤ d → d ≤ length plan
    → get_or plan (d - 2) 0 * m + get_or plan (d - 1) 0 ≡ index_of m (last n (take d plan))
last_two m n d plan h l fits =
    let e : d - 1 - 1 ≡ d - 2 = omega arith in
    let before = last_one m (n - 1) (d - 1) plan (omega arith) (omega arith) (omega arith)
    (last_none m (n - 1 - 1) (take (d - 1 - 1) plan) (omega arith)) in
    sym (newest_apart m n d plan (omega arith) (omega arith) fits
    ∙ ap (λ i. i * m + get_or plan (d - 1) 0) (sym before ∙ ap (λ k. get_or plan k 0) e))

-- bytes lead to a small place
pub places_small : (a b m : ℕ) → a ≤ 255 → b ≤ 255 → m ≤ 255 → (a * m ≤ 65025) × ((a * m + b) * m ≤ 16646400)
places_small a b m h k l =
    let one : a * m ≤ 65025 = mul-le-mul h l in
    let two : a * m + b ≤ 65280 = omega arith in
    (one, mul-le-mul two l)

-- no more moves are taken than there are
pub take_within : (n : ℕ) (plan : List ℕ) → take (min n (length plan)) plan ≡ take n plan
take_within n plan = ⊎_elim (λ h. let e : min n (length plan) ≡ n = omega arith in ap (λ k. take k plan) e)
    (λ h. take_all (min n (length plan)) plan (omega arith) ∙ sym (take_all n plan h)) (below? n (length plan))

-- with rule 1 behind them, and with each other rule, they have a place among the sequences of at most `reach` rules
pub place-fits : (m reach : ℕ) (q : Sequence) (place : ℕ) → 1 ≤ reach → reach ≤ 3 → Numbered m q
    → place ≡ index_of m (last (min (reach - 1) 2) q) * m + 1
    → (place ≡ index_of m (last (reach - 1) q) * m + 1) × (place + m ≤ sequence_count m reach)
place-fits m zero q place h near k e = absurd (omega arith)
place-fits m (suc n) q place h near k e =
    let n' = suc n - 1 in
    let least : min n' 2 ≡ n' = omega arith in
    let is : place ≡ index_of m (last n' q) * m + 1 = e ∙ ap (λ i. index_of m (last i q) * m + 1) least in
    let w = (index_at m n (last n' q) (omega (arith, last-length n' q)) (last_numbered m n' q k)).0 in
    let less : suc (index_of m (last n' q)) ≤ sequence_count m n = omega (arith, w, count-sequences m n) in
    (is, omega (arith, is, mul-le-mul_right m less, count_next m n))
