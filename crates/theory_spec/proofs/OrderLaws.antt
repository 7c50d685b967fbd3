-- The length-lexicographic order is a strict total order, it is nested, and `sequences` lists by it; `depth_first` lists
-- by the lexicographic order.
-- Assumes nothing.
use mathlib.Core.Path.{◌≡◌, refl, sym, ◌∙◌, subst, subst₂}
use mathlib.Core.Logic.{◌⊎◌, inl, inr, ◌≢◌}
use mathlib.Core.Bool.{true, false}
use mathlib.Core.List.{List, [], ◌∷◌, ◌++◌}
use Prim.Native.Nat.{ℕ, zero, suc, ◌≤◌, ◌<◌}
use native.Mathlib.Omega.{arith}
use lib.Dec.{ltb}
use lib.ListN.{length, length-append, get_or}
use borrow.Author.Tests.{ltb-true, ltb-false}
use Rattle.theory_spec.specs.Lists.{◌∈◌, Pairwise, flat}
use Rattle.theory_spec.specs.Sequences.{Sequence, numbers, with_first, level, sequences, depth_first}
use Rattle.theory_spec.specs.Order.{LexBefore, Before}
use Rattle.theory_spec.proofs.ListLaws.{passes?, pairwise_append, pairwise_map, pairwise-flat, pairwise_imp}
use Rattle.theory_spec.proofs.ListLaws.{pairwise_get_d}
use Rattle.theory_spec.proofs.SequenceLaws.{numbers_increase, of-with_first, of_extend, of-level, of-sequences}

-- ── The order of the two lists ───────────────────────────────────────────────────────────────────

extend-ordered : (m : ℕ) (l : List Sequence) → Pairwise LexBefore l
    → Pairwise LexBefore (flat (with_first l) (numbers m))
extend-ordered m l o = pairwise-flat ◌<◌ LexBefore (with_first l) (numbers m) (numbers_increase m) each across
  where
    each : (r : ℕ) → Pairwise LexBefore (with_first l r)
    each r = pairwise_map LexBefore LexBefore (λ (q : Sequence). r ∷ q) l o (λ a b h. inr (refl, h))

    across : (r r' : ℕ) → r < r' → (b b' : Sequence) → b ∈ with_first l r → b' ∈ with_first l r' → LexBefore b b'
    across r r' h b b' d d' =
        let w = of-with_first l r d in let w' = of-with_first l r' d' in subst₂ LexBefore w.2 w'.2 (inl h)

level-ordered : (m n : ℕ) → Pairwise LexBefore (level m n)
level-ordered m zero = (λ y d. elim d [ ], tt)
level-ordered m (suc n) = extend-ordered m (level m n) (level-ordered m n)

-- the depth-first list is in lexicographic order
pub depth_first-ordered : (m n : ℕ) → Pairwise LexBefore (depth_first m n)
depth_first-ordered m zero = (λ y d. elim d [ ], tt)
depth_first-ordered m (suc n) = (first, extend-ordered m (depth_first m n) (depth_first-ordered m n))
  where
    first : (y : Sequence) → y ∈ flat (with_first (depth_first m n)) (numbers m) → LexBefore [] y
    first y d = let w = of_extend m (depth_first m n) d in subst (LexBefore []) w.5 tt

-- the sequences are in length-lexicographic order
pub sequences-ordered : (m n : ℕ) → Pairwise Before (sequences m n)
sequences-ordered m zero = (λ y d. elim d [ ], tt)
sequences-ordered m (suc n) =
    pairwise_append Before (sequences m n) (level m (suc n)) (sequences-ordered m n) in_level across
  where
    in_level : Pairwise Before (level m (suc n))
    in_level =
        pairwise_imp LexBefore Before (level m (suc n))
        (λ a b da db h. inr ((of-level m (suc n) da).0 ∙ sym (of-level m (suc n) db).0, h)) (level-ordered m (suc n))

    across : (a b : Sequence) → a ∈ sequences m n → b ∈ level m (suc n) → Before a b
    across a b da db =
        let h = of-sequences m n da in let k = of-level m (suc n) db in let shorter : length a < length b =
        omega arith in inl shorter

-- ── A strict total order ─────────────────────────────────────────────────────────────────────────

pub lex_irrefl : (a : Sequence) → LexBefore a a → ⊥
lex_irrefl [] h = h
lex_irrefl (x ∷ a) (inl h) = omega arith
lex_irrefl (x ∷ a) (inr h) = lex_irrefl a h.1

pub lex_trans : (a b c : Sequence) → LexBefore a b → LexBefore b c → LexBefore a c
lex_trans [] [] c h k = absurd h
lex_trans [] (y ∷ b) [] h k = absurd k
lex_trans [] (y ∷ b) (z ∷ c) h k = tt
lex_trans (x ∷ a) [] c h k = absurd h
lex_trans (x ∷ a) (y ∷ b) [] h k = absurd k
lex_trans (x ∷ a) (y ∷ b) (z ∷ c) (inl h) (inl k) = inl (omega arith)
lex_trans (x ∷ a) (y ∷ b) (z ∷ c) (inl h) (inr k) = inl (omega arith)
lex_trans (x ∷ a) (y ∷ b) (z ∷ c) (inr h) (inl k) = inl (omega arith)
lex_trans (x ∷ a) (y ∷ b) (z ∷ c) (inr h) (inr k) = inr (h.0 ∙ k.0, lex_trans a b c h.1 k.1)

pub before_irrefl : (a : Sequence) → Before a a → ⊥
before_irrefl a (inl h) = omega arith
before_irrefl a (inr h) = lex_irrefl a h.1

pub before_trans : (a b c : Sequence) → Before a b → Before b c → Before a c
before_trans a b c (inl h) (inl k) = inl (omega arith)
before_trans a b c (inl h) (inr k) = inl (omega arith)
before_trans a b c (inr h) (inl k) = inl (omega arith)
before_trans a b c (inr h) (inr k) = inr (h.0 ∙ k.0, lex_trans a b c h.1 k.1)

pub before_asym : (a b : Sequence) → Before a b → Before b a → ⊥
before_asym a b h k = before_irrefl a (before_trans a b a h k)

-- of two sequences one is before the other, or they are equal
pub lex-total : (a b : Sequence) → (a ≡ b) ⊎ (LexBefore a b ⊎ LexBefore b a)
lex-total [] [] = inl refl
lex-total [] (y ∷ b) = inr (inl tt)
lex-total (x ∷ a) [] = inr (inr tt)
lex-total (x ∷ a) (y ∷ b) = go (passes? (ltb x y)) (passes? (ltb y x)) (lex-total a b)
  where
    Goal : Type 0
    Goal = ((x ∷ a) ≡ (y ∷ b)) ⊎ (LexBefore (x ∷ a) (y ∷ b) ⊎ LexBefore (y ∷ b) (x ∷ a))

    go : (ltb x y ≡ true) ⊎ (ltb x y ≡ false) → (ltb y x ≡ true) ⊎ (ltb y x ≡ false) → (a ≡ b)
        ⊎ (LexBefore a b ⊎ LexBefore b a) → Goal
    go (inl h) k ih = inr (inl (inl (ltb-true x y h)))
    go (inr h) (inl k) ih = inr (inr (inl (ltb-true y x k)))
    go (inr h) (inr k) (inl e) =
        let h' = ltb-false x y h in let k' = ltb-false y x k in let xy : x ≡ y = omega arith in inl (cc)
    go (inr h) (inr k) (inr (inl l)) =
        let h' = ltb-false x y h in let k' = ltb-false y x k in inr (inl (inr (omega arith, l)))
    go (inr h) (inr k) (inr (inr l)) =
        let h' = ltb-false x y h in let k' = ltb-false y x k in inr (inr (inr (omega arith, l)))

pub before-total : (a b : Sequence) → (a ≡ b) ⊎ (Before a b ⊎ Before b a)
before-total a b = go (passes? (ltb (length a) (length b))) (passes? (ltb (length b) (length a))) (lex-total a b)
  where
    go : (ltb (length a) (length b) ≡ true) ⊎ (ltb (length a) (length b) ≡ false) → (ltb (length b) (length a) ≡ true)
        ⊎ (ltb (length b) (length a) ≡ false)
        → (a ≡ b) ⊎ (LexBefore a b ⊎ LexBefore b a) → (a ≡ b) ⊎ (Before a b ⊎ Before b a)
    go (inl h) k l = inr (inl (inl (ltb-true (length a) (length b) h)))
    go (inr h) (inl k) l = inr (inr (inl (ltb-true (length b) (length a) k)))
    go (inr h) (inr k) (inl e) = inl e
    go (inr h) (inr k) (inr (inl l)) =
        let h' = ltb-false (length a) (length b) h in let k' = ltb-false (length b) (length a) k in
        inr (inl (inr (omega arith, l)))
    go (inr h) (inr k) (inr (inr l)) =
        let h' = ltb-false (length a) (length b) h in let k' = ltb-false (length b) (length a) k in
        inr (inr (inr (omega arith, l)))

pub before-length : (a b : Sequence) → Before a b → length a ≤ length b
before-length a b (inl h) = omega arith
before-length a b (inr h) = omega arith

-- ── Nestedness ───────────────────────────────────────────────────────────────────────────────────

lex_front : (x a b : Sequence) → LexBefore a b → LexBefore (x ++ a) (x ++ b)
lex_front [] a b h = h
lex_front (r ∷ x) a b h = inr (refl, lex_front x a b h)

lex_back : (a b y : Sequence) → length a ≡ length b → LexBefore a b → LexBefore (a ++ y) (b ++ y)
lex_back [] [] y e h = absurd h
lex_back [] (r ∷ b) y e h = absurd (omega arith)
lex_back (r ∷ a) [] y e h = absurd h
lex_back (r ∷ a) (p ∷ b) y e (inl h) = inl h
lex_back (r ∷ a) (p ∷ b) y e (inr h) = inr (h.0, lex_back a b y (omega arith) h.1)

-- the order is nested: it is kept when the same rules are put in front and behind
pub before_nested : (x a b y : Sequence) → Before a b → Before (x ++ a ++ y) (x ++ b ++ y)
before_nested x a b y (inl h) = inl (simp length-append (omega arith))
before_nested x a b y (inr h) =
    inr (
      simp length-append (omega arith),
      lex_back (x ++ a) (x ++ b) y (simp length-append (omega arith))
          (lex_front x a b h.1),
    )

-- ── Places in the lists, and no repetition ───────────────────────────────────────────────────────

-- an earlier place of `sequences` has the sequence that is before
pub sequences-index : (m n i j : ℕ) → i < j → j < length (sequences m n)
    → Before (get_or (sequences m n) i []) (get_or (sequences m n) j [])
sequences-index m n i j h k = pairwise_get_d Before (sequences m n) (sequences-ordered m n) i j [] h k

-- and only an earlier place has
pub index-sequences : (m n i j : ℕ) → i < length (sequences m n) → j < length (sequences m n)
    → Before (get_or (sequences m n) i []) (get_or (sequences m n) j []) → i < j
index-sequences m n i j hi hj b = go (passes? (ltb i j)) (passes? (ltb j i))
  where
    go : (ltb i j ≡ true) ⊎ (ltb i j ≡ false) → (ltb j i ≡ true) ⊎ (ltb j i ≡ false) → i < j
    go (inl h) k = ltb-true i j h
    go (inr h) (inl k) =
        absurd (before_asym (get_or (sequences m n) i []) (get_or (sequences m n) j []) b
        (sequences-index m n j i (ltb-true j i k) hi))
    go (inr h) (inr k) =
        let h' = ltb-false i j h in
        let k' = ltb-false j i k in
        let e : i ≡ j = omega arith in
        absurd (before_irrefl (get_or (sequences m n) j [])
        (subst (λ x. Before (get_or (sequences m n) x []) (get_or (sequences m n) j [])) e b))

-- neither list has a repetition
pub sequences_distinct : (m n : ℕ) → Pairwise (λ (a b : Sequence). a ≢ b) (sequences m n)
sequences_distinct m n =
    pairwise_imp Before (λ (a b : Sequence). a ≢ b) (sequences m n)
    (λ a b da db h e. before_irrefl b (subst (λ c. Before c b) e h)) (sequences-ordered m n)

pub depth_first_distinct : (m n : ℕ) → Pairwise (λ (a b : Sequence). a ≢ b) (depth_first m n)
depth_first_distinct m n =
    pairwise_imp LexBefore (λ (a b : Sequence). a ≢ b) (depth_first m n)
    (λ a b da db h e. lex_irrefl b (subst (λ c. LexBefore c b) e h)) (depth_first-ordered m n)
