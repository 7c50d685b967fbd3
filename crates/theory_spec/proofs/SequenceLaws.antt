-- Laws of sequences: runs and costs of joined sequences, and the members of the lists of sequences.
-- Assumes nothing.
use mathlib.Core.Path.{◌≡◌, refl, sym, ap, ◌∙◌, subst}
use mathlib.Core.Logic.{◌⊎◌, inl, inr, ◌↔◌}
use mathlib.Core.Bool.{true, false}
use mathlib.Core.Option.{Option, some, none}
use mathlib.Core.List.{List, [], ◌∷◌, ◌++◌}
use mathlib.Core.List.Memᴰ
use Prim.Native.Nat.{ℕ, zero, suc, ◌+◌, ◌≤◌, ◌<◌, zero-le, suc-le-suc}
use native.Mathlib.Nat.{zero-add, add_assoc}
use native.Mathlib.Omega.{arith}
use lib.Dec.{leb}
use lib.ListN.{length}
use borrow.Author.Tests.{leb-true, leb-false}
use Rattle.theory_spec.specs.Lists.{◌∈◌, Pairwise, flat, numbers_from}
use Rattle.theory_spec.specs.Sequences.{Sequence, and_then, run, cost_of, numbers, Numbered, with_first, level}
use Rattle.theory_spec.specs.Sequences.{sequences, depth_first}
use Rattle.theory_spec.proofs.ListLaws.{passes?, here, in-flat, of-flat, of-numbers_from, in-numbers_from}

-- ── Runs and costs of joined sequences ───────────────────────────────────────────────────────────

module _ {A : Type 0} (step : ℕ → A → Option A) where
  pub run-append : (x y : Sequence) (s : A) → run step (x ++ y) s ≡ and_then (run step x s) (run step y)
  run-append [] y s = refl
  run-append (r ∷ x) y s = go (step r s) (run-append x y)
    where
      go : (o : Option A) → ((t : A) → run step (x ++ y) t ≡ and_then (run step x t) (run step y))
          → and_then o (run step (x ++ y)) ≡ and_then (and_then o (run step x)) (run step y)
      go none ih = refl
      go (some t) ih = ih t

  -- what runs, runs through a state in the middle
  pub run_split : (x y : Sequence) (s t : A) → run step (x ++ y) s ≡ some t → (u : A) × (run step x s ≡ some u)
      × (run step y u ≡ some t)
  run_split x y s t e = go (run step x s) refl (sym (run-append x y s) ∙ e)
    where
      go : (o : Option A) → run step x s ≡ o → and_then o (run step y) ≡ some t → (u : A) × (run step x s ≡ some u)
          × (run step y u ≡ some t)
      go none p h = absurd (let z : ◌≡◌ {A = ℕ} 0 1 = cc in omega arith)
      go (some u) p h = (u, p, h)

  pub run_join : (x y : Sequence) (s t u : A) → run step x s ≡ some u → run step y u ≡ some t
      → run step (x ++ y) s ≡ some t
  run_join x y s t u p h = run-append x y s ∙ ap (λ o. and_then o (run step y)) p ∙ h

pub cost-append : (cost : ℕ → ℕ) (x y : Sequence) → cost_of cost (x ++ y) ≡ cost_of cost x + cost_of cost y
cost-append cost [] y = sym (zero-add (cost_of cost y))
cost-append cost (r ∷ x) y =
    ap (λ n. cost r + n) (cost-append cost x y) ∙ sym (add_assoc (cost r) (cost_of cost x) (cost_of cost y))

pub numbered-append : (m : ℕ) (x y : Sequence) → Numbered m x → Numbered m y → Numbered m (x ++ y)
numbered-append m [] y hx hy = hy
numbered-append m (r ∷ x) y hx hy = (hx.0, hx.1, numbered-append m x y hx.2 hy)

pub numbered_left : (m : ℕ) (x y : Sequence) → Numbered m (x ++ y) → Numbered m x
numbered_left m [] y h = tt
numbered_left m (r ∷ x) y h = (h.0, h.1, numbered_left m x y h.2)

pub numbered-right : (m : ℕ) (x y : Sequence) → Numbered m (x ++ y) → Numbered m y
numbered-right m [] y h = h
numbered-right m (r ∷ x) y h = numbered-right m x y h.2

-- ── The members of the lists ─────────────────────────────────────────────────────────────────────

pub of-numbers : (m : ℕ) {r : ℕ} → r ∈ numbers m → (1 ≤ r) × (r ≤ m)
of-numbers m {r} d = let h = of-numbers_from 1 m d in omega arith

pub in-numbers : (m r : ℕ) → 1 ≤ r → r ≤ m → r ∈ numbers m
in-numbers m r h k = in-numbers_from 1 m r h (omega arith)

pub numbers_increase : (m : ℕ) → Pairwise ◌<◌ (numbers m)
numbers_increase m = go 1 m
  where
    go : (i n : ℕ) → Pairwise ◌<◌ (numbers_from i n)
    go i zero = tt
    go i (suc n) = (λ r d. (of-numbers_from (suc i) n d).0, go (suc i) n)

-- a sequence that `with_first` lists has its number in front
pub of-with_first : (l : List Sequence) (r : ℕ) {q : Sequence} → q ∈ with_first l r → (w : Sequence) × (w ∈ l)
    × ((r ∷ w) ≡ q)
of-with_first l r d = Memᴰ.of_map (λ (q : Sequence). r ∷ q) l d

pub in-with_first : {l : List Sequence} (r : ℕ) {q : Sequence} → q ∈ l → (r ∷ q) ∈ with_first l r
in-with_first r d = Memᴰ.map (λ (w : Sequence). r ∷ w) d

-- a sequence with its first number from 1 to m and its rest from l
abbrev pub Extends : ℕ → List Sequence → Sequence → Type 0
Extends m l q = (r : ℕ) × (w : Sequence) × (1 ≤ r) × (r ≤ m) × (w ∈ l) × ((r ∷ w) ≡ q)

pub of_extend : (m : ℕ) (l : List Sequence) {q : Sequence} → q ∈ flat (with_first l) (numbers m) → Extends m l q
of_extend m l d =
    let w = of-flat (with_first l) (numbers m) d in
    let h = of-numbers m w.1 in
    let v = of-with_first l w.0 w.2 in
    (w.0, v.0, h.0, h.1, v.1, v.2)

pub in_extend : (m : ℕ) {l : List Sequence} (r : ℕ) {q : Sequence} → 1 ≤ r → r ≤ m → q ∈ l
    → (r ∷ q) ∈ flat (with_first l) (numbers m)
in_extend m {l} r h k d = in-flat (with_first l) (in-numbers m r h k) (in-with_first r d)

pub of-level : (m n : ℕ) {q : Sequence} → q ∈ level m n → (length q ≡ n) × Numbered m q
of-level m zero d = subst (λ w. (length w ≡ 0) × Numbered m w) (sym (Memᴰ.eq_of_singleton d)) (refl, tt)
of-level m (suc n) {q} d =
    let w = of_extend m (level m n) d in
    let ih = of-level m n w.4 in
    subst (λ v. (length v ≡ suc n) × Numbered m v) w.5 (ap suc ih.0, (w.2, w.3, ih.1))

pub in-level : (m : ℕ) (q : Sequence) → Numbered m q → q ∈ level m (length q)
in-level m [] h = here [] []
in-level m (r ∷ q) h = in_extend m r h.0 h.1 (in-level m q h.2)

-- a sequence is listed iff it is not too long and its numbers are those of rules
pub of-sequences : (m n : ℕ) {q : Sequence} → q ∈ sequences m n → (length q ≤ n) × Numbered m q
of-sequences m zero {q} d = let h = of-level m zero d in (omega arith, h.1)
of-sequences m (suc n) {q} d = go (Memᴰ.append_cases (sequences m n) d) (of-sequences m n)
  where
    go : (q ∈ sequences m n) ⊎ (q ∈ level m (suc n)) → (q ∈ sequences m n → (length q ≤ n) × Numbered m q)
        → (length q ≤ suc n) × Numbered m q
    go (inl d') ih = let h = ih d' in (omega arith, h.1)
    go (inr d') ih = let h = of-level m (suc n) d' in (omega arith, h.1)

pub in-sequences : (m n : ℕ) (q : Sequence) → length q ≤ n → Numbered m q → q ∈ sequences m n
in-sequences m zero [] h k = here [] []
in-sequences m zero (r ∷ q) h k = absurd (omega arith)
in-sequences m (suc n) q h k = go (passes? (leb (length q) n)) (in-sequences m n q)
  where
    go : (leb (length q) n ≡ true) ⊎ (leb (length q) n ≡ false) → (length q ≤ n → Numbered m q → q ∈ sequences m n)
        → q ∈ sequences m n ++ level m (suc n)
    go (inl e) ih = Memᴰ.append_left (level m (suc n)) (ih (leb-true (length q) n e) k)
    go (inr e) ih =
        Memᴰ.append_right (sequences m n) (let l = leb-false (length q) n e in let j : length q ≡ suc n = omega arith in
        subst (λ i. q ∈ level m i) j (in-level m q k))

-- the sequences of at most n of m rules are exactly those of at most n numbers from 1 to m
pub sequences_iff : (m n : ℕ) (q : Sequence) → (q ∈ sequences m n) ↔ ((length q ≤ n) × Numbered m q)
sequences_iff m n q = (of-sequences m n, λ h. in-sequences m n q h.0 h.1)

-- the depth-first list has the same members
pub of-depth_first : (m n : ℕ) {q : Sequence} → q ∈ depth_first m n → (length q ≤ n) × Numbered m q
of-depth_first m zero d = subst (λ w. (length w ≤ 0) × Numbered m w) (sym (Memᴰ.eq_of_singleton d)) (zero-le, tt)
of-depth_first m (suc n) (Memᴰ.head e) = subst (λ w. (length w ≤ suc n) × Numbered m w) (sym e) (zero-le, tt)
of-depth_first m (suc n) (Memᴰ.tail d) =
    let w = of_extend m (depth_first m n) d in
    let ih = of-depth_first m n w.4 in
    subst (λ v. (length v ≤ suc n) × Numbered m v) w.5 (suc-le-suc ih.0, (w.2, w.3, ih.1))

pub in-depth_first : (m n : ℕ) (q : Sequence) → length q ≤ n → Numbered m q → q ∈ depth_first m n
in-depth_first m zero [] h k = here [] []
in-depth_first m zero (r ∷ q) h k = absurd (omega arith)
in-depth_first m (suc n) [] h k = here [] (flat (with_first (depth_first m n)) (numbers m))
in-depth_first m (suc n) (r ∷ q) h k =
    Memᴰ.tail (in_extend m r k.0 k.1 (in-depth_first m n q (omega arith) k.2))

pub depth_first_iff : (m n : ℕ) (q : Sequence) → (q ∈ depth_first m n) ↔ ((length q ≤ n) × Numbered m q)
depth_first_iff m n q = (of-depth_first m n, λ h. in-depth_first m n q h.0 h.1)
