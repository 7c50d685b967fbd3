-- Where the search is over its limit: the least cost among what it did not look at is the least cost among the
-- extensions, by one rule, of what it did.
-- Assumes nothing.
use mathlib.Core.Path.{◌≡◌, refl, sym, ap, ◌∙◌, subst}
use mathlib.Core.Logic.{◌⊎◌, ◌↔◌, inl, inr}
use mathlib.Core.Bool.{true, false, false≢true}
use mathlib.Core.List.{List, [], ◌∷◌, ◌++◌, append_assoc, append-nil}
use mathlib.Core.List.Memᴰ
use Prim.Native.Nat.{ℕ, ◌≤◌, ◌<◌, min}
use native.Mathlib.Omega.{arith}
use Rattle.theory_spec.specs.Lists.{◌∈◌, same}
use Rattle.theory_spec.specs.Sequences.{Sequence, cost_of}
use Rattle.theory_spec.specs.Frontier.{is_in, initial, extends_one, frontier, least_cost}
use Rattle.theory_spec.proofs.ListLaws.{here, in-keep, of-keep, any_true, true-any, same_true, same_refl}
use Rattle.theory_spec.proofs.ListLaws.{passes?, not-both}
use Rattle.theory_spec.proofs.SequenceLaws.{cost-append}
use Rattle.theory_spec.proofs.TestLaws.{below?}

initial_snoc : (x : Sequence) (r : ℕ) → initial (x ++ (r ∷ [])) ≡ x
initial_snoc [] r = refl
initial_snoc (p ∷ []) r = refl
initial_snoc (p ∷ s ∷ x) r = ap {B = Sequence} (λ q. p ∷ q) (initial_snoc (s ∷ x) r)

-- a sequence of one rule or more is what stands before its last rule, and that rule
last-rule : (r : ℕ) (q : Sequence) → (s : ℕ) × ((r ∷ q) ≡ (initial (r ∷ q) ++ (s ∷ [])))
last-rule r [] = (r, refl)
last-rule r (s ∷ q) = let w = last-rule s q in (w.0, ap {B = Sequence} (λ l. r ∷ l) w.1)

pub in_is : {l : List Sequence} {q : Sequence} → q ∈ l → is_in l q ≡ true
in_is {l} {q} d = true-any (same q) d (same_refl q)

pub is_in_lem : (l : List Sequence) (q : Sequence) → is_in l q ≡ true → q ∈ l
is_in_lem l q h = let w = any_true (same q) l h in subst (λ (p : Sequence). p ∈ l) (sym (same_true q w.0 w.2)) w.1

-- ── The frontier ─────────────────────────────────────────────────────────────────────────────────

snoc-extends : (l : List Sequence) (x : Sequence) (r : ℕ) → x ∈ l → extends_one l (x ++ (r ∷ [])) ≡ true
snoc-extends l [] r d = in_is d
snoc-extends l (p ∷ x) r d = ap (is_in l) (initial_snoc (p ∷ x) r) ∙ in_is d

-- q is one of a list with a single rule more
abbrev pub OneMore : List Sequence → Sequence → Type 0
OneMore l q = (x : Sequence) × (r : ℕ) × (x ∈ l) × (q ≡ (x ++ (r ∷ [])))

extends_iff : (l : List Sequence) (q : Sequence) → (extends_one l q ≡ true) ↔ OneMore l q
extends_iff l q = (down q, λ w. ap (extends_one l) w.3 ∙ snoc-extends l w.0 w.1 w.2)
  where
    down : (q : Sequence) → extends_one l q ≡ true → OneMore l q
    down [] h = absurd (false≢true h)
    down (r ∷ q) h = let w = last-rule r q in (initial (r ∷ q), w.0, is_in_lem l (initial (r ∷ q)) h, w.1)

-- the frontier is what of the rest extends one that is looked at by a single rule
pub frontier_iff : (looked rest : List Sequence) (q : Sequence)
    → (q ∈ frontier looked rest) ↔ ((q ∈ rest) × OneMore looked q)
frontier_iff looked rest q = (
  λ d. let w = of-keep (extends_one looked) rest d in
      (w.0, (extends_iff looked q).0 w.1),
  λ w. in-keep (extends_one looked) w.0 ((extends_iff looked q).1 w.1),
)

-- ── The least cost ───────────────────────────────────────────────────────────────────────────────

module _ (cost : ℕ → ℕ) (c : ℕ) where
  pub least_start : (l : List Sequence) → least_cost cost c l ≤ c
  least_start [] = omega arith
  least_start (q ∷ l) = omega (arith, least_start l)

  pub least-below : (l : List Sequence) {q : Sequence} → q ∈ l → least_cost cost c l ≤ cost_of cost q
  least-below (p ∷ l) {q} (Memᴰ.head e) = omega (arith, ap (cost_of cost) e)
  least-below (p ∷ l) {q} (Memᴰ.tail d) = omega (arith, least-below l d)
  least-below [] d = absurd (Memᴰ.not-nil d)

  -- a bound of c and of each is a bound of the least
  pub least_greatest : (b : ℕ) (l : List Sequence) → b ≤ c → ((q : Sequence) → q ∈ l → b ≤ cost_of cost q)
      → b ≤ least_cost cost c l
  least_greatest b [] h k = h
  least_greatest b (q ∷ l) h k = omega (arith, k q (here q l), least_greatest b l h (λ p d. k p (Memᴰ.tail d)))

  -- the least cost is c, or what one of them costs
  abbrev pub Attained : List Sequence → Type 0
  Attained l = (least_cost cost c l ≡ c) ⊎ ((q : Sequence) × (q ∈ l) × (least_cost cost c l ≡ cost_of cost q))

  pub least_attained : (l : List Sequence) → Attained l
  least_attained [] = inl refl
  least_attained (q ∷ l) = go (below? (least_cost cost c l) (cost_of cost q)) (least_attained l)
    where
      go : (least_cost cost c l < cost_of cost q) ⊎ (cost_of cost q ≤ least_cost cost c l) → Attained l → Attained (q ∷ l)
      go (inl k) (inl e) = inl (omega arith)
      go (inl k) (inr w) = inr (w.0, Memᴰ.tail w.1, omega (arith, w.2))
      go (inr k) _ = inr (q, here q l, omega arith)

-- a lower start
pub least-min : (cost : ℕ → ℕ) (c x : ℕ) (l : List Sequence) → least_cost cost (min c x) l ≡ min x (least_cost cost c l)
least-min cost c x [] = omega arith
least-min cost c x (q ∷ l) = omega (arith, least-min cost c x l)

-- ── From what is looked at to what is not ────────────────────────────────────────────────────────

-- from x, which is looked at, to x ++ y, which is not, there is a first that is not
crossing : (looked : List Sequence) (x y : Sequence) → x ∈ looked → is_in looked (x ++ y) ≡ false
    → (u : Sequence) × (r : ℕ) × (v : Sequence) × ((x ++ y) ≡ (u ++ (r ∷ []) ++ v)) × (u ∈ looked)
    × (is_in looked (u ++ (r ∷ [])) ≡ false)
crossing looked x [] d h = not-both (in_is d) (ap (is_in looked) (sym (append-nil x)) ∙ h)
crossing looked x (r ∷ y) d h = go (passes? (is_in looked (x ++ (r ∷ [])))) (crossing looked (x ++ (r ∷ [])) y)
  where
    e : (x ++ (r ∷ y)) ≡ ((x ++ (r ∷ [])) ++ y)
    e = sym (append_assoc x (r ∷ []) y)

    go : (is_in looked (x ++ (r ∷ [])) ≡ true) ⊎ (is_in looked (x ++ (r ∷ [])) ≡ false)
        → ((x ++ (r ∷ [])) ∈ looked → is_in looked ((x ++ (r ∷ [])) ++ y) ≡ false
        → (u : Sequence) × (s : ℕ) × (v : Sequence) × (((x ++ (r ∷ [])) ++ y) ≡ (u ++ (s ∷ []) ++ v)) × (u ∈ looked)
        × (is_in looked (u ++ (s ∷ [])) ≡ false))
        → (u : Sequence) × (s : ℕ) × (v : Sequence) × ((x ++ (r ∷ y)) ≡ (u ++ (s ∷ []) ++ v)) × (u ∈ looked)
        × (is_in looked (u ++ (s ∷ [])) ≡ false)
    go (inl t) ih =
        let w = ih (is_in_lem looked (x ++ (r ∷ [])) t) (ap (is_in looked) (sym e) ∙ h) in
        (w.0, w.1, w.2, e ∙ w.3, w.4, w.5)
    go (inr f) ih = (x, r, y, e, d, f)

-- visits closed under prefixes, the first of them looked at, the empty one among these
module _ (cost : ℕ → ℕ) (looked rest : List Sequence) (first : [] ∈ looked)
    (closed : (x y : Sequence) → (x ++ y) ∈ (looked ++ rest) → x ∈ (looked ++ rest)) where
  -- what is not looked at has a front that is one rule more than one looked at
  pub front_of : (q : Sequence) → q ∈ (looked ++ rest) → is_in looked q ≡ false → (p : Sequence)
      × (p ∈ frontier looked rest) × (cost_of cost p ≤ cost_of cost q)
  front_of q d h =
      let w = crossing looked [] q first h in
      let p = w.0 ++ (w.1 ∷ []) in
      let member = closed p w.2 (subst (λ (l : Sequence). l ∈ (looked ++ rest)) w.3 d) in (
        p,
        (frontier_iff looked rest p).1 (unlooked p member w.5, (w.0, w.1, w.4, refl)),
        omega (arith, cost-append cost p w.2, ap (cost_of cost) w.3),
      )
    where
      unlooked : (p : Sequence) → p ∈ (looked ++ rest) → is_in looked p ≡ false → p ∈ rest
      unlooked p m f = pick (Memᴰ.append_cases looked m)
        where
          pick : (p ∈ looked) ⊎ (p ∈ rest) → p ∈ rest
          pick (inl a) = not-both (in_is a) f
          pick (inr b) = b

  -- so the least cost among all that is not looked at is the least among those
  pub least-frontier : ((q : Sequence) → q ∈ rest → is_in looked q ≡ false) → (c : ℕ)
      → least_cost cost c rest ≡ least_cost cost c (frontier looked rest)
  least-frontier apart c =
      let down = least_greatest cost c (least_cost cost c rest) (frontier looked rest) (least_start cost c rest)
      (λ q d. least-below cost c rest ((frontier_iff looked rest q).0 d).0) in
      let up =
      least_greatest cost c (least_cost cost c (frontier looked rest)) rest (least_start cost c (frontier looked rest))
      (λ q d. let w = front_of q (Memᴰ.append_right looked d) (apart q d) in
      omega (arith, least-below cost c (frontier looked rest) w.1, w.2)) in
      omega arith
