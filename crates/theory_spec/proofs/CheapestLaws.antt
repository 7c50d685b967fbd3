-- `cheapest` gives the first sequence of least cost, and in a list in document 01's order it is preferred to every
-- other.
-- Assumes nothing.
use mathlib.Core.Path.{◌≡◌, refl, sym, ap, ◌∙◌, subst}
use mathlib.Core.Logic.{◌⊎◌, ◌↔◌, inl, inr, ◌≢◌}
use mathlib.Core.Bool.{Bool, true, false, cond}
use mathlib.Core.Option.{Option, some, none, some-injective, none-ne-some, some-ne-none}
use mathlib.Core.List.{List, [], ◌∷◌, ◌++◌}
use mathlib.Core.List.Memᴰ
use Prim.Native.Nat.{ℕ, ◌≤◌, ◌<◌}
use native.Mathlib.Omega.{arith}
use lib.Dec.{leb, ltb}
use borrow.Author.Tests.{leb-true, leb-false, ltb-true, ltb-false}
use Rattle.theory_spec.specs.Lists.{◌∈◌, Pairwise}
use Rattle.theory_spec.specs.Sequences.{Sequence, cost_of}
use Rattle.theory_spec.specs.Order.{Before}
use Rattle.theory_spec.specs.Plans.{no_dearer, cheaper, cheapest, Preferred}
use Rattle.theory_spec.specs.How.Firsts.{Least}
use Rattle.theory_spec.proofs.ListLaws.{here, pairwise-behind, passes?}
use Rattle.theory_spec.proofs.OrderLaws.{before_irrefl, before_trans}

-- ── Preference ───────────────────────────────────────────────────────────────────────────────────

module _ (cost : ℕ → ℕ) where
  -- what is before q and costs no more is preferred to q
  pub preferred_of : (p q : Sequence) → cost_of cost p ≤ cost_of cost q → Before p q → Preferred cost p q
  preferred_of p q h k = go (passes? (ltb (cost_of cost p) (cost_of cost q)))
    where
      go : (ltb (cost_of cost p) (cost_of cost q) ≡ true) ⊎ (ltb (cost_of cost p) (cost_of cost q) ≡ false)
          → Preferred cost p q
      go (inl e) = inl (ltb-true (cost_of cost p) (cost_of cost q) e)
      go (inr e) = let l = ltb-false (cost_of cost p) (cost_of cost q) e in inr (omega arith, k)

  -- what is preferred costs no more
  pub preferred_cost : (p q : Sequence) → (q ≡ p) ⊎ Preferred cost p q → cost_of cost p ≤ cost_of cost q
  preferred_cost p q (inl e) = omega (arith, ap (cost_of cost) e)
  preferred_cost p q (inr (inl h)) = omega arith
  preferred_cost p q (inr (inr h)) = omega (arith, h.0)

  pub preferred_irrefl : (p : Sequence) → Preferred cost p p → ⊥
  preferred_irrefl p (inl h) = omega arith
  preferred_irrefl p (inr h) = before_irrefl p h.1

  pub preferred_trans : (p q r : Sequence) → Preferred cost p q → Preferred cost q r → Preferred cost p r
  preferred_trans p q r (inl h) (inl k) = inl (omega arith)
  preferred_trans p q r (inl h) (inr k) = inl (omega arith)
  preferred_trans p q r (inr h) (inl k) = inl (omega arith)
  preferred_trans p q r (inr h) (inr k) = inr (h.0 ∙ k.0, before_trans p q r h.1 k.1)

  -- to what is least nothing else is preferred
  pub none-preferred : (p q : Sequence) → Preferred cost q p → (q ≡ p) ⊎ Preferred cost p q → ⊥
  none-preferred p q h (inl e) = preferred_irrefl p (subst (λ r. Preferred cost r p) e h)
  none-preferred p q h (inr k) = preferred_irrefl p (preferred_trans p q p k h)

  -- a list has one least sequence
  pub least_unique : (l : List Sequence) (p q : Sequence) → Least cost l p → Least cost l q → p ≡ q
  least_unique l p q h k = go (k.1 p h.0)
    where
      go : (p ≡ q) ⊎ Preferred cost q p → p ≡ q
      go (inl e) = e
      go (inr w) = absurd (none-preferred p q w (h.1 q k.0))

  cheapest-cons : (q : Sequence) (o : Option Sequence) → cheaper cost q o ≢ none
  cheapest-cons q none e = absurd (some-ne-none q e)
  cheapest-cons q (some p) e = go (no_dearer cost q p) e
    where
      go : (b : Bool) → cond b (some q) (some p) ≡ none → ⊥
      go true e = some-ne-none q e
      go false e = some-ne-none p e

  -- only the empty list has no cheapest sequence
  pub cheapest_none : (l : List Sequence) → cheapest cost l ≡ none → l ≡ []
  cheapest_none [] e = refl
  cheapest_none (q ∷ l) e = absurd (cheapest-cons q (cheapest cost l) e)

  -- p is the first of least cost in l: those before it cost more, those behind it no less
  abbrev pub FirstLeast : List Sequence → Sequence → Type 0
  FirstLeast l p =
      (x : List Sequence) × (y : List Sequence) × (l ≡ x ++ (p ∷ y))
      × ((q : Sequence) → q ∈ x → cost_of cost p < cost_of cost q)
      × ((q : Sequence) → q ∈ y → cost_of cost p ≤ cost_of cost q)

  -- what `cheapest` gives is that
  pub cheapest-first : (l : List Sequence) (p : Sequence) → cheapest cost l ≡ some p → FirstLeast l p
  cheapest-first [] p e = absurd (none-ne-some p e)
  cheapest-first (x ∷ xs) p e = go (cheapest cost xs) refl e (cheapest-first xs)
    where
      no_more : (c : Sequence) → FirstLeast xs c → (q : Sequence) → q ∈ xs → cost_of cost c ≤ cost_of cost q
      no_more c w q d = at (Memᴰ.append_cases w.0 (subst (λ l. q ∈ l) w.2 d))
        where
          at : (q ∈ w.0) ⊎ (q ∈ c ∷ w.1) → cost_of cost c ≤ cost_of cost q
          at (inl d') = let k = w.3 q d' in omega arith
          at (inr (Memᴰ.head e')) = let k = ap (cost_of cost) e' in omega arith
          at (inr (Memᴰ.tail d')) = w.4 q d'

      dearer : (c : Sequence) (u : List Sequence) → ((q : Sequence) → q ∈ u → cost_of cost c < cost_of cost q)
          → cost_of cost c < cost_of cost x
          → (q : Sequence) → q ∈ x ∷ u → cost_of cost c < cost_of cost q
      dearer c u h k q (Memᴰ.head e') = let f = ap (cost_of cost) e' in omega arith
      dearer c u h k q (Memᴰ.tail d) = h q d

      choose : (c : Sequence) → FirstLeast xs c → (b : Bool) → leb (cost_of cost x) (cost_of cost c) ≡ b
          → cond b (some x) (some c) ≡ some p → FirstLeast (x ∷ xs) p
      choose c w true h e' =
          let k = leb-true (cost_of cost x) (cost_of cost c) h in
          subst (FirstLeast (x ∷ xs)) (some-injective x p e')
          ([], xs, refl, λ q d. absurd (Memᴰ.not-nil d), λ q d. let f = no_more c w q d in omega arith)
      choose c w false h e' =
          subst (FirstLeast (x ∷ xs)) (some-injective c p e') (
            x ∷ w.0,
            w.1,
            ap {B = List Sequence} (λ l. x ∷ l) w.2,
            dearer c w.0 w.3 (leb-false (cost_of cost x) (cost_of cost c) h),
            w.4,
          )

      go : (c : Option Sequence) → cheapest cost xs ≡ c → cheaper cost x c ≡ some p
          → ((c : Sequence) → cheapest cost xs ≡ some c → FirstLeast xs c) → FirstLeast (x ∷ xs) p
      go none h e' ih =
          subst (FirstLeast (x ∷ xs)) (some-injective x p e') (
            [],
            xs,
            refl,
            λ q d. absurd (Memᴰ.not-nil d),
            λ q d. absurd (Memᴰ.not-nil (subst (λ l. q ∈ l) (cheapest_none xs h) d)),
          )
      go (some c) h e' ih = choose c (ih c h) (leb (cost_of cost x) (cost_of cost c)) refl e'

  -- in a list in length-lexicographic order, the cheapest sequence is preferred to every other
  pub cheapest-least : (l : List Sequence) → Pairwise Before l → (p : Sequence) → cheapest cost l ≡ some p
      → Least cost l p
  cheapest-least l o p e = (subst (λ k. p ∈ k) (sym w.2) (Memᴰ.append_right w.0 (here p w.1)), others)
    where
      w : FirstLeast l p
      w = cheapest-first l p e

      at : (q : Sequence) → (q ∈ w.0) ⊎ (q ∈ p ∷ w.1) → (q ≡ p) ⊎ Preferred cost p q
      at q (inl d) = inr (inl (w.3 q d))
      at q (inr (Memᴰ.head e')) = inl e'
      at q (inr (Memᴰ.tail d)) =
          inr (preferred_of p q (w.4 q d) (pairwise-behind Before w.0 p w.1
          (subst (Pairwise Before) w.2 o) q d))

      others : (q : Sequence) → q ∈ l → (q ≡ p) ⊎ Preferred cost p q
      others q d = at q (Memᴰ.append_cases w.0 (subst (λ k. q ∈ k) w.2 d))

  -- the same where a property says what is in the list
  module _ (l : List Sequence) (ordered : Pairwise Before l) {P : Sequence → Type 0}
      (member : (q : Sequence) → (q ∈ l) ↔ P q) where
    pub cheapest_among : (p : Sequence) → cheapest cost l ≡ some p → P p
        × ((q : Sequence) → P q → (q ≡ p) ⊎ Preferred cost p q)
    cheapest_among p e =
        let least = cheapest-least l ordered p e in ((member p).0 least.0, λ q h. least.1 q ((member q).1 h))

    pub none_among : cheapest cost l ≡ none → (q : Sequence) → P q → ⊥
    none_among e q h = Memᴰ.not-nil (subst (λ k. q ∈ k) (cheapest_none l e) ((member q).1 h))
