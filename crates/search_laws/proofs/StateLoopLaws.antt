-- Loops over the positions only: where lines and state are zero beyond the positions, the turns that are left out
-- change nothing.
-- Assumes nothing.
use mathlib.Core.Path.{◌≡◌, refl, sym, ap, ap₂, ◌∙◌}
use mathlib.Core.Bool.{Bool, ◌&&◌}
use mathlib.Core.List.{List, [], ◌∷◌, map}
use Prim.Native.Nat.{ℕ, zero, suc, ◌+◌, ◌≤◌, ◌<◌, min}
use native.Mathlib.Numerals.{add-one}
use native.Mathlib.Omega.{arith}
use lib.Dec.{eqb}
use lib.ListN.{length, get_or, set, take, drop, replicate, length-drop, length-map, get_or-map}
use lib.Seq.{ext_get_or, get_or-drop}
use Rattle.theory_spec.specs.Lists.{same}
use Rattle.theory_spec.proofs.ListLaws.{same_refl}
use Rattle.model_spec.specs.States.{value_of, values_of, applicable, successor}
use Rattle.model_spec.proofs.StateLaws.{value-constant, successor_at, successor-length}
use Rattle.search_laws.specs.How.Visits.{meets_within, laid_over, ZerosFrom, EndsAt}

module _ (f : ℕ → ℕ) (z : f 0 ≡ 0) where
  -- beyond the positions one list, mapped by f, is the other
  rest-same : (x y : List ℕ) (i : ℕ) → ZerosFrom i x → ZerosFrom i y → length x ≡ length y → map f (drop i x) ≡ drop i y
  rest-same x y i zx zy e =
      let size : length (map f (drop i x)) ≡ length (drop i y) = length-map (drop i x) f
      ∙ omega (arith, length-drop i x, length-drop i y) in
      ext_get_or 0 (map f (drop i x)) (drop i y) size (λ j k.
      let mapped : f (get_or (drop i x) j 0) ≡ 0 = ap f (get_or-drop i x j 0 ∙ zx (i + j) (omega arith)) ∙ z in
      ap (get_or (map f (drop i x)) j) (sym z) ∙ get_or-map f (drop i x) j 0 ∙ mapped
      ∙ sym (get_or-drop i y j 0 ∙ zy (i + j) (omega arith)))

  -- so a comparison of the first n places tells of all
  same_front : (n : ℕ) (x y : List ℕ) → ZerosFrom n x → ZerosFrom n y → length x ≡ length y
      → same (map f (take n x)) (take n y) ≡ same (map f x) y
  same_front zero x y zx zy e = sym (ap (λ l. same l y) (rest-same x y 0 zx zy e) ∙ same_refl y)
  same_front (suc n) [] [] zx zy e = refl
  same_front (suc n) [] (b ∷ y) zx zy e = absurd (omega arith)
  same_front (suc n) (a ∷ x) [] zx zy e = absurd (omega arith)
  same_front (suc n) (a ∷ x) (b ∷ y) zx zy e =
      ap (λ r. eqb (f a) b && r)
      (same_front n x y (λ i h. zx (suc i) (omega arith)) (λ i h. zy (suc i) (omega arith)) (omega arith))

-- a state meets a condition if it does at the positions
met-within : (n : ℕ) (condition state : List ℕ) → n ≤ 16 → EndsAt n condition → EndsAt n state
    → meets_within (min n 16) condition state ≡ applicable condition state
unfolding meets_within applicable values_of
met-within n condition state h ends held =
    let least : min n 16 ≡ n = omega arith in
    ap (λ k. meets_within k condition state) least
    ∙ same_front (λ e. value_of e state) (value-constant 0 state (omega arith)) n condition state ends.1 held.1
    (ends.0 ∙ sym held.0)

-- so with another test before it
pub goes-within : (n : ℕ) (condition state : List ℕ) (may goes : Bool) → n ≤ 16 → EndsAt n condition → EndsAt n state
    → goes ≡ (may && meets_within (min n 16) condition state) → goes ≡ (may && applicable condition state)
goes-within n condition state may goes h ends held e =
    e ∙ ap (λ met. may && met) (met-within n condition state h ends held)

-- the state that an effect leads to ends in zeros where the effect does
pub successor_ends : (n : ℕ) (effect state : List ℕ) → EndsAt n effect → EndsAt n (successor effect state)
successor_ends n effect state ends = (
  successor-length effect state ∙ ends.0,
  λ i h. let z = ends.1 i h in successor_at effect state i ∙ value-constant (get_or effect i 0) state (omega arith) ∙ z,
)

-- ── One list over another ────────────────────────────────────────────────────────────────────────

laid_next : (i : ℕ) (new old : List ℕ) → i < length new
    → set (laid_over i new old) i (get_or new i 0) ≡ laid_over (suc i) new old
unfolding laid_over
laid_next i [] old h = absurd (omega arith)
laid_next zero (x ∷ new) [] h = refl
laid_next zero (x ∷ new) (y ∷ old) h = refl
laid_next (suc i) (x ∷ new) [] h = refl
laid_next (suc i) (x ∷ new) (y ∷ old) h = ap (λ (l : List ℕ). x ∷ l) (laid_next i new old (omega arith))

-- before the first turn of the loop, and a turn
pub laid_none : (new old : List ℕ) → old ≡ laid_over 0 new old
unfolding laid_over
laid_none new old = refl

pub laid_more : (i : ℕ) (new old l : List ℕ) (x : ℕ) → i < length new → l ≡ laid_over i new old → x ≡ get_or new i 0
    → set l i x ≡ laid_over (i + 1) new old
laid_more i new old l x h e v = rw (e, v, add-one i) (laid_next i new old h)

-- over zeros, where the list ends in zeros
laid-zeros : (n : ℕ) (new : List ℕ) → ZerosFrom n new → laid_over n new (replicate (length new) 0) ≡ new
unfolding laid_over
laid-zeros zero [] zeros = refl
laid-zeros zero (x ∷ new) zeros =
    ap₂ (λ (y : ℕ) (l : List ℕ). y ∷ l) (sym (zeros 0 (omega arith)))
    (laid-zeros zero new (λ i h. zeros (suc i) (omega arith)))
laid-zeros (suc n) [] zeros = refl
laid-zeros (suc n) (x ∷ new) zeros = ap (λ (l : List ℕ). x ∷ l) (laid-zeros n new (λ i h. zeros (suc i) (omega arith)))

-- what an effect leads to at the positions, over zeros, is the state that it leads to
pub led-within : (n : ℕ) (effect state next : List ℕ) → n ≤ 16 → EndsAt n effect
    → next ≡ laid_over (min n 16) (successor effect state) (replicate 16 0) → next ≡ successor effect state
led-within n effect state next h ends e =
    let least : min n 16 ≡ n = omega arith in
    let there = successor_ends n effect state ends in
    e ∙ ap₂ (λ k size. laid_over k (successor effect state) (replicate size 0)) least (sym there.0)
    ∙ laid-zeros n (successor effect state) there.1
