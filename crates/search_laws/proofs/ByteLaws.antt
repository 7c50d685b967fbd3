-- Laws of two lists that are tested byte by byte, side by side: a start or a goal and the sizes, a goal and a state.
-- Assumes nothing.
use Prim.Native.Nat.{ℕ, zero, suc, ◌≤◌}
use mathlib.Core.Path.{◌≡◌, refl, sym, ap, ◌∙◌}
use mathlib.Core.Bool.{Bool, ◌&&◌, ◌||◌}
use mathlib.Core.List.{List, [], ◌∷◌}
use native.Mathlib.Omega.{arith}
use lib.Dec.{eqb}
use lib.ListN.{length, get_or, take, length-take}
use Rattle.std.specs.List.{list_all, zip}
use Rattle.theory_spec.specs.Lists.{every, numbers_from}
use Rattle.model_spec.proofs.LoopLaws.{sized}
use Rattle.search_spec.specs.Query.{any_value, meets_goal}

module _ (test : ℕ → ℕ → Bool) where
  -- a test of the numbers after the first is one of their predecessors
  shift : (p : ℕ → Bool) (i n : ℕ) → every p (numbers_from (suc i) n) ≡ every (λ j. p (suc j)) (numbers_from i n)
  shift p i zero = refl
  shift p i (suc n) = ap (λ (r : Bool). p (suc i) && r) (shift p (suc i) n)

  each_fits : (bytes sizes : List ℕ) → length bytes ≤ length sizes
      → list_all (λ (q : ℕ × ℕ). test q.0 q.1) (zip bytes sizes)
      ≡ every (λ i. test (get_or bytes i 0) (get_or sizes i 0)) (numbers_from 0 (length bytes))
  each_fits [] sizes h = refl
  each_fits (b ∷ bytes) [] h = absurd (omega arith)
  each_fits (b ∷ bytes) (s ∷ sizes) h =
      ap (λ (r : Bool). test b s && r)
      (each_fits bytes sizes (omega arith)
      ∙ sym (shift (λ i. test (get_or (b ∷ bytes) i 0) (get_or (s ∷ sizes) i 0)) 0 (length bytes)))

  pub all_fit : (n : ℕ) (bytes sizes : List ℕ) → length bytes ≡ n → n ≤ length sizes
      → list_all (λ (q : ℕ × ℕ). test q.0 q.1) (zip bytes sizes)
      ≡ (eqb (length bytes) n && every (λ i. test (get_or bytes i 0) (get_or sizes i 0)) (numbers_from 0 n))
  all_fit n bytes sizes long h =
      each_fits bytes sizes (omega arith)
      ∙ ap (λ k. every (λ i. test (get_or bytes i 0) (get_or sizes i 0)) (numbers_from 0 k)) long
      ∙ sized bytes n _ long

-- a goal of more than sixteen bytes is read as far as a state of sixteen goes
zip_front : (x y : List ℕ) (n : ℕ) → length y ≤ n → zip x y ≡ zip (take n x) y
zip_front [] y zero h = refl
zip_front [] y (suc n) h = refl
zip_front (a ∷ x) [] zero h = refl
zip_front (a ∷ x) (b ∷ y) zero h = absurd (omega arith)
zip_front (a ∷ x) [] (suc n) h = refl
zip_front (a ∷ x) (b ∷ y) (suc n) h = ap (λ (l : List (ℕ × ℕ)). (a, b) ∷ l) (zip_front x y n (omega arith))

pub met : (goal state : List ℕ) → length state ≡ 16
    → list_all (λ (q : ℕ × ℕ). eqb q.0 any_value || eqb q.1 q.0) (zip goal state) ≡ meets_goal (take 16 goal) state
unfolding meets_goal
met goal state long =
    ap (list_all (λ (q : ℕ × ℕ). eqb q.0 any_value || eqb q.1 q.0)) (zip_front goal state 16 (omega arith))
    ∙ each_fits (λ (wanted held : ℕ). eqb wanted any_value || eqb held wanted) (take 16 goal) state
    (omega (arith, length-take 16 goal))
