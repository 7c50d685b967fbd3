-- An entry of a line is judged for its place: in an `if` line by the array with the entry stored in it, in a `then`
-- line by the condition.
-- Assumes nothing.
use mathlib.Core.Path.{◌≡◌, refl, sym, ap, ◌∙◌}
use mathlib.Core.Bool.{Bool, true, false, ◌&&◌, ◌||◌}
use mathlib.Core.List.{List, [], ◌∷◌, ◌++◌}
use Prim.Native.Nat.{ℕ, suc, ◌≤◌, ◌<◌, min}
use native.Mathlib.Omega.{arith}
use lib.Dec.{leb, eqb}
use lib.ListN.{length, get_or, take, set}
use lib.Seq.{length-take-le, get_or-take, take-suc-set}
use borrow.Author.Tests.{leb-true}
use Rattle.model_spec.specs.States.{is_constant, width, many_valued}
use Rattle.model_spec.specs.Validity.{variable_place, condition_placed}
use Rattle.files_spec.specs.Reading.{refused_unless, entry, condition_item, effect_item}
use Rattle.reader_laws.specs.How.Parts.{condition_entry, effect_entry}

-- a place up to i is looked at in the first i + 1 places
look_front : (l : List ℕ) (i j e : ℕ)
    → (leb j i && eqb (get_or (take (suc i) l) j 0) e) ≡ (leb j i && eqb (get_or l j 0) e)
look_front l i j e = go (leb j i) refl
  where
    go : (b : Bool) → leb j i ≡ b → (b && eqb (get_or (take (suc i) l) j 0) e) ≡ (b && eqb (get_or l j 0) e)
    go true h = let k = leb-true j i h in ap (λ n. eqb n e) (get_or-take (suc i) l j 0 (omega arith))
    go false h = refl

module _ (positions : ℕ) (sizes : List ℕ) where
  -- an entry is placed after the first i places as it is in the array that has it at i
  placed_front : (l : List ℕ) (i e : ℕ) → i < length l
      → condition_placed positions sizes (take i l ++ (e ∷ [])) i e ≡ condition_placed positions sizes (set l i e) i e
  unfolding condition_placed
  placed_front l i e h =
      ap (λ c. condition_placed positions sizes c i e) (sym (take-suc-set l i e h))
      ∙ ap (λ b. is_constant e || (many_valued positions sizes i
      && (eqb (width positions sizes (variable_place e)) (width positions sizes i) && b)))
      (look_front (set l i e) i (variable_place e) e)

  -- an entry of an `if` line after the first i of an array
  pub condition_at : (before : List ℕ) (i ending : ℕ) (text : List ℕ) → positions ≤ 16 → i < length before
      → condition_item positions sizes (take i before) ending text
      ≡ condition_entry positions sizes before i ending text
  unfolding condition_item condition_entry
  condition_at before i ending text p h =
      let m : min positions 16 ≡ positions = omega arith in
      rw (length-take-le i before (omega arith), m)
      (ap (λ test. refused_unless 3 test (entry positions sizes i ending text)) (λ k e. placed_front before i e h k))

-- an entry of a `then` line after i others
pub effect_at : (positions : ℕ) (sizes condition before : List ℕ) {i : ℕ} (ending : ℕ) (text : List ℕ)
    → positions ≤ 16 → length before ≡ i
    → effect_item positions sizes condition before ending text ≡ effect_entry positions sizes condition i ending text
unfolding effect_item effect_entry
effect_at positions sizes condition before ending text p h =
    let m : min positions 16 ≡ positions = omega arith in
    rw (h, m)
