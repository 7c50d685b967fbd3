-- The turns of the loops that read a list into an array, element by element: the items of a line, the rules of a file.
-- Assumes nothing.
use mathlib.Core.Path.{◌≡◌, refl, sym, ap, ◌∙◌}
use mathlib.Core.List.{List, [], ◌∷◌, ◌++◌}
use Prim.Native.Nat.{ℕ, zero, suc, ◌+◌, ◌-◌, ◌≤◌, ◌<◌}
use native.Mathlib.Numerals.{add-one}
use native.Mathlib.Omega.{arith}
use lib.ListN.{length, get_or, take, set, replicate, length-set, length-replicate, get_or-replicate}
use lib.Seq.{get_or-set_other, take-suc-set}
use Rattle.theory_spec.specs.Lists.{padded}
use Rattle.files_spec.specs.Reading.{Parsed, refused, parsed, and_read}
use Rattle.files_spec.specs.Reading.{Item, ending_of, items_after, rule_lines, rules_after}
use Rattle.files_spec.proofs.PaddedLaws.{padded_iff}

-- an item is read after those before it, and told how many follow it
abbrev pub ReadsItem : Type 0 → Type 0
ReadsItem A = ℕ → List A → List ℕ → Parsed A

-- so many items are read after those before them
abbrev pub ReadsMore : Type 0 → Type 0
ReadsMore A = ℕ → List A → List ℕ → Parsed (List A)

-- `more` reads its items each by `item`
pub record ReadsList {A : Type 0} (item : ReadsItem A) (more : ReadsMore A) : Type 0 where
  pub none : (before : List A) (text : List ℕ) → more zero before text ≡ parsed before text
  pub next : (n : ℕ) (before : List A) (text : List ℕ)
      → more (suc n) before text ≡ and_read (item n before text) (λ e rest. more n (before ++ (e ∷ [])) rest)

-- the items of a line
pub items_list : (item : Item) → ReadsList (λ n before text. item before (ending_of n) text) (items_after item)
unfolding items_after
items_list item = record { none = λ before text. refl; next = λ n before text. refl }

-- the rules of a file
pub rules_list : (positions : ℕ) (sizes : List ℕ)
    → ReadsList (λ n before text. rule_lines positions sizes text) (rules_after positions sizes)
unfolding rules_after
rules_list positions sizes = record { none = λ before text. refl; next = λ n before text. refl }

-- a list that is read, made up to the array's size
abbrev pub made_up : {A : Type 0} → ℕ → A → Parsed (List A) → Parsed (List A)
made_up size blank p = and_read p (λ items rest. parsed (padded size blank items) rest)

-- after i of count items: the places from i on are still blank, and the rest of the text decides the whole, X
pub record SoFar
    {A : Type 0} (more : ReadsMore A) (size : ℕ) (blank : A) (count : ℕ) (X : Parsed (List A))
    (entries : List A) (rest : List ℕ) (i : ℕ) : Type 0 where
  pub below : i ≤ count
  pub fits : count ≤ size
  pub sized : length entries ≡ size
  pub beyond : (k : ℕ) → i ≤ k → k < size → get_or entries k blank ≡ blank
  pub left : made_up size blank (more (count - i) (take i entries) rest) ≡ X

module _
    {A : Type 0} {item : ReadsItem A} {more : ReadsMore A} (list : ReadsList item more)
    {size : ℕ} {blank : A} {count : ℕ} {X : Parsed (List A)} where
  -- before the first item
  pub fill_start : (rest : List ℕ) → count ≤ size → made_up size blank (more count [] rest) ≡ X
      → SoFar more size blank count X (replicate size blank) rest 0
  fill_start rest fits e = record {
    below = omega arith;
    fits = fits;
    sized = length-replicate size blank;
    beyond = λ k _ b. get_or-replicate size k blank blank b;
    left = let n : count - 0 ≡ count = omega arith in rw n e;
  }

  module _ {entries : List A} {rest : List ℕ} {i : ℕ} (inv : SoFar more size blank count X entries rest i) where
    -- how it goes on with what the next item gives
    abbrev goes : Parsed A → Parsed (List A)
    goes p = made_up size blank (and_read p (λ e after. more (count - 1 - i) (take i entries ++ (e ∷ [])) after))

    turn : i < count → goes (item (count - 1 - i) (take i entries) rest) ≡ X
    turn h =
        let n : count - i ≡ suc (count - 1 - i) = omega arith in
        let first = list.next (count - 1 - i) (take i entries) rest in
        sym (ap (λ k. made_up size blank (more k (take i entries) rest)) n ∙ ap (made_up size blank) first)
        ∙ inv.left

    -- an item was read
    pub fill_go : (e : A) (after : List ℕ) → i < count
        → item (count - 1 - i) (take i entries) rest ≡ parsed e after
        → SoFar more size blank count X (set entries i e) after (i + 1)
    fill_go e after h r = record {
      below = omega arith;
      fits = inv.fits;
      sized = length-set entries i e ∙ inv.sized;
      beyond = λ k a b. get_or-set_other entries i k e blank (omega arith) ∙ inv.beyond k (omega arith) b;
      left =
          let n : count - (i + 1) ≡ count - 1 - i = omega arith in
          let front : take (i + 1) (set entries i e) ≡ take i entries ++ (e ∷ []) =
          rw (add-one i) (take-suc-set entries i e (omega arith)) in
          rw (n, front) (sym (ap goes r) ∙ turn h);
    }

    -- an item was refused
    pub fill_stop : {k : ℕ} → i < count → item (count - 1 - i) (take i entries) rest ≡ refused k → X ≡ refused k
    fill_stop h r = sym (turn h) ∙ ap goes r

    -- all items were read
    pub fill_end : count ≤ i → X ≡ parsed entries rest
    fill_end h =
        let n : count - i ≡ 0 = omega arith in
        let whole = (padded_iff size blank entries blank i (omega arith)).0 (inv.sized, inv.beyond) in
        sym inv.left
        ∙ ap (λ k. made_up size blank (more k (take i entries) rest)) n
        ∙ ap (made_up size blank) (list.none (take i entries) rest)
        ∙ ap (λ l. parsed l rest) (sym whole)
