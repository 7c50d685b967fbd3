-- Laws of numbers within limits, of entries and of the items of a list: one that is read passes its test and stands at
-- the front of the text, and one that passes its test is read.
-- Assumes nothing.
use mathlib.Core.Path.{◌≡◌, refl, sym, ap, ◌∙◌, subst}
use mathlib.Core.Logic.{⊎_elim}
use mathlib.Core.Bool.{Bool, true, false, cond, ◌&&◌, true≢false, false≢true}
use mathlib.Core.List.{List, [], ◌∷◌, ◌++◌}
use Prim.Native.Nat.{ℕ, ◌+◌, ◌-◌, ◌≤◌, ◌<◌}
use native.Mathlib.Omega.{arith}
use lib.Dec.{ltb, eqb}
use lib.ListN.{length, get_or, drop}
use borrow.Author.Tests.{ltb-true, lt-ltb, le-ltb, eqb-true}
use Rattle.theory_spec.specs.Lists.{within}
use Rattle.theory_spec.proofs.ListLaws.{never_true, and_split, and_join}
use Rattle.theory_spec.proofs.TestLaws.{below?, within_iff}
use Rattle.model_spec.specs.Validity.{entry_limited, condition_placed, effect_placed}
use Rattle.model_spec.proofs.StateLaws.{width-position}
use Rattle.files_spec.specs.Text.{numeral}
use Rattle.files_spec.specs.File.{variable_letter, entry_text}
use Rattle.files_spec.specs.Reading.{parsed, refused_unless, is_digit, number, number_within, variable, constant}
use Rattle.files_spec.specs.Reading.{entry, Item, size_item, condition_item, effect_item}
use Rattle.files_spec.specs.Faults.{ItemTest, size_faultless, condition_faultless, effect_faultless}
use Rattle.files_spec.proofs.TextLaws.{constant-text, variable-text}
use Rattle.files_spec.proofs.ParserLaws.{of-parsed, then-read, unless-read, unless_back}
use Rattle.files_spec.proofs.NumberLaws.{numeral-first, number_read, number_back}

-- ── Numbers within limits ────────────────────────────────────────────────────────────────────────

-- a number that is read is within its limits and stands at the front of the text
pub within-read : (lo hi ending : ℕ) (text : List ℕ) (n : ℕ) (rest : List ℕ)
    → number_within lo hi ending text ≡ parsed n rest
    → (lo ≤ n) × ((n ≤ hi) × (text ≡ numeral n ++ (ending ∷ rest)))
unfolding number_within
within-read lo hi ending text n rest e =
    let w = unless-read 2 (within lo hi) (number ending text) n rest e in
    let l = (within_iff lo hi n).0 w.1 in
    (l.0, (l.1, (number_read ending text n rest w.0).1))

-- a number within its limits is read
pub within_back : (lo hi ending n : ℕ) (rest : List ℕ) → is_digit ending ≡ false → lo ≤ n → n ≤ hi → hi < 1000
    → number_within lo hi ending (numeral n ++ (ending ∷ rest)) ≡ parsed n rest
unfolding number_within
within_back lo hi ending n rest d l m b =
    unless_back 2 (within lo hi) (number ending (numeral n ++ (ending ∷ rest))) n rest
    (number_back ending n rest d (omega arith)) ((within_iff lo hi n).1 (l, m))

-- ── Entries ──────────────────────────────────────────────────────────────────────────────────────

-- the text of the variable of position j
pub letter-text : (j : ℕ) → 1 ≤ j → entry_text (15 + j) ≡ variable_letter ∷ numeral j
letter-text j h = let c : 15 + j - 15 ≡ j = omega arith in rw (variable-text (15 + j) (omega arith), c)

-- a text that starts with the letter is the letter and what stands behind it
pub letter_front : (text : List ℕ) → eqb (get_or text 0 0) variable_letter ≡ true → text ≡ variable_letter ∷ drop 1 text
letter_front [] h = absurd (false≢true h)
letter_front (b ∷ text) h = ap {B = List ℕ} (λ x. x ∷ text) (eqb-true b variable_letter h)

-- a numeral does not start with the letter
pub numeral_letter : (n : ℕ) (rest : List ℕ) → n < 1000 → eqb (get_or (numeral n ++ rest) 0 0) variable_letter ≡ false
numeral_letter n rest h =
    never_true (eqb first variable_letter) (λ e. true≢false
    (sym (numeral-first n rest h) ∙ ap is_digit (eqb-true first variable_letter e)))
  where
    first : ℕ
    first = get_or (numeral n ++ rest) 0 0

module _ (positions : ℕ) (sizes : List ℕ) (i : ℕ) where
  -- the limit of a variable
  pub limited-variable : (j : ℕ) → 1 ≤ j → entry_limited positions sizes i (15 + j) ≡ ltb (j - 1) positions
  unfolding entry_limited
  limited-variable j h = let c : 15 + j - 16 ≡ j - 1 = omega arith in rw (le-ltb (15 + j) 16 (omega arith), c)

  -- the limit of a constant, at the place of a position
  limited-constant : i < positions → (e : ℕ) → e < 16 → entry_limited positions sizes i e ≡ ltb e (get_or sizes i 0)
  unfolding entry_limited
  limited-constant inside e h = rw (lt-ltb e 16 h, width-position positions sizes i inside)

  -- a variable that is read is within its limit and stands behind the letter; one within its limit is read
  variable-read : (ending : ℕ) (text : List ℕ) (e : ℕ) (rest : List ℕ) → variable positions ending text ≡ parsed e rest
      → (entry_limited positions sizes i e ≡ true) × (variable_letter ∷ text ≡ entry_text e ++ (ending ∷ rest))
  unfolding variable
  variable-read ending text e rest p =
      then-read (number_within 1 positions ending text) p (λ j mid q r.
      let w = within-read 1 positions ending text j mid q in
      of-parsed (λ e rest. (entry_limited positions sizes i e ≡ true)
      × (variable_letter ∷ text ≡ entry_text e ++ (ending ∷ rest))) r (
        limited-variable j w.0 ∙ lt-ltb (j - 1) positions (omega arith),
        rw (letter-text j w.0) (ap {B = List ℕ} (λ l. variable_letter ∷ l) w.1.1),
      ))

  variable_back : (ending j : ℕ) (rest : List ℕ) → is_digit ending ≡ false → 1 ≤ j → j ≤ positions → positions ≤ 16
      → entry positions sizes i ending (entry_text (15 + j) ++ (ending ∷ rest)) ≡ parsed (15 + j) rest
  unfolding entry variable
  variable_back ending j rest d h k p =
      rw (letter-text j h, within_back 1 positions ending j rest d h k (omega arith))

  -- a constant that is read is within its limit and stands at the front of the text; one within its limit is read
  constant-read : (ending : ℕ) (text : List ℕ) (e : ℕ) (rest : List ℕ) → i < positions → get_or sizes i 0 ≤ 16
      → constant (get_or sizes i 0) ending text ≡ parsed e rest
      → (entry_limited positions sizes i e ≡ true) × (text ≡ entry_text e ++ (ending ∷ rest))
  unfolding constant
  constant-read ending text e rest inside s p =
      let w = unless-read 2 (λ n. ltb n (get_or sizes i 0)) (number ending text) e rest p in
      let l = ltb-true e (get_or sizes i 0) w.1 in
      let v = number_read ending text e rest w.0 in (
        limited-constant inside e (omega arith) ∙ w.1,
        v.1
            ∙ ap (λ x. x ++ (ending ∷ rest)) (sym (constant-text e (omega arith))),
      )

  constant_back : (ending e : ℕ) (rest : List ℕ) → is_digit ending ≡ false → i < positions → e < 16
      → entry_limited positions sizes i e ≡ true
      → entry positions sizes i ending (entry_text e ++ (ending ∷ rest)) ≡ parsed e rest
  unfolding entry constant
  constant_back ending e rest d inside h l =
      rw (constant-text e h, numeral_letter e (ending ∷ rest) (omega arith))
      (unless_back 2 (λ n. ltb n (get_or sizes i 0)) (number ending (numeral e ++ (ending ∷ rest))) e rest
      (number_back ending e rest d (omega arith)) (sym (limited-constant inside e h) ∙ l))

-- an entry that is read is within its limit and stands at the front of the text
pub entry_read : (positions : ℕ) (sizes : List ℕ) (i ending : ℕ) (text : List ℕ) (e : ℕ) (rest : List ℕ) → i < positions
    → get_or sizes i 0 ≤ 16
    → entry positions sizes i ending text ≡ parsed e rest → (entry_limited positions sizes i e ≡ true)
    × (text ≡ entry_text e ++ (ending ∷ rest))
unfolding entry
entry_read positions sizes i ending text e rest h s p = go (eqb (get_or text 0 0) variable_letter) refl p
  where
    go : (t : Bool) → eqb (get_or text 0 0) variable_letter ≡ t
        → cond t (variable positions ending (drop 1 text)) (constant (get_or sizes i 0) ending text) ≡ parsed e rest
        → (entry_limited positions sizes i e ≡ true) × (text ≡ entry_text e ++ (ending ∷ rest))
    go true t q =
        let w = variable-read positions sizes i ending (drop 1 text) e rest q in (w.0, letter_front text t ∙ w.1)
    go false t q = constant-read positions sizes i ending text e rest h s q

-- an entry within its limit is read
pub entry_back : (positions : ℕ) (sizes : List ℕ) (i ending e : ℕ) (rest : List ℕ) → is_digit ending ≡ false
    → positions ≤ 16 → i < positions → get_or sizes i 0 ≤ 16
    → entry_limited positions sizes i e ≡ true
    → entry positions sizes i ending (entry_text e ++ (ending ∷ rest)) ≡ parsed e rest
entry_back positions sizes i ending e rest d p h s l =
    ⊎_elim (λ k. constant_back positions sizes i ending e rest d h k l) large (below? e 16)
  where
    large : 16 ≤ e → entry positions sizes i ending (entry_text e ++ (ending ∷ rest)) ≡ parsed e rest
    large k =
        let c : 15 + (e - 15) ≡ e = omega arith in
        let m = ltb-true (e - 15 - 1) positions (sym (limited-variable positions sizes i (e - 15) (omega arith))
        ∙ ap (entry_limited positions sizes i) c ∙ l) in
        subst (λ x. entry positions sizes i ending (entry_text x ++ (ending ∷ rest)) ≡ parsed x rest) c
        (variable_back positions sizes i ending (e - 15) rest d (omega arith) (omega arith) p)

-- ── Items of a list ──────────────────────────────────────────────────────────────────────────────

-- an item of a list of `count` items is read exactly where its test passes
pub record ItemLaw (item : Item) (item_text : ℕ → List ℕ) (faultless : ItemTest) (count : ℕ) : Type 0 where
  pub reads : (before : List ℕ) (ending : ℕ) (text : List ℕ) (e : ℕ) (rest : List ℕ) → length before < count
      → item before ending text ≡ parsed e rest
      → (faultless before e ≡ true) × (text ≡ item_text e ++ (ending ∷ rest))
  pub back : (before : List ℕ) (ending e : ℕ) (rest : List ℕ) → length before < count → is_digit ending ≡ false
      → faultless before e ≡ true
      → item before ending (item_text e ++ (ending ∷ rest)) ≡ parsed e rest

-- a size
pub size_law : (count : ℕ) → ItemLaw size_item numeral size_faultless count
unfolding size_item size_faultless
size_law count = record {
  reads =
      λ before ending text e rest h p. let w = within-read 1 16 ending text e rest p in
      ((within_iff 1 16 e).1 (w.0, w.1.0), w.1.1);
  back =
      λ before ending e rest h d f. let w = (within_iff 1 16 e).0 f in
      within_back 1 16 ending e rest d w.0 w.1 (omega arith);
}

module _ (positions : ℕ) (sizes : List ℕ) (few : positions ≤ 16)
    (small : (i : ℕ) → i < positions → get_or sizes i 0 ≤ 16) where
  -- an entry that is judged for its place by what stands before it
  placed_law : (placed : ItemTest)
      → ItemLaw (λ before ending text. refused_unless 3 (placed before)
      (entry positions sizes (length before) ending text)) entry_text
      (λ before e. entry_limited positions sizes (length before) e && placed before e) positions
  placed_law placed = record {
    reads = λ before ending text e rest h p.
        let w = unless-read 3 (placed before) (entry positions sizes (length before) ending text) e rest p in
        let v = entry_read positions sizes (length before) ending text e rest h (small (length before) h) w.0 in
        (and_join v.0 w.1, v.1);
    back = λ before ending e rest h d f.
        let w = and_split (entry_limited positions sizes (length before) e) (placed before e) f in
        unless_back 3 (placed before) (entry positions sizes (length before) ending
        (entry_text e ++ (ending ∷ rest))) e rest
        (entry_back positions sizes (length before) ending e rest d few h (small (length before) h) w.0) w.1;
  }

  -- an entry of a condition
  pub condition_law : ItemLaw (condition_item positions sizes) entry_text (condition_faultless positions sizes) positions
  unfolding condition_item condition_faultless
  condition_law = placed_law (λ before e. condition_placed positions sizes (before ++ (e ∷ [])) (length before) e)

-- an entry of an effect, after its condition
pub effect_law : (positions : ℕ) (sizes condition : List ℕ) → positions ≤ 16
    → ((i : ℕ) → i < positions → get_or sizes i 0 ≤ 16)
    → ItemLaw (effect_item positions sizes condition) entry_text (effect_faultless positions sizes condition) positions
unfolding effect_item effect_faultless
effect_law positions sizes condition p s =
    placed_law positions sizes p s (λ before e. effect_placed positions sizes condition (length before) e)
