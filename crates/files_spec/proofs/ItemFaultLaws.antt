-- Where an item is refused: a word, a number, an entry and an item of a list are refused by n exactly if they have that
-- fault.
-- Assumes nothing.
use mathlib.Core.Path.{◌≡◌, refl, sym, ap, ◌∙◌}
use mathlib.Core.Logic.Iff
use mathlib.Core.Logic.{◌↔◌, ◌⊎◌, inl, inr, ⊎_elim}
use mathlib.Core.Bool.{Bool, true, false, cond}
use mathlib.Core.List.{List, [], ◌∷◌, ◌++◌}
use Prim.Native.Nat.{ℕ, ◌+◌, ◌-◌, ◌≤◌, ◌<◌}
use native.Mathlib.Omega.{arith}
use lib.Dec.{ltb, eqb}
use lib.ListN.{length, get_or, drop}
use borrow.Author.Tests.{ltb-false, lt-ltb, le-ltb}
use Rattle.theory_spec.specs.Lists.{within}
use Rattle.theory_spec.proofs.ListLaws.{never_true, not-both}
use Rattle.theory_spec.proofs.TestLaws.{within_iff}
use Rattle.model_spec.specs.States.{width}
use Rattle.model_spec.specs.Validity.{entry_limited, condition_placed, effect_placed}
use Rattle.model_spec.proofs.StateLaws.{width-position}
use Rattle.model_spec.proofs.ValidityLaws.{single-misplaced}
use Rattle.files_spec.specs.Text.{numeral}
use Rattle.files_spec.specs.File.{variable_letter, entry_text}
use Rattle.files_spec.specs.Reading.{Parsed, refused, parsed, refused_unless, literal, is_digit, digits, is_number}
use Rattle.files_spec.specs.Reading.{decimal, number, number_within, variable, constant, entry, Item, size_item}
use Rattle.files_spec.specs.Reading.{condition_item, effect_item}
use Rattle.files_spec.specs.Faults.{Starts, NoneStarts, NumberFault, no_number, number_outside, variable_text}
use Rattle.files_spec.specs.Faults.{EntryFault, no_entry, constant_outside, variable_outside, misplaced, ItemFault}
use Rattle.files_spec.specs.Faults.{SizeFault, ConditionFault, EffectFault}
use Rattle.files_spec.proofs.ParserLaws.{not-refused, refused-first, made_iff, refused_test, failed_test}
use Rattle.files_spec.proofs.NumberLaws.{literal-read, literal_back, number_read, number_back}
use Rattle.files_spec.proofs.EntryLaws.{letter_front, numeral_letter, letter-text, limited-variable, entry_read}
use Rattle.files_spec.proofs.EntryLaws.{entry_back}

-- ── Words and numbers: refused by 1, where there is none ─────────────────────────────────────────

-- what a test lets on to a parser that is refused by 1 alone
form_only : {A : Type 0} (b : Bool) (p : Parsed A) (n : ℕ) → (p ≡ refused n → n ≡ 1) → cond b p (refused 1) ≡ refused n
    → n ≡ 1
form_only true p n h e = h e
form_only false p n h e = cc

-- the bytes of a word
literal-refused : (word text : List ℕ) (n : ℕ) → literal word text ≡ refused n → n ≡ 1
unfolding literal
literal-refused [] text n e = not-refused e
literal-refused (b ∷ word) [] n e = cc
literal-refused (b ∷ word) (c ∷ text) n e = form_only (eqb b c) (literal word text) n (literal-refused word text n) e

-- a number and the byte that ends it
number-refused : (ending : ℕ) (text : List ℕ) (n : ℕ) → number ending text ≡ refused n → n ≡ 1
unfolding number
number-refused ending text n e =
    let after = drop (length (digits text)) text in
    form_only (is_number (digits text)) _ n (λ q. literal-refused (ending ∷ []) after n
    ((made_iff (literal (ending ∷ []) after) (λ _. decimal (digits text)) n).0 q)) e

-- a parser that is refused by 1 alone is refused exactly where it reads nothing
unread_iff : {A : Type 0} (p : Parsed A) → ((m : ℕ) → p ≡ refused m → m ≡ 1) → (n : ℕ) → (p ≡ refused n)
    ↔ ((n ≡ 1) × ((a : A) (rest : List ℕ) → p ≡ parsed a rest → ⊥))
unread_iff {A} p one n = (λ e. (one n e, λ a rest q. not-refused (sym q ∙ e)), λ f. back p one f.0 f.1)
  where
    back : (p : Parsed A) → ((m : ℕ) → p ≡ refused m → m ≡ 1) → n ≡ 1
        → ((a : A) (rest : List ℕ) → p ≡ parsed a rest → ⊥) → p ≡ refused n
    back (refused m) one o none = ap refused (one m refl ∙ sym o)
    back (parsed a rest) one o none = absurd (none a rest refl)

-- a word is refused where the text does not start with it
pub no_word_iff : (word text : List ℕ) (n : ℕ) → (literal word text ≡ refused n)
    ↔ ((n ≡ 1) × ((tail : List ℕ) → text ≡ word ++ tail → ⊥))
no_word_iff word text n =
    let unread = unread_iff (literal word text) (literal-refused word text) n in (
      λ e. let w = unread.0 e in (w.0, λ tail s. w.1 tt tail (ap (literal word) s ∙ literal_back word tail)),
      λ f. unread.1 (f.0, λ _ rest q. f.1 rest (literal-read word text rest q)),
    )

-- ── Numbers and entries ──────────────────────────────────────────────────────────────────────────

-- a text that starts with the letter has no number at its front, and one that starts with another byte no variable
letter_no-number : (ending : ℕ) (text : List ℕ) → eqb (get_or text 0 0) variable_letter ≡ true
    → NoneStarts numeral ending text
letter_no-number ending text t m short starts =
    not-both t (rw starts.1 (numeral_letter m (ending ∷ starts.0) short))

no_letter_no-variable : (ending : ℕ) (text : List ℕ) → eqb (get_or text 0 0) variable_letter ≡ false
    → NoneStarts variable_text ending text
no_letter_no-variable ending text t m short starts = not-both (ap (λ s. eqb (get_or s 0 0) variable_letter) starts.1) t

-- the letter with a number after it is a variable
after_letter : (ending : ℕ) (text : List ℕ) (j : ℕ) → eqb (get_or text 0 0) variable_letter ≡ true
    → Starts (numeral j) ending (drop 1 text) → Starts (variable_text j) ending text
after_letter ending text j t starts =
    (starts.0, letter_front text t ∙ ap {B = List ℕ} (λ s. variable_letter ∷ s) starts.1)

-- the fault of a number that is tested for 2: there is none, or it fails the test
abbrev TestFault : ℕ → (ℕ → Bool) → ℕ → List ℕ → Type 0
TestFault n test ending text =
    ((n ≡ 1) × NoneStarts numeral ending text)
    ⊎ ((n ≡ 2) × (m : ℕ) × (m < 1000) × (test m ≡ false) × Starts (numeral m) ending text)

module _ (n ending : ℕ) (digit : is_digit ending ≡ false) where
  -- a number is refused where there is none
  no-number_iff : (text : List ℕ) → (number ending text ≡ refused n) ↔ ((n ≡ 1) × NoneStarts numeral ending text)
  no-number_iff text =
      let unread = unread_iff (number ending text) (number-refused ending text) n in (
        λ e. let w =
            unread.0 e in (
              w.0,
              λ m short starts. w.1 m starts.0
                  (ap (number ending) starts.1 ∙ number_back ending m starts.0 digit short),
            ),
        λ f. unread.1 (f.0, λ m rest q. let r = number_read ending text m rest q in f.1 m r.0 (rest, r.1)),
      )

  -- a number that is tested for 2
  tested_iff : (test : ℕ → Bool) (text : List ℕ) → (refused_unless 2 test (number ending text) ≡ refused n)
      ↔ TestFault n test ending text
  tested_iff test text = (
    λ e.
        refused_test 2 test (number ending text) e (λ q. inl ((no-number_iff text).0 q))
        (λ m rest q t o. let r = number_read ending text m rest q in inr (o, m, r.0, t, (rest, r.1))),
    ⊎_elim (λ f. refused-first _ ((no-number_iff text).1 f))
        (λ f. failed_test test (ap (number ending) f.4.1 ∙ number_back ending f.1 f.4.0 digit f.2) f.3
        f.0),
  )

  -- a number that is to be from lo to hi
  pub number_fault : (lo hi : ℕ) (text : List ℕ) → (number_within lo hi ending text ≡ refused n)
      ↔ NumberFault n lo hi ending text
  unfolding number_within
  number_fault lo hi text = Iff.trans (tested_iff (within lo hi) text) (
    ⊎_elim (λ f. no_number f.0 f.1) (λ f. number_outside f.0 f.1 f.2
        (λ l. not-both ((within_iff lo hi f.1).1 l) f.3) f.4),
    back,
  )
    where
      back : NumberFault n lo hi ending text → TestFault n (within lo hi) ending text
      back (no_number o none) = inl (o, none)
      back (number_outside o m short outside starts) =
          inr (o, m, short, never_true _ (λ t. outside ((within_iff lo hi m).0 t)), starts)

  -- the number of a variable
  variable_fault : (positions : ℕ) (text : List ℕ) → (variable positions ending text ≡ refused n)
      ↔ NumberFault n 1 positions ending text
  unfolding variable
  variable_fault positions text =
      Iff.trans (made_iff (number_within 1 positions ending text) (λ j. 15 + j) n) (number_fault 1 positions text)

  -- a constant
  constant_fault : (size : ℕ) (text : List ℕ) → (constant size ending text ≡ refused n)
      ↔ TestFault n (λ c. ltb c size) ending text
  unfolding constant
  constant_fault size text = tested_iff (λ c. ltb c size) text

  -- an entry that is judged for its place
  entry_fault : (positions : ℕ) (sizes : List ℕ) (placed : ℕ → Bool) (i : ℕ) (text : List ℕ) → positions ≤ 16
      → i < positions → get_or sizes i 0 ≤ 16
      → (refused_unless 3 placed (entry positions sizes i ending text) ≡ refused n)
      ↔ EntryFault n positions sizes placed i ending text
  unfolding entry
  entry_fault positions sizes placed i text few inside small = (
    λ e. refused_test 3 placed (entry positions sizes i ending text) e
        (before (eqb (get_or text 0 0) variable_letter) refl) place,
    back,
  )
    where
      size : ℕ
      size = get_or sizes i 0

      Fault : Type 0
      Fault = EntryFault n positions sizes placed i ending text

      letter : eqb (get_or text 0 0) variable_letter ≡ true → NumberFault n 1 positions ending (drop 1 text) → Fault
      letter t (no_number o none) =
          no_entry o (letter_no-number ending text t)
          (λ j short starts. none j short (starts.0, ap (drop 1) starts.1))
      letter t (number_outside o j short outside starts) =
          variable_outside o j short outside (after_letter ending text j t starts)

      before : (b : Bool) → eqb (get_or text 0 0) variable_letter ≡ b
          → cond b (variable positions ending (drop 1 text)) (constant size ending text) ≡ refused n → Fault
      before true t e = letter t ((variable_fault positions (drop 1 text)).0 e)
      before false t e =
          ⊎_elim (λ f. no_entry f.0 f.1 (no_letter_no-variable ending text t))
          (λ f. constant_outside f.0 f.1 f.2 (ltb-false f.1 size f.3) f.4)
          ((constant_fault size text).0 e)

      place : (e : ℕ) (rest : List ℕ) → entry positions sizes i ending text ≡ parsed e rest → placed e ≡ false → n ≡ 3
          → Fault
      place e rest q t o =
          let r = entry_read positions sizes i ending text e rest inside small q in misplaced o e r.0 t (rest, r.1)

      none : (b : Bool) → eqb (get_or text 0 0) variable_letter ≡ b → n ≡ 1 → NoneStarts numeral ending text
          → NoneStarts variable_text ending text
          → cond b (variable positions ending (drop 1 text)) (constant size ending text) ≡ refused n
      none true t o number variable =
          (variable_fault positions (drop 1 text)).1
          (no_number o (λ j short starts. variable j short (after_letter ending text j t starts)))
      none false t o number variable = (constant_fault size text).1 (inl (o, number))

      back : Fault → refused_unless 3 placed (entry positions sizes i ending text) ≡ refused n
      back (no_entry o number variable) =
          refused-first _ (none (eqb (get_or text 0 0) variable_letter) refl o number variable)
      back (constant_outside o c short over starts) =
          let other = never_true (eqb (get_or text 0 0) variable_letter)
          (λ t. letter_no-number ending text t c short starts) in
          refused-first _ (ap (λ (b : Bool). cond b (variable positions ending (drop 1 text))
          (constant size ending text)) other
          ∙ (constant_fault size text).1 (inr (o, c, short, le-ltb c size over, starts)))
      back (variable_outside o j short outside starts) =
          refused-first _ (ap (entry positions sizes i ending) starts.1
          ∙ (variable_fault positions _).1 (number_outside o j short outside (starts.0, refl)))
      back (misplaced o e limited out starts) =
          failed_test placed (ap (entry positions sizes i ending) starts.1
          ∙ entry_back positions sizes i ending e starts.0 digit few inside small limited) out o

-- ── Items of a list ──────────────────────────────────────────────────────────────────────────────

-- an item of a list of `count` items is refused by n exactly if it has the fault
abbrev pub FaultLaw : ℕ → Item → ItemFault → ℕ → Type 0
FaultLaw n item fault count =
    (before : List ℕ) (ending : ℕ) (text : List ℕ) → length before < count → is_digit ending ≡ false
    → (item before ending text ≡ refused n) ↔ fault before ending text

-- a size
pub size_fault : (n count : ℕ) → FaultLaw n size_item (SizeFault n) count
unfolding size_item
size_fault n count before ending text h digit = number_fault n ending digit 1 16 text

module _ (n positions : ℕ) (sizes : List ℕ) (few : positions ≤ 16)
    (small : (i : ℕ) → i < positions → get_or sizes i 0 ≤ 16) where
  -- an entry of a condition
  pub condition_fault : FaultLaw n (condition_item positions sizes) (ConditionFault n positions sizes) positions
  unfolding condition_item
  condition_fault before ending text h digit =
      entry_fault n ending digit positions sizes _ (length before) text few h (small (length before) h)

  -- an entry of an effect
  pub effect_fault : (condition : List ℕ) → FaultLaw n (effect_item positions sizes condition)
      (EffectFault n positions sizes condition) positions
  unfolding effect_item
  effect_fault condition before ending text h digit =
      entry_fault n ending digit positions sizes _ (length before) text few h (small (length before) h)

-- ── Places with a single value, as document 02 says it ───────────────────────────────────────────

module _ (positions : ℕ) (sizes condition before : List ℕ) (ending : ℕ) (text : List ℕ) where
  -- in either line a variable there is out of place, and so is one elsewhere that names such a place
  pub single-variable_fault : (j : ℕ) → 1 ≤ j → j ≤ positions
      → (width positions sizes (length before) ≡ 1) ⊎ (width positions sizes (j - 1) ≡ 1)
      → Starts (variable_text j) ending text
      → ConditionFault 3 positions sizes before ending text × EffectFault 3 positions sizes condition before ending text
  single-variable_fault j least most one starts = (
    misplaced refl (15 + j) limited (out (before ++ ((15 + j) ∷ []))).0 written,
    misplaced refl (15 + j) limited (out condition).1 written,
  )
    where
      limited : entry_limited positions sizes (length before) (15 + j) ≡ true
      limited = limited-variable positions sizes (length before) j least ∙ lt-ltb (j - 1) positions (omega arith)

      there : (width positions sizes (length before) ≡ 1) ⊎ (width positions sizes (15 + j - 16) ≡ 1)
      there =
          let same : 15 + j - 16 ≡ j - 1 = omega arith in
          ⊎_elim inl (λ e. inr (ap (width positions sizes) same ∙ e)) one

      out : (line : List ℕ) → (condition_placed positions sizes line (length before) (15 + j) ≡ false)
          × (effect_placed positions sizes line (length before) (15 + j) ≡ false)
      out line = single-misplaced positions sizes line (length before) (15 + j) (omega arith) there

      written : Starts (entry_text (15 + j)) ending text
      written = (starts.0, starts.1 ∙ ap (λ l. l ++ (ending ∷ starts.0)) (sym (letter-text j least)))

  -- a constant other than 0 there is outside its limit
  pub single-constant_fault : (c : ℕ) → 1 ≤ c → c < 1000 → length before < positions
      → width positions sizes (length before) ≡ 1 → Starts (numeral c) ending text
      → ConditionFault 2 positions sizes before ending text × EffectFault 2 positions sizes condition before ending text
  single-constant_fault c least short inside one starts =
      let size = width-position positions sizes (length before) inside in
      let over : get_or sizes (length before) 0 ≤ c = omega (arith, size, one) in
      (constant_outside refl c short over starts, constant_outside refl c short over starts)
