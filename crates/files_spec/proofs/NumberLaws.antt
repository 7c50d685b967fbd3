-- Laws of words and numbers of a text: what is read stands there, and what stands there is read.
-- Assumes nothing.
use mathlib.Core.Path.{◌≡◌, refl, sym, ap, ap₂, ◌∙◌}
use mathlib.Core.Bool.{Bool, true, false, not, cond, false≢true}
use mathlib.Core.List.{List, [], ◌∷◌, ◌++◌}
use Prim.Native.Nat.{ℕ, ◌/◌, ◌%◌, ◌≤◌, ◌<◌}
use native.Mathlib.Omega.{arith}
use lib.Dec.{eqb}
use lib.ListN.{length, get_or, drop, length-append}
use lib.Seq.{drop-append_seam}
use borrow.Author.Tests.{eqb-true, eqb-false, eq-eqb, ne_eqb, not-true}
use Rattle.theory_spec.specs.Lists.{every, within}
use Rattle.theory_spec.proofs.ListLaws.{and_split, and_join}
use Rattle.theory_spec.proofs.TestLaws.{within_iff}
use Rattle.files_spec.specs.Text.{digit, numeral}
use Rattle.files_spec.specs.Reading.{parsed, literal, is_digit, digits, is_number, decimal, number}
use Rattle.files_spec.proofs.TextLaws.{numeral_one, numeral_two, numeral_three, by_length}
use Rattle.files_spec.proofs.ParserLaws.{of-parsed, if-read, then-read}

-- ── Words ────────────────────────────────────────────────────────────────────────────────────────

-- a word that is read stands at the front of the text
pub literal-read : (word text rest : List ℕ) → literal word text ≡ parsed tt rest → text ≡ word ++ rest
unfolding literal
literal-read [] text rest e = cc
literal-read (b ∷ word) [] rest e = cc
literal-read (b ∷ word) (c ∷ text) rest e =
    let w = if-read (eqb b c) (literal word text) 1 tt rest e in
    ap₂ {C = List ℕ} (λ x l. x ∷ l) (sym (eqb-true b c w.0)) (literal-read word text rest w.1)

-- a word at the front of a text is read
pub literal_back : (word rest : List ℕ) → literal word (word ++ rest) ≡ parsed tt rest
unfolding literal
literal_back [] rest = refl
literal_back (b ∷ word) rest = rw (eq-eqb b b refl) (literal_back word rest)

-- ── Digits ───────────────────────────────────────────────────────────────────────────────────────

-- a digit is a byte from 48 to 57
digit_limits : (b : ℕ) → is_digit b ≡ true → (48 ≤ b) × (b ≤ 57)
digit_limits b h = (within_iff 48 57 b).0 h

-- the digit of a number below ten is a digit
digit_is : (n : ℕ) → n < 10 → is_digit (digit n) ≡ true
digit_is n h = (within_iff 48 57 (digit n)).1 (omega arith)

-- the digits at the front of a text are digits
digits_are : (text : List ℕ) → every is_digit (digits text) ≡ true
unfolding digits
digits_are [] = refl
digits_are (b ∷ text) = go (is_digit b) refl (digits_are text)
  where
    go : (t : Bool) → is_digit b ≡ t → every is_digit (digits text) ≡ true
        → every is_digit (cond t (b ∷ digits text) []) ≡ true
    go true e ih = and_join e ih
    go false e ih = refl

-- a text is its digits and what stands behind them
digits_front : (text : List ℕ) → text ≡ digits text ++ drop (length (digits text)) text
unfolding digits
digits_front [] = refl
digits_front (b ∷ text) = go (is_digit b) (digits_front text)
  where
    go : (t : Bool) → text ≡ digits text ++ drop (length (digits text)) text
        → b ∷ text ≡ cond t (b ∷ digits text) [] ++ drop (length (cond t (b ∷ digits text) [])) (b ∷ text)
    go true ih = ap {B = List ℕ} (λ l. b ∷ l) ih
    go false ih = refl

-- there are no more digits than bytes
pub digits-length : (text : List ℕ) → length (digits text) ≤ length text
digits-length text =
    omega (arith, ap length (digits_front text), length-append (digits text) (drop (length (digits text)) text))

-- digits before a byte that is none are the digits at the front
digits_stop : (ds : List ℕ) (b : ℕ) (rest : List ℕ) → every is_digit ds ≡ true → is_digit b ≡ false
    → digits (ds ++ (b ∷ rest)) ≡ ds
unfolding digits
digits_stop [] b rest h k = rw k
digits_stop (d ∷ ds) b rest h k =
    let w = and_split (is_digit d) (every is_digit ds) h in
    rw w.0 (ap {B = List ℕ} (λ l. d ∷ l) (digits_stop ds b rest w.1 k))

-- ── Numbers ──────────────────────────────────────────────────────────────────────────────────────

-- a numeral has digits only
numeral-digits : (n : ℕ) → n < 1000 → every is_digit (numeral n) ≡ true
numeral-digits n h =
    by_length (λ ds. every is_digit ds ≡ true) n (λ k. and_join (digit_is n k) refl)
    (λ _ k. and_join (digit_is (n / 10) (omega arith)) (and_join (digit_is (n % 10) (omega arith)) refl))
    (λ _. and_join (digit_is (n / 100) (omega arith))
    (and_join (digit_is (n / 10 % 10) (omega arith)) (and_join (digit_is (n % 10) (omega arith)) refl)))

-- a numeral starts with a digit
pub numeral-first : (n : ℕ) (rest : List ℕ) → n < 1000 → is_digit (get_or (numeral n ++ rest) 0 0) ≡ true
numeral-first n rest h =
    by_length (λ ds. is_digit (get_or (ds ++ rest) 0 0) ≡ true) n (λ k. digit_is n k)
    (λ _ k. digit_is (n / 10) (omega arith)) (λ _. digit_is (n / 100) (omega arith))

-- a numeral is a number: its first digit is not 0 unless it is the only one
numeral-number : (n : ℕ) → is_number (numeral n) ≡ true
unfolding is_number
numeral-number n =
    by_length (λ ds. is_number ds ≡ true) n (λ _. refl) (λ h _. rw (ne_eqb (digit (n / 10)) 48 (omega arith)))
    (λ h. rw (ne_eqb (digit (n / 100)) 48 (omega arith)))

-- a numeral stands for its number
decimal-numeral : (n : ℕ) → decimal (numeral n) ≡ n
unfolding decimal
decimal-numeral n = by_length (λ ds. decimal ds ≡ n) n (λ _. omega arith) (λ _ _. omega arith) (λ _. omega arith)

-- digits that are a number are one to three
pub number-length : (ds : List ℕ) → is_number ds ≡ true → (1 ≤ length ds) × (length ds ≤ 3)
unfolding is_number
number-length ds h = (within_iff 1 3 (length ds)).0 (and_split (within 1 3 (length ds)) _ h).0

-- two or three digits that are a number start with one that is not 0
first-digit : (a : ℕ) → not (eqb a 48) ≡ true → is_digit a ≡ true → (48 < a) × (a ≤ 57)
first-digit a h k = let e = eqb-false a 48 (not-true (eqb a 48) h) in let d = digit_limits a k in omega arith

-- digits that are a number are the numeral of what they stand for, which is below 1000
numeral-decimal : (ds : List ℕ) → every is_digit ds ≡ true → is_number ds ≡ true → (decimal ds < 1000)
    × (numeral (decimal ds) ≡ ds)
unfolding decimal is_number
numeral-decimal [] h k = absurd (false≢true k)
numeral-decimal (a ∷ []) h k =
    let d = digit_limits a (and_split (is_digit a) true h).0 in
    (omega arith, numeral_one (decimal (a ∷ [])) (omega arith) ∙ ap {B = List ℕ} (λ x. x ∷ []) (omega arith))
numeral-decimal (a ∷ b ∷ []) h k =
    let w = and_split (is_digit a) _ h in
    let d = first-digit a k w.0 in
    let d' = digit_limits b (and_split (is_digit b) true w.1).0 in (
      omega arith,
      numeral_two (decimal (a ∷ b ∷ [])) (omega arith) (omega arith)
          ∙ ap₂ {C = List ℕ} (λ x y. x ∷ y ∷ []) (omega arith) (omega arith),
    )
numeral-decimal (a ∷ b ∷ c ∷ []) h k =
    let w = and_split (is_digit a) _ h in
    let v = and_split (is_digit b) _ w.1 in
    let d = first-digit a k w.0 in
    let d' = digit_limits b v.0 in
    let d'' = digit_limits c (and_split (is_digit c) true v.1).0 in (
      omega arith,
      numeral_three (decimal (a ∷ b ∷ c ∷ [])) (omega arith)
          ∙ ap₂ {C = List ℕ} (λ x l. x ∷ l) (omega arith)
          (ap₂ {C = List ℕ} (λ x y. x ∷ y ∷ []) (omega arith) (omega arith)),
    )
numeral-decimal (a ∷ b ∷ c ∷ d ∷ ds) h k = absurd (omega (arith, number-length (a ∷ b ∷ c ∷ d ∷ ds) k))

-- a number that is read is below 1000, and stands at the front of the text with the byte that ends it
pub number_read : (ending : ℕ) (text : List ℕ) (n : ℕ) (rest : List ℕ) → number ending text ≡ parsed n rest → (n < 1000)
    × (text ≡ numeral n ++ (ending ∷ rest))
unfolding number
number_read ending text n rest e =
    let ds = digits text in
    let behind = drop (length ds) text in
    let w = if-read (is_number ds) _ 1 n rest e in
    let d = numeral-decimal ds (digits_are text) w.0 in
    then-read (literal (ending ∷ []) behind) w.1 (λ _ mid q r.
    of-parsed (λ n rest. (n < 1000) × (text ≡ numeral n ++ (ending ∷ rest))) r
    (d.0, digits_front text ∙ ap₂ (λ x y. x ++ y) (sym d.1) (literal-read (ending ∷ []) behind mid q)))

-- a number below 1000 at the front of a text, with the byte that ends it, is read
pub number_back : (ending n : ℕ) (rest : List ℕ) → is_digit ending ≡ false → n < 1000
    → number ending (numeral n ++ (ending ∷ rest)) ≡ parsed n rest
unfolding number
number_back ending n rest h k =
    rw (
      digits_stop (numeral n) ending rest (numeral-digits n k) h,
      numeral-number n,
      drop-append_seam (numeral n) (ending ∷ rest),
      literal_back (ending ∷ []) rest,
      decimal-numeral n,
    )
