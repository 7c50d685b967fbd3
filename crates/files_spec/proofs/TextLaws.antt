-- Laws of texts as they are written: a number by its digits, an entry, a line, and the items of a list, each with the
-- byte that ends it.
-- Assumes nothing.
use mathlib.Core.Path.{◌≡◌, refl, sym, ap, subst, ◌∙◌}
use mathlib.Core.Logic.{◌≢◌, ⊎_elim}
use mathlib.Core.Bool.{false}
use mathlib.Core.List.{List, [], ◌∷◌, ◌++◌, map, append_assoc}
use Prim.Native.Nat.{ℕ, zero, suc, ◌-◌, ◌/◌, ◌%◌, ◌≤◌, ◌<◌}
use Prim.Native.String.{String}
use native.Mathlib.Omega.{arith}
use lib.ListN.{length}
use borrow.Author.Tests.{lt-ltb, le-ltb}
use Rattle.theory_spec.proofs.TestLaws.{below?}
use Rattle.files_spec.specs.Text.{bytes, line_feed, comma, digit, numeral, comma_list, line}
use Rattle.files_spec.specs.File.{variable_letter, entry_text}
use Rattle.files_spec.specs.Reading.{is_digit, ending_of}

-- ── Numbers and entries ──────────────────────────────────────────────────────────────────────────

-- the numeral of a number of one, two or three digits
pub numeral_one : (n : ℕ) → n < 10 → numeral n ≡ digit n ∷ []
unfolding numeral
numeral_one n h = rw (lt-ltb n 10 h)

pub numeral_two : (n : ℕ) → 10 ≤ n → n < 100 → numeral n ≡ digit (n / 10) ∷ digit (n % 10) ∷ []
unfolding numeral
numeral_two n h k = rw (le-ltb n 10 h, lt-ltb n 100 k)

pub numeral_three : (n : ℕ) → 100 ≤ n → numeral n ≡ digit (n / 100) ∷ digit (n / 10 % 10) ∷ digit (n % 10) ∷ []
unfolding numeral
numeral_three n h = rw (le-ltb n 10 (omega arith), le-ltb n 100 h)

-- what holds of one, two and three digits holds of a numeral
pub by_length : (P : List ℕ → Type 0) (n : ℕ) → (n < 10 → P (digit n ∷ []))
    → (10 ≤ n → n < 100 → P (digit (n / 10) ∷ digit (n % 10) ∷ []))
    → (100 ≤ n → P (digit (n / 100) ∷ digit (n / 10 % 10) ∷ digit (n % 10) ∷ [])) → P (numeral n)
by_length P n one two three =
    ⊎_elim (λ h. subst P (sym (numeral_one n h)) (one h))
    (λ h. ⊎_elim (λ k. subst P (sym (numeral_two n h k)) (two h k)) (λ k. subst P (sym (numeral_three n k)) (three k))
    (below? n 100))
    (below? n 10)

-- the text of a constant, and of a variable
pub constant-text : (e : ℕ) → e < 16 → entry_text e ≡ numeral e
unfolding entry_text
constant-text e h = rw (lt-ltb e 16 h)

pub variable-text : (e : ℕ) → 16 ≤ e → entry_text e ≡ variable_letter ∷ numeral (e - 15)
unfolding entry_text
variable-text e h = rw (le-ltb e 16 h)

-- ── Lists and lines ──────────────────────────────────────────────────────────────────────────────

-- an item with others after it is ended by a comma
pub comma_follows : (n : ℕ) → n ≢ 0 → ending_of n ≡ comma
comma_follows zero h = absurd (h refl)
comma_follows (suc n) h = refl

-- the byte that ends an item is no digit
pub ending-digit : (n : ℕ) → is_digit (ending_of n) ≡ false
ending-digit zero = refl
ending-digit (suc n) = refl

-- the items, each with the byte that ends it, and what stands after them
abbrev pub ended : (ℕ → List ℕ) → List ℕ → List ℕ → List ℕ
ended item_text [] rest = rest
ended item_text (e ∷ l) rest = item_text e ++ (ending_of (length l) ∷ ended item_text l rest)

-- that is a comma list and a line feed
pub ended_commas : (item_text : ℕ → List ℕ) (l rest : List ℕ) → 1 ≤ length l
    → ended item_text l rest ≡ comma_list (map item_text l) ++ (line_feed ∷ rest)
ended_commas item_text [] rest h = absurd (omega arith)
ended_commas item_text (e ∷ []) rest h = refl
ended_commas item_text (e ∷ f ∷ l) rest h =
    ap (λ r. item_text e ++ (comma ∷ r)) (ended_commas item_text (f ∷ l) rest (omega arith))
    ∙ sym (append_assoc (item_text e) (comma ∷ comma_list (map item_text (f ∷ l))) (line_feed ∷ rest))

-- a line and what stands after it
pub line-text : (key : String) (items : List (List ℕ)) (rest : List ℕ) → line key items ++ rest ≡ bytes key
    ++ (comma_list items ++ (line_feed ∷ rest))
unfolding line
line-text key items rest =
    append_assoc (bytes key ++ comma_list items) (line_feed ∷ []) rest
    ∙ append_assoc (bytes key) (comma_list items) (line_feed ∷ rest)
