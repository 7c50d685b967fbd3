-- A word and the digits at the front of a text, as the library's tests give them.
-- Assumes nothing.
use Prim.Native.Nat.{ℕ, suc, ◌+◌}
use mathlib.Core.Path.{◌≡◌, refl, sym, ap, ◌∙◌}
use mathlib.Core.Bool.{Bool, true, false, cond, ◌&&◌}
use mathlib.Core.List.{List, [], ◌∷◌}
use native.Mathlib.Omega.{arith}
use lib.Dec.{eqb}
use lib.ListN.{length, take, drop}
use lib.Pointwise.{pointwise}
use borrow.Author.Tests.{eqb-true, eq-eqb}
use denote.Ref.{Bor}
use Rattle.std.specs.Prelude.{Option, Some, None, MatchOption}
use Rattle.std.specs.Option.{ok_or}
use Rattle.std.specs.List.{prefix_len}
use Rattle.std.proofs.lemmas.List.Folds.{length-prefix_len}
use Rattle.theory_spec.specs.Lists.{every}
use Rattle.theory_spec.proofs.ListLaws.{and_join, same_test}
use Rattle.refusals_spec.specs.declared.Refusal.TheVariants.{Form}
use Rattle.files_spec.specs.Reading.{parsed, refused, Parsed, literal, is_digit, digits}
use Rattle.reader_laws.specs.How.Found.{word_as}

-- two numbers are compared either way round
eqb_comm : (m n : ℕ) → eqb m n ≡ eqb n m
eqb_comm m n =
    same_test (eqb m n) (eqb n m) (λ e. eq-eqb n m (sym (eqb-true m n e))) (λ e. eq-eqb m n (sym (eqb-true n m e)))

-- ── A word ───────────────────────────────────────────────────────────────────────────────────────

-- the word stands at the front of the text, or it does not
word_read : (word text : List ℕ)
    → literal word text
    ≡ cond (pointwise eqb (take (length word) text) word) (parsed tt (drop (length word) text)) (refused 1)
unfolding literal
word_read [] text = refl
word_read (w ∷ word) [] = refl
word_read (w ∷ word) (c ∷ text) = rw (eqb_comm w c) (go (eqb c w) _ _ _ (word_read word text))
  where
    go : (t p : Bool) {X : Parsed (Unit {0})} (Y Z : Parsed (Unit {0})) → X ≡ cond p Y Z
        → cond t X Z ≡ cond (t && p) Y Z
    go true p Y Z e = e
    go false p Y Z e = refl

-- so it is read where the library strips it off
pub word_stripped : (word text : List ℕ) (stripped : Option (Bor (List ℕ)))
    → MatchOption stripped (pointwise eqb (take (length word) text) word ≡ false)
    (λ rest. (pointwise eqb (take (length word) text) word ≡ true) × (rest.now ≡ drop (length word) text)
    × (length rest.now + length word ≡ length text))
    → literal word text ≡ word_as (ok_or stripped Form)
word_stripped word text (Some rest) h = word_read word text ∙ rw (h.0, h.1)
word_stripped word text None h = word_read word text ∙ rw h

-- ── The digits at the front of a text ────────────────────────────────────────────────────────────

-- they are the bytes before the first that is none
pub digits_front : (text : List ℕ) → take (prefix_len is_digit text) text ≡ digits text
unfolding digits
digits_front [] = refl
digits_front (b ∷ text) = go (is_digit b) (digits_front text)
  where
    go : (t : Bool) → take (prefix_len is_digit text) text ≡ digits text
        → take (cond t (1 + prefix_len is_digit text) 0) (b ∷ text) ≡ cond t (b ∷ digits text) []
    go true e =
        let n : 1 + prefix_len is_digit text ≡ suc (prefix_len is_digit text) = omega arith in
        rw n (ap (λ ds. b ∷ ds) e)
    go false e = refl

-- so many they are
pub digits_count : (text : List ℕ) → length (digits text) ≡ prefix_len is_digit text
digits_count text = ap length (sym (digits_front text)) ∙ length-prefix_len is_digit text

-- each is one
pub digits_all : (text : List ℕ) → every is_digit (digits text) ≡ true
unfolding digits
digits_all [] = refl
digits_all (b ∷ text) = go (is_digit b) refl (digits_all text)
  where
    go : (t : Bool) → is_digit b ≡ t → every is_digit (digits text) ≡ true
        → every is_digit (cond t (b ∷ digits text) []) ≡ true
    go true e r = and_join e r
    go false e r = refl
