-- The turn of the loop over a text, the first place of a byte, and the number of digits.
-- Assumes nothing.
use mathlib.Core.Path.{◌≡◌, refl, sym, ap, subst, ◌∙◌}
use mathlib.Core.List.{List, [], ◌∷◌, map}
use Prim.Native.Nat.{ℕ, suc, ◌+◌, ◌≤◌, ◌<◌}
use native.Mathlib.Numerals.{add-one}
use native.Mathlib.Omega.{arith}
use lib.ListN.{length, get_or, set, take, length-map, get_or-map}
use lib.Seq.{take-length, paste, paste-suc}
use Rattle.std.specs.List.{fold, position}
use Rattle.std.specs.Option.{unwrap_or}
use Rattle.std.proofs.Common.{not, cond, eqb, ltb, Some, None}
use Rattle.std.proofs.lemmas.Bool.Decides.{nat_tests}
use Rattle.std.proofs.lemmas.List.Sums.{prefix_len-le-length}
use Rattle.theory_spec.specs.How.Folds.{fold_over}
use Rattle.cases_laws.specs.How.Texts.{line_fed, index_of, with_digit, number_of}

-- one byte more of a rule file
pub decoded_more : (old input : List ℕ) (i : ℕ) (l : List ℕ) (x : ℕ) → i < length old → i < length input
    → l ≡ paste old 0 (map line_fed input) i → x ≡ line_fed (get_or input i 0)
    → set l i x ≡ paste old 0 (map line_fed input) (i + 1)
decoded_more old input i l x h k e v =
    let new = map line_fed input in
    let front : 0 + i ≡ i = omega arith in
    let turn = paste-suc old 0 new i (line_fed 0) (omega arith) (omega (arith, length-map input line_fed)) in
    rw (e, v ∙ sym (get_or-map line_fed input i 0), add-one i)
    (subst (λ j. set (paste old 0 new i) j (get_or new i (line_fed 0)) ≡ paste old 0 new (suc i)) front turn)

-- the first place in the whole of a text
pub place_whole : (byte : ℕ) (text : List ℕ) (r : ℕ) → r ≡ 0 + index_of byte (take (length text) text)
    → r ≡ index_of byte text
place_whole byte text r e = omega (arith, e, ap (index_of byte) (take-length text))

-- the first place, as the code asks for it
pub place_asked : (byte : ℕ) (text : List ℕ)
    → unwrap_or (position (λ b. eqb b byte) text) (length text) ≡ index_of byte text
place_asked byte text = found (index_of byte text) (length text) (prefix_len-le-length (λ b. not (eqb b byte)) text)
  where
    found : (n m : ℕ) → n ≤ m → unwrap_or (cond (ltb n m) (Some n) None) m ≡ n
    found n m h = grind (arith, nat_tests)

-- the number, as the code goes over the digits
pub digits_folded : (text : List ℕ) → fold (λ number digit. with_digit digit number) 0 text ≡ number_of text
unfolding number_of
digits_folded text = folded 0 text
  where
    folded : (number : ℕ) (text : List ℕ)
        → fold (λ n digit. with_digit digit n) number text ≡ fold_over with_digit number text
    folded number [] = refl
    folded number (digit ∷ text) = folded (with_digit digit number) text
