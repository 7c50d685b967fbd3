-- Laws of lines: items with commas between them, and a line with a key, are read exactly where their tests pass, and
-- then stand at the front of the text.
-- Assumes nothing.
use mathlib.Core.Path.{◌≡◌, refl, sym, ap, ap₂, ◌∙◌}
use mathlib.Core.List.{List, [], ◌∷◌, ◌++◌, map, append-nil, append_assoc}
use Prim.Native.Nat.{ℕ, zero, suc, ◌+◌, ◌≤◌, ◌<◌}
use Prim.Native.String.{String}
use native.Mathlib.Omega.{arith}
use lib.ListN.{length, take, length-append}
use lib.Seq.{length-take-le}
use Rattle.theory_spec.specs.Lists.{padded, flat}
use Rattle.files_spec.specs.Text.{bytes, line_feed, comma, numeral, line}
use Rattle.files_spec.specs.Reading.{parsed, literal, Item, ending_of, items_after, number_line, list_line}
use Rattle.files_spec.specs.Faults.{ItemTest}
use Rattle.files_spec.proofs.PaddedLaws.{padded_front, padded_iff}
use Rattle.files_spec.proofs.ParserLaws.{of-parsed, then-read, then_back}
use Rattle.files_spec.proofs.TextLaws.{comma_follows, ending-digit, ended, ended_commas, line-text}
use Rattle.files_spec.proofs.NumberLaws.{literal-read, literal_back}
use Rattle.files_spec.proofs.EntryLaws.{within-read, within_back, ItemLaw}
use Rattle.files_spec.proofs.FilledLaws.{EachFaultless, first-faultless, with_first, Filled, filled_by}

-- ── Items ────────────────────────────────────────────────────────────────────────────────────────

module _ (item : Item) (item_text : ℕ → List ℕ) (faultless : ItemTest) (count : ℕ)
    (law : ItemLaw item item_text faultless count) where
  -- items that are read are faultless and stand at the front of the text
  items-read : (n : ℕ) (before text all rest : List ℕ) → length before + n ≤ count
      → items_after item n before text ≡ parsed all rest
      → (l : List ℕ) × (all ≡ before ++ l) × (length l ≡ n) × EachFaultless faultless before l
      × (text ≡ ended item_text l rest)
  unfolding items_after
  items-read zero before text all rest b p =
      ([], (let q : before ≡ all = cc in sym q ∙ sym (append-nil before)), refl, λ i h. absurd (omega arith), cc)
  items-read (suc n) before text all rest b p =
      then-read (item before (ending_of n) text) p (λ e mid first others.
      let r = law.reads before (ending_of n) text e mid (omega arith) first in
      let v = items-read n (before ++ (e ∷ [])) mid all rest (omega (arith, length-append before (e ∷ []))) others in (
        e ∷ v.0,
        v.1 ∙ append_assoc before (e ∷ []) v.0,
        ap suc v.2,
        with_first faultless before e v.0 r.0 v.3,
        r.1 ∙ ap₂ (λ m s. item_text e ++ (ending_of m ∷ s)) (sym v.2) v.4,
      ))

  -- faultless items are read
  items_back : (l before rest : List ℕ) → length before + length l ≤ count → EachFaultless faultless before l
      → items_after item (length l) before (ended item_text l rest) ≡ parsed (before ++ l) rest
  unfolding items_after
  items_back [] before rest b h = ap (λ s. parsed s rest) (sym (append-nil before))
  items_back (e ∷ l) before rest b h =
      let f = first-faultless faultless before e l h in
      then_back _ (law.back before (ending_of (length l)) e (ended item_text l rest) (omega arith)
      (ending-digit (length l)) f.0)
      (items_back l (before ++ (e ∷ [])) rest (omega (arith, length-append before (e ∷ []))) f.1
      ∙ ap (λ s. parsed s rest) (append_assoc before (e ∷ []) l))

  -- faultless items with a comma after each lead to the items after them
  pub items_through : (l : List ℕ) (n k : ℕ) (before tail : List ℕ) → n ≡ length l + suc k → length before + n ≤ count
      → EachFaultless faultless before l
      → items_after item n before (flat (λ e. item_text e ++ (comma ∷ [])) l ++ tail)
      ≡ items_after item (suc k) (before ++ l) tail
  unfolding items_after
  items_through [] n k before tail e b h =
      let q : n ≡ suc k = omega arith in ap₂ (λ m s. items_after item m s tail) q (sym (append-nil before))
  items_through (x ∷ l) zero k before tail e b h = absurd (omega arith)
  items_through (x ∷ l) (suc n) k before tail e b h =
      let f = first-faultless faultless before x l h in
      let after = flat (λ e. item_text e ++ (comma ∷ [])) l ++ tail in
      then_back _
      (ap₂ (item before) (comma_follows n (λ z. omega arith))
      (append_assoc (item_text x ++ (comma ∷ [])) (flat (λ e. item_text e ++ (comma ∷ [])) l) tail
      ∙ append_assoc (item_text x) (comma ∷ []) after)
      ∙ law.back before comma x after (omega arith) refl f.0)
      (items_through l n k (before ++ (x ∷ [])) tail (omega arith) (omega (arith, length-append before (x ∷ []))) f.1
      ∙ ap (λ s. items_after item (suc k) s tail) (append_assoc before (x ∷ []) l))

  -- ── Lines ────────────────────────────────────────────────────────────────────────────────────────

  -- a line of faultless items is read, by the list of the items
  listed_back : (key : String) (l rest : List ℕ) → 1 ≤ length l → length l ≤ count → EachFaultless faultless [] l
      → list_line key item (length l) (line key (map item_text l) ++ rest) ≡ parsed (padded 16 0 l) rest
  unfolding list_line
  listed_back key l rest a b h =
      ap (λ s. list_line key item (length l) s) (line-text key (map item_text l) rest
      ∙ ap (λ s. bytes key ++ s) (sym (ended_commas item_text l rest a)))
      ∙ then_back _ (literal_back (bytes key) (ended item_text l rest))
      (then_back _ (items_back l [] rest (omega arith) h) refl)

  -- a line of `count` items that is read fills as many places with faultless items, and stands at the front of the text
  pub list-line-read : (key : String) (text entries rest : List ℕ) → 1 ≤ count
      → list_line key item count text ≡ parsed entries rest
      → Filled faultless count entries × (text ≡ line key (map item_text (take count entries)) ++ rest)
  unfolding list_line
  list-line-read key text entries rest some p =
      then-read (literal (bytes key) text) p (λ _ mid word q.
      then-read (items_after item count [] mid) q (λ all after items e.
      let v = items-read count [] mid all after (omega arith) items in
      of-parsed (λ entries rest. Filled faultless count entries
      × (text ≡ line key (map item_text (take count entries)) ++ rest))
      (ap (λ s. parsed (padded 16 0 s) after) (sym v.1) ∙ e) (
        filled_by faultless count v.0 v.2 v.3,
        literal-read (bytes key) text mid word
            ∙ ap (λ s. bytes key ++ s) (v.4 ∙ ended_commas item_text v.0 after (omega arith))
            ∙ sym (line-text key (map item_text v.0) after)
            ∙ ap (λ s. line key (map item_text s) ++ after) (sym (padded_front 16 0 count v.0 v.2)),
      )))

  -- a line that is filled with faultless items is read
  pub list-line_back : (key : String) (entries rest : List ℕ) → 1 ≤ count → count ≤ 16 → Filled faultless count entries
      → list_line key item count (line key (map item_text (take count entries)) ++ rest) ≡ parsed entries rest
  list-line_back key entries rest some few h =
      let long = length-take-le count entries (omega (arith, ((padded_iff 16 0 entries 0 count few).1 h.0).0)) in
      ap (λ m. list_line key item m (line key (map item_text (take count entries)) ++ rest)) (sym long)
      ∙ listed_back key (take count entries) rest (omega arith) (omega arith) h.1
      ∙ ap (λ s. parsed s rest) (sym h.0)

-- a line with a number that is read has it within its limits and stands at the front of the text
pub number-line-read : (key : String) (lo hi : ℕ) (text : List ℕ) (n : ℕ) (rest : List ℕ)
    → number_line key lo hi text ≡ parsed n rest
    → (lo ≤ n) × (n ≤ hi) × (text ≡ line key (numeral n ∷ []) ++ rest)
unfolding number_line
number-line-read key lo hi text n rest p =
    then-read (literal (bytes key) text) p (λ _ mid word q.
    let w = within-read lo hi line_feed mid n rest q in (
      w.0,
      w.1.0,
      literal-read (bytes key) text mid word ∙ ap (λ s. bytes key ++ s) w.1.1
          ∙ sym (line-text key (numeral n ∷ []) rest),
    ))

-- a line with a number within its limits is read
pub number-line_back : (key : String) (lo hi n : ℕ) (rest : List ℕ) → lo ≤ n → n ≤ hi → hi < 1000
    → number_line key lo hi (line key (numeral n ∷ []) ++ rest) ≡ parsed n rest
unfolding number_line
number-line_back key lo hi n rest l h b =
    ap (number_line key lo hi) (line-text key (numeral n ∷ []) rest)
    ∙ then_back _ (literal_back (bytes key) (numeral n ++ (line_feed ∷ rest)))
    (within_back lo hi line_feed n rest refl l h b)
