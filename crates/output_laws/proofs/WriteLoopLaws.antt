-- The turns of the loops that lay a list, item by item: those from place i on remain.
-- Assumes nothing.
use mathlib.Core.Path.{◌≡◌, sym, ap, ◌∙◌}
use mathlib.Core.Logic.{⊎_elim}
use mathlib.Core.List.{List, [], ◌∷◌, ◌++◌, map, append-nil, append_assoc}
use Prim.Native.Nat.{ℕ, ◌+◌, ◌≤◌, ◌<◌, min}
use Prim.Native.String.{String}
use native.Mathlib.Numerals.{add-one}
use native.Mathlib.Omega.{arith}
use lib.ListN.{length, get_or, take, drop, drop_of_length-le}
use lib.Seq.{take_all, drop-cons}
use Rattle.std.proofs.lemmas.List.{nil_from_length}
use Rattle.theory_spec.specs.Lists.{flat}
use Rattle.theory_spec.proofs.TestLaws.{below?}
use Rattle.files_spec.specs.Text.{bytes, line_feed, comma, comma_list, line}
use Rattle.output_laws.specs.How.Overlay.{list_text}

module _ {A : Type 0} (l : List A) where
  -- no more elements are taken than there are
  pub take-least : (count : ℕ) → take (min count (length l)) l ≡ take count l
  take-least count = ⊎_elim (λ h. few h) (λ h. many h) (below? count (length l))
    where
      few : count < length l → take (min count (length l)) l ≡ take count l
      few h = let e : min count (length l) ≡ count = omega arith in rw e

      many : length l ≤ count → take (min count (length l)) l ≡ take count l
      many h = take_all (min count (length l)) l (omega arith) ∙ sym (take_all count l h)

  module _ (item_text : A → List ℕ) where
    -- the text of the items from place i on
    abbrev pub items_from : ℕ → List ℕ
    items_from i = flat item_text (drop i l)

    -- that of the one at i comes first
    pub items_more : (i : ℕ) (d : A) → i < length l → items_from i ≡ item_text (get_or l i d) ++ items_from (i + 1)
    items_more i d h = rw (add-one i, drop-cons l i d h)

    -- none are left
    pub items_end : (i : ℕ) → length l ≤ i → items_from i ≡ []
    items_end i h = ap (flat item_text) (drop_of_length-le l h)

-- ── Comma lists ──────────────────────────────────────────────────────────────────────────────────

module _ (item_text : ℕ → List ℕ) where
  -- a comma and the item
  abbrev pub behind_comma : ℕ → List ℕ
  behind_comma e = comma ∷ item_text e

  -- a comma list is its first item, and each of the others behind a comma
  commas-first : (e : ℕ) (l : List ℕ) → comma_list (map item_text (e ∷ l)) ≡ item_text e ++ flat behind_comma l
  commas-first e [] = sym (append-nil (item_text e))
  commas-first e (f ∷ l) = ap (λ r. item_text e ++ (comma ∷ r)) (commas-first f l)

  module _ (count : ℕ) (items : List ℕ) where
    -- the text of a list, by the items that are shown
    list-shown : (shown : List ℕ) → take (min count (length items)) items ≡ shown
        → list_text item_text count items ≡ comma_list (map item_text shown) ++ (line_feed ∷ [])
    unfolding list_text
    list-shown shown e =
        ap (λ l. comma_list (map item_text l) ++ (line_feed ∷ [])) (sym (take-least items count) ∙ e)

    -- of none there is the line feed alone
    pub list_none : length (take (min count (length items)) items) ≡ 0
        → list_text item_text count items ≡ line_feed ∷ []
    list_none none = list-shown [] (nil_from_length _ none)

    -- of others there is the first, and each of the others behind a comma
    pub list-first : (e : ℕ) (l : List ℕ) → take (min count (length items)) items ≡ e ∷ l
        → list_text item_text count items ≡ (item_text e ++ flat behind_comma l) ++ (line_feed ∷ [])
    list-first e l some = list-shown (e ∷ l) some ∙ ap (λ k. k ++ (line_feed ∷ [])) (commas-first e l)

-- a line is its key and what stands after the key
pub list-line : (item_text : ℕ → List ℕ) (key : String) (count : ℕ) (l : List ℕ)
    → line key (map item_text (take count l)) ≡ bytes key ++ list_text item_text count l
unfolding line list_text
list-line item_text key count l = append_assoc (bytes key) (comma_list (map item_text (take count l))) (line_feed ∷ [])
