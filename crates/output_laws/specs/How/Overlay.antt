-- What a function that lays text over a buffer leaves there. No answer mentions it: it ties the functions to the
-- definitions of the texts.
use Rattle.std.specs.Prelude.{◌≡◌, List, [], ◌∷◌, ◌++◌, map, ℕ, ◌+◌, ◌-◌, min, length, take, set}
use Rattle.std.specs.Borrow.{MutBor}
use Rattle.files_spec.specs.Text.{comma_list, line_feed, numeral}

-- the largest place, the top of the machine's numbers: no buffer reaches it
abbrev pub last_place : ℕ
last_place = 18446744073709551615

-- the place n bytes after a place, held at the last
unfoldable pub place_after : ℕ → ℕ → ℕ
place_after at n = at + min n (last_place - at)

-- the text with these bytes laid over it from a place on, as far as it reaches
unfoldable pub overlaid : ℕ → List ℕ → List ℕ → List ℕ
overlaid at [] text = text
overlaid at (b ∷ bytes) text = overlaid (place_after at 1) bytes (set text at b)

-- the bytes were laid over the text `before` from `at` on, which left the text `after`, and `next` is the place after
-- them, even past the text's end
pub record Laid (at : ℕ) (bytes before : List ℕ) (next : ℕ) (after : List ℕ) : Type 0 where
  pub place : next ≡ place_after at (length bytes)
  pub text : after ≡ overlaid at bytes before

-- the same of a page: its buffer, which stays the same one, and the place of its next byte
pub record LaidOn (at : ℕ) (bytes : List ℕ) (before : MutBor (List ℕ)) (next : ℕ) (after : MutBor (List ℕ))
    : Type 0 where
  pub same : after.ghost_name ≡ before.ghost_name
  pub laid : Laid at bytes before.now next after.now

-- a number as it is laid: its numeral, that of 999 for a larger one
abbrev pub shown_numeral : ℕ → List ℕ
shown_numeral n = numeral (min n 999)

-- what stands after the key of a line with the first `count` of these items
unfoldable pub list_text : (ℕ → List ℕ) → ℕ → List ℕ → List ℕ
list_text item_text count items = comma_list (map item_text (take count items)) ++ (line_feed ∷ [])
