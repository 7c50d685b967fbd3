-- Bytes of a text: words, numbers and comma lists as a rule file and a listing have them.
use Rattle.std.specs.Prelude.{cond, List, [], ◌∷◌, ◌++◌, ℕ, ◌+◌, ◌/◌, ◌%◌, ltb}
use Prim.Native.Char.{code}
use Prim.Native.String.{String, [] as empty, ◌∷◌ as ◌before◌}

-- the bytes of a word
abbrev pub bytes : String → List ℕ
bytes empty = []
bytes (c before word) = code c ∷ bytes word

abbrev pub line_feed : ℕ
line_feed = 10

abbrev pub comma : ℕ
comma = 44

-- the digit of a number below ten
abbrev pub digit : ℕ → ℕ
digit n = 48 + n

-- a number below 1000 in base ten, its first digit not 0 unless it is the only one. No number of a rule file or a
-- listing is larger
unfoldable pub numeral : ℕ → List ℕ
numeral n =
    cond (ltb n 10)
    (digit n ∷ [])
    (cond (ltb n 100)
    (digit (n / 10) ∷ digit (n % 10) ∷ [])
    (digit (n / 100) ∷ digit (n / 10 % 10) ∷ digit (n % 10) ∷ []))

-- the items with commas between them
abbrev pub comma_list : List (List ℕ) → List ℕ
comma_list [] = []
comma_list (x ∷ []) = x
comma_list (x ∷ y ∷ items) = x ++ (comma ∷ comma_list (y ∷ items))

-- a line: a key, a comma list and a line feed
unfoldable pub line : String → List (List ℕ) → List ℕ
line key items = bytes key ++ comma_list items ++ (line_feed ∷ [])
