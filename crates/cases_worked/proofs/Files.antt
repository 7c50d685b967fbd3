-- Rule files read: the Edges of document 01, and one file for each kind of fault, by evaluation. And the files of the
-- worked cases, written back.
use Prim.Native.Nat.{ℕ, ◌/◌, ◌%◌}
use Prim.Native.String.{String}
use mathlib.Core.Path.{◌≡◌, refl}
use mathlib.Core.List.{List, [], ◌∷◌, ◌++◌, map}
use Rattle.theory_spec.specs.Lists.{flat, numbers_from}
use Rattle.model_spec.specs.States.{width}
use Rattle.model_spec.specs.Validity.{condition_placed, effect_placed, duplicate, repeated, has_duplicates}
use Rattle.files_spec.specs.Text.{bytes, numeral, line}
use Rattle.files_spec.specs.File.{entry_text, rule_text, render}
use Rattle.files_spec.specs.Reading.{literal, digits, is_number, decimal, number, number_within, variable, constant}
use Rattle.files_spec.specs.Reading.{entry, size_item, condition_item, effect_item, items_after, number_line, list_line}
use Rattle.files_spec.specs.Reading.{rule_lines, rules_after, rule_list, file_lines, finished, reading}

-- a text, and the outcome of reading it
pub record Row : Type 0 where
  pub text : List ℕ
  pub outcome : ℕ

-- a file of one rule, by what stands after each sign
abbrev file : String → String → String → String → String → List ℕ
file positions sizes cost condition effect =
    bytes "positions=" ++ bytes positions ++ bytes "\nsizes=" ++ bytes sizes ++ bytes "\nrules=1\ncost=" ++ bytes cost
    ++ bytes "\nif=" ++ bytes condition ++ bytes "\nthen=" ++ bytes effect ++ bytes "\n"

-- a file of one rule on two positions of size 3
abbrev lines : String → String → List ℕ
lines condition effect = file "2" "3,3" "1" condition effect

-- a file of one rule on two positions, the first of a single value, or the second, or both
abbrev single_first : String → String → List ℕ
single_first condition effect = file "2" "1,2" "1" condition effect

abbrev single_last : String → String → List ℕ
single_last condition effect = file "2" "2,1" "1" condition effect

abbrev all_single : String → String → List ℕ
all_single condition effect = file "2" "1,1" "1" condition effect

-- a file of n rules, no two alike
abbrev many : ℕ → List ℕ
many n =
    bytes "positions=2\nsizes=16,16\nrules=" ++ numeral n ++ bytes "\n"
    ++ flat (λ k. bytes "cost=0\n" ++ line "if=" (numeral (k / 16) ∷ numeral (k % 16) ∷ []) ++ bytes "then=0,0\n")
    (numbers_from 0 n)

-- a rule that makes 1 of 0, at a cost; a file of it at two costs
abbrev to_one : String → List ℕ
to_one cost = bytes "cost=" ++ bytes cost ++ bytes "\nif=0\nthen=1\n"

abbrev twice : String → String → List ℕ
twice first second = bytes "positions=1\nsizes=2\nrules=2\n" ++ to_one first ++ to_one second

-- E with a third rule like its first, these two at the costs given
abbrev pub like_first : String → String → List ℕ
like_first first third =
    bytes "positions=2\nsizes=2,2\nrules=3\ncost=" ++ bytes first ++ bytes "\nif=x1,x2\nthen=0,x2\n"
    ++ bytes "cost=1\nif=x1,x2\nthen=x1,0\ncost=" ++ bytes third ++ bytes "\nif=x1,x2\nthen=0,x2\n"

abbrev pub rows : List Row
rows =
    -- the Edges
    record { text = file "1" "16" "1" "x1" "15"; outcome = 0 }
    ∷ record { text = file "1" "17" "1" "x1" "15"; outcome = 2 }
    ∷ record { text = many 31; outcome = 0 }
    ∷ record { text = many 32; outcome = 2 }
    ∷ record { text = file "1" "2" "255" "x1" "0"; outcome = 0 }
    ∷ record { text = file "1" "2" "256" "x1" "0"; outcome = 2 }
    ∷ record { text = lines "x2,x2" "0,0"; outcome = 3 }
    ∷ record { text = lines "x3,x2" "0,0"; outcome = 2 }
    ∷ record { text = lines "00,x2" "0,0"; outcome = 1 }
    -- numbers: the byte that ends one is judged before its limit
    ∷ record { text = []; outcome = 1 }
    ∷ record { text = bytes "\n"; outcome = 1 }
    ∷ record { text = bytes "positions=17\n"; outcome = 2 }
    ∷ record { text = bytes "positions=0\n"; outcome = 2 }
    ∷ record { text = bytes "positions=17,"; outcome = 1 }
    ∷ record { text = bytes "positions=17"; outcome = 1 }
    ∷ record { text = bytes "positions=016\n"; outcome = 1 }
    ∷ record { text = bytes "positions=1000\n"; outcome = 1 }
    ∷ record { text = bytes "positions=999\n"; outcome = 2 }
    ∷ record { text = bytes "positions=\n"; outcome = 1 }
    ∷ record { text = bytes "positions= 1\n"; outcome = 1 }
    ∷ record { text = bytes "positions=+1\n"; outcome = 1 }
    ∷ record { text = bytes "positions=x1\n"; outcome = 1 }
    ∷ record { text = bytes "Positions=1\n"; outcome = 1 }
    ∷ record { text = bytes "positions=2\r\n"; outcome = 1 }
    ∷ record { text = bytes "positions=2" ++ (178 ∷ 10 ∷ []); outcome = 1 }
    ∷ record { text = bytes "positions=2" ++ (0 ∷ 10 ∷ []); outcome = 1 }
    -- item by item
    ∷ record { text = bytes "positions=3\nsizes=0,2\n"; outcome = 2 }
    ∷ record { text = bytes "positions=3\nsizes=2,0\n"; outcome = 1 }
    ∷ record { text = bytes "positions=1\nsizes=2,2\n"; outcome = 1 }
    ∷ record { text = bytes "positions=1\nsizes=2\nrules=0\n"; outcome = 2 }
    ∷ record { text = lines "x2,?" "0,0"; outcome = 3 }
    ∷ record { text = lines "9;x2" "0,0"; outcome = 1 }
    ∷ record { text = lines "9,x2" "0,0"; outcome = 2 }
    ∷ record { text = lines "3,x2" "0,0"; outcome = 2 }
    -- variables
    ∷ record { text = lines "x0,x2" "0,0"; outcome = 2 }
    ∷ record { text = lines "x17,x2" "0,0"; outcome = 2 }
    ∷ record { text = lines "x999,x2" "0,0"; outcome = 2 }
    ∷ record { text = lines "x,x2" "0,0"; outcome = 1 }
    ∷ record { text = lines "x01,x2" "0,0"; outcome = 1 }
    ∷ record { text = lines "x1000,x2" "0,0"; outcome = 1 }
    ∷ record { text = lines "X1,x2" "0,0"; outcome = 1 }
    ∷ record { text = lines "x1,x1" "x1,x1"; outcome = 0 }
    ∷ record { text = lines "0,x1" "0,0"; outcome = 3 }
    ∷ record { text = file "2" "3,2" "1" "x1,x1" "0,0"; outcome = 3 }
    ∷ record { text = lines "x1,x2" "x2,x1"; outcome = 0 }
    ∷ record { text = lines "x1,x1" "x2,x1"; outcome = 3 }
    ∷ record { text = file "2" "3,2" "1" "x1,x2" "x2,0"; outcome = 3 }
    -- positions with a single value (document 02, request 2026-05): both lines have 0 there. Another constant is 2, and
    -- so is a variable of no position; any other variable there is 3, and one elsewhere that names such a position
    ∷ record { text = single_first "0,x2" "0,0"; outcome = 0 }
    ∷ record { text = single_first "1,x2" "0,0"; outcome = 2 }
    ∷ record { text = single_first "x0,x2" "0,0"; outcome = 2 }
    ∷ record { text = single_first "x3,x2" "0,0"; outcome = 2 }
    ∷ record { text = single_first "x1,x2" "0,0"; outcome = 3 }
    ∷ record { text = single_first "x2,x2" "0,0"; outcome = 3 }
    ∷ record { text = single_first "0,x1" "0,0"; outcome = 3 }
    ∷ record { text = single_first "0,x2" "1,0"; outcome = 2 }
    ∷ record { text = single_first "0,x2" "x0,0"; outcome = 2 }
    ∷ record { text = single_first "0,x2" "x3,0"; outcome = 2 }
    ∷ record { text = single_first "0,x2" "x1,0"; outcome = 3 }
    ∷ record { text = single_first "0,x2" "x2,0"; outcome = 3 }
    ∷ record { text = single_first "0,x2" "0,x1"; outcome = 3 }
    ∷ record { text = single_last "x1,0" "0,0"; outcome = 0 }
    ∷ record { text = single_last "x1,1" "0,0"; outcome = 2 }
    ∷ record { text = single_last "x1,x0" "0,0"; outcome = 2 }
    ∷ record { text = single_last "x1,x3" "0,0"; outcome = 2 }
    ∷ record { text = single_last "x1,x1" "0,0"; outcome = 3 }
    ∷ record { text = single_last "x1,x2" "0,0"; outcome = 3 }
    ∷ record { text = single_last "x1,0" "0,1"; outcome = 2 }
    ∷ record { text = single_last "x1,0" "0,x0"; outcome = 2 }
    ∷ record { text = single_last "x1,0" "0,x3"; outcome = 2 }
    ∷ record { text = single_last "x1,0" "0,x2"; outcome = 3 }
    ∷ record { text = single_last "x1,0" "0,x1"; outcome = 3 }
    ∷ record { text = single_last "x1,0" "x2,0"; outcome = 3 }
    ∷ record { text = all_single "0,0" "0,0"; outcome = 0 }
    ∷ record { text = all_single "x1,0" "0,0"; outcome = 3 }
    ∷ record { text = all_single "0,x1" "0,0"; outcome = 3 }
    ∷ record { text = all_single "0,0" "x1,0"; outcome = 3 }
    ∷ record { text = all_single "0,0" "x2,0"; outcome = 3 }
    ∷ record { text = file "1" "1" "1" "0" "0"; outcome = 0 }
    ∷ record { text = file "1" "0" "1" "0" "0"; outcome = 2 }
    -- item by item there too
    ∷ record { text = bytes "positions=3\nsizes=1,2\n"; outcome = 1 }
    ∷ record { text = single_first "x1;x2" "0,0"; outcome = 1 }
    ∷ record { text = single_first "x1,?" "0,0"; outcome = 3 }
    ∷ record { text = single_first "1,x1" "0,0"; outcome = 2 }
    -- rules: one less and one more than announced, duplicates, bytes left over
    ∷ record { text = bytes "positions=1\nsizes=2\nrules=2\ncost=1\nif=0\nthen=1\n"; outcome = 1 }
    ∷ record { text = lines "0,0" "1,1" ++ bytes "cost=1\nif=0,0\nthen=2,2\n"; outcome = 1 }
    ∷ record { text = twice "1" "1"; outcome = 4 }
    ∷ record { text = twice "1" "1" ++ bytes "\n"; outcome = 1 }
    ∷ record { text = bytes "positions=1\nsizes=2\nrules=2\ncost=1\nif=0\nthen=1\ncost=1\nif=0\nthen=1"; outcome = 1 }
    -- equal lines at other costs (document 02, request 2026-02), by whatever digit, and bytes left over; then at equal
    -- costs, the least and the most
    ∷ record { text = twice "1" "2"; outcome = 0 }
    ∷ record { text = twice "2" "1"; outcome = 0 }
    ∷ record { text = twice "0" "255"; outcome = 0 }
    ∷ record { text = twice "255" "127"; outcome = 0 }
    ∷ record { text = twice "10" "11"; outcome = 0 }
    ∷ record { text = twice "1" "2" ++ bytes "\n"; outcome = 1 }
    ∷ record { text = twice "0" "0"; outcome = 4 }
    ∷ record { text = twice "255" "255"; outcome = 4 }
    -- two of three are equal in all; E with a third rule like its first, at cost 1, at cost 2, and the dearer one first
    ∷ record {
      text = bytes "positions=1\nsizes=2\nrules=3\n" ++ to_one "1" ++ to_one "2" ++ to_one "1";
      outcome = 4;
    }
    ∷ record { text = like_first "1" "1"; outcome = 4 }
    ∷ record { text = like_first "1" "2"; outcome = 0 }
    ∷ record { text = like_first "2" "1"; outcome = 0 }
    ∷ []

pub files-read : map (λ (row : Row). (reading row.text).outcome) rows ≡ map (λ (row : Row). row.outcome) rows
unfolding width condition_placed effect_placed duplicate repeated has_duplicates numeral line literal digits is_number
    decimal number number_within variable constant entry size_item condition_item effect_item items_after number_line list_line
    rule_lines rules_after rule_list file_lines finished reading
files-read = refl

-- a file read and written again
abbrev rewritten : List ℕ → List ℕ
rewritten text = render (reading text).set

abbrev files : List (List ℕ)
files =
    many 31 ∷ lines "x1,x1" "2,x1" ∷ file "1" "16" "255" "x1" "15" ∷ like_first "1" "2" ∷ like_first "2" "1"
    ∷ single_first "0,x2" "0,1" ∷ all_single "0,0" "0,0" ∷ []

pub files-rewritten : map rewritten files ≡ files
unfolding width condition_placed effect_placed duplicate repeated has_duplicates numeral line entry_text rule_text render
    literal digits is_number decimal number number_within variable constant entry size_item condition_item effect_item
    items_after number_line list_line rule_lines rules_after rule_list file_lines finished reading
files-rewritten = refl
