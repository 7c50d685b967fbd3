-- What the texts of the case programs stand for: rule files on one line, fields, and numbers.
use Rattle.std.specs.Prelude.{cond, List, ℕ, suc, min, ◌+◌, ◌*◌, ◌/◌, ◌%◌, eqb, leb, take, drop, set}
use Rattle.std.specs.List.{position_or_len}
use Rattle.theory_spec.specs.How.Folds.{fold_over}

-- a byte of a rule file that is written on one line: `/` stands for a line feed
unfoldable pub line_fed : ℕ → ℕ
line_fed byte = cond (eqb byte 47) 10 byte

-- the first place of a byte in a text; the text's length where there is none
abbrev pub index_of : ℕ → List ℕ → ℕ
index_of byte text = position_or_len (λ b. eqb b byte) text

-- the part of a text up to the first place of a byte; all of it where there is none
unfoldable pub up_to : ℕ → List ℕ → List ℕ
up_to byte text = take (index_of byte text) text

-- what follows that place; nothing where there is none
unfoldable pub behind : ℕ → List ℕ → List ℕ
behind byte text = drop (suc (index_of byte text)) text

-- the largest number of 64 bits
abbrev pub largest : ℕ
largest = 18446744073709551615

-- a number with one digit more; the largest one where that is too large
unfoldable pub with_digit : ℕ → ℕ → ℕ
with_digit byte number = min (10 * number + byte % 16) largest

-- the number of a text: each byte is the digit of its low four bits
unfoldable pub number_of : List ℕ → ℕ
number_of text = fold_over with_digit 0 text

-- a table with a value at an index below 32,768, low byte first; at another index nothing is put: no table is so long
unfoldable pub with_entry : ℕ → ℕ → List ℕ → List ℕ
with_entry index value table =
    cond (leb 32768 index) table (set (set table (2 * index) (value % 256)) (2 * index + 1) (value / 256 % 256))
