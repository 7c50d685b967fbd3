-- `read_items::number` meets its contract.
-- The digits are counted and judged, then the byte after them, then their number is made.
use Prim.Native.Nat.{ℕ}
use mathlib.Core.Path.{◌≡◌, refl, sym, ◌∙◌}
use mathlib.Core.Bool.{cond}
use mathlib.Core.List.{List, [], ◌∷◌}
use native.Mathlib.Omega.{arith}
use lib.ListN.{take, drop}
use Rattle.std.specs.List.{prefix_len}
use Rattle.std.proofs.lemmas.List.Sums.{prefix_len-le-length}
use Rattle.files_spec.specs.Reading.{refused, parsed, and_read, literal, is_digit, digits, is_number, decimal, number}
use Rattle.files_spec.proofs.NumberLaws.{number-length}
use Rattle.files_spec.proofs.ParserLaws.{refused-first, then_back}
use Rattle.reader_laws.proofs.FoundLaws.{passed_on}
use Rattle.reader_laws.proofs.ByteLaws.{digits_front, digits_count, digits_all}
use Rattle.read_items.proofs.number.Goals as goal

-- a text split after so many digits as stand at its front
module _
    (text word after : List ℕ) (count : ℕ) (counted : count ≡ prefix_len is_digit text)
    (front : word ≡ take count text) (back : after ≡ drop count text) where
  -- the front are the digits
  all : word ≡ digits text
  all = front ∙ rw counted (digits_front text)

  -- and decides with what is after it
  split : (ending : ℕ) → number ending text
      ≡ cond (is_number word)
      (and_read (literal (ending ∷ []) after) (λ _ rest. parsed (decimal word) rest))
      (refused 1)
  unfolding number
  split ending = rw (all, back, counted, digits_count text)

pub split_at-requires : goal.split_at-requires
split_at-requires c = rw c.digit_count.ensures (prefix_len-le-length is_digit c.args.text.now)

pub returns-then-not-is_number : goal.returns-then-not-is_number
returns-then-not-is_number c =
    split c.args.text.now _ _ _ c.digit_count.ensures c.split_at.ensures.front c.split_at.ensures.back c.args.ending
    ∙ rw (sym c.is_number.ensures ∙ c.if-not-is_number.true)

pub returns-in_err-rest : goal.returns-in_err-rest
returns-in_err-rest c =
    passed_on _ _
    (split c.args.text.now _ _ _ c.digit_count.ensures c.split_at.ensures.front c.split_at.ensures.back c.args.ending
    ∙ rw (sym c.is_number.ensures ∙ c.if-not-is_number.false) (refused-first _ c.in_err-rest.ensures))
    c.from_residual.ensures.1

pub decimal-requires-clause-few : goal.decimal-requires-clause-few
decimal-requires-clause-few c =
    omega (arith, (number-length _ (sym c.is_number.ensures ∙ c.if-not-is_number.false)).1)

pub decimal-requires-clause-all : goal.decimal-requires-clause-all
decimal-requires-clause-all c =
    rw (all c.args.text.now _ _ _ c.digit_count.ensures c.split_at.ensures.front c.split_at.ensures.back)
    (digits_all c.args.text.now)

pub returns : goal.returns
returns c =
    split c.args.text.now _ _ _ c.digit_count.ensures c.split_at.ensures.front c.split_at.ensures.back c.args.ending
    ∙ rw (sym c.is_number.ensures ∙ c.if-not-is_number.false, c.decimal.ensures)
    (then_back _ c.in_ok-rest.ensures refl)
