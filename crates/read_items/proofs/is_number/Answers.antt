-- `read_items::is_number` meets its contract, by how many digits there are.
use Prim.Native.Nat.{ℕ, ◌≤◌, ◌<◌}
use mathlib.Core.Path.{◌≡◌}
use mathlib.Core.Bool.{false, not}
use mathlib.Core.List.{List}
use native.Mathlib.Omega.{arith}
use lib.Dec.{eqb}
use lib.ListN.{length, get_or}
use borrow.Author.Tests.{le-leb, lt-leb, ne_eqb}
use Rattle.files_spec.specs.Reading.{is_number}
use Rattle.read_items.proofs.is_number.Goals as goal

module _ (digits : List ℕ) where
  -- of two or three digits the first is judged
  several : 2 ≤ length digits → length digits ≤ 3 → not (eqb (get_or digits 0 0) 48) ≡ is_number digits
  unfolding is_number
  several h k =
      let n = length digits in
      rw (le-leb 1 n (omega arith), le-leb n 3 k, ne_eqb n 1 (omega arith))

  -- without a digit there is no number, nor with more than three
  too_few : length digits < 1 → false ≡ is_number digits
  unfolding is_number
  too_few h = rw (lt-leb 1 (length digits) h)

  too_many : 3 < length digits → false ≡ is_number digits
  unfolding is_number
  too_many h = rw (le-leb 1 (length digits) (omega arith), lt-leb (length digits) 3 h)

pub returns-in-1 : goal.returns-in-1
unfolding is_number
returns-in-1 c = rw c.in-1.is

pub returns-in-2 : goal.returns-in-2
returns-in-2 c = several c.args.digits.now (omega arith) (omega arith)

pub returns-in_default : goal.returns-in_default
returns-in_default c = too_few c.args.digits.now (omega arith)

pub returns-in_default-2 : goal.returns-in_default-2
returns-in_default-2 c = too_many c.args.digits.now (omega arith)
