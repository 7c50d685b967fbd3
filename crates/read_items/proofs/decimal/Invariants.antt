-- `read_items::decimal` meets its contract.
-- The invariant: the digits left, read on from the value, give the whole; the value has as many digits as were read.
use Prim.Native.Nat.{◌<◌, ◌^◌}
use mathlib.Core.Path.{◌≡◌}
use lib.ListN.{drop}
use Rattle.files_spec.specs.Reading.{decimal_from, decimal}
use Rattle.read_items.proofs.decimal.Given as goal

abbrev pub invariant-loop-digit : goal.invariant-loop-digit
invariant-loop-digit l =
    (l.value < 10 ^ l.digit-index)
    × (decimal_from l.value (drop l.digit-index l.digits) ≡ decimal l.digits)
