-- `read_items::decimal` meets its contract: at first no digit is read.
use mathlib.Core.Path.{refl}
use native.Mathlib.Omega.{arith}
use Rattle.files_spec.specs.Reading.{decimal}
use Rattle.read_items.proofs.decimal.Goals as goal

pub loop-digit-init : goal.loop-digit-init
unfolding decimal
loop-digit-init c = (omega arith, refl)
