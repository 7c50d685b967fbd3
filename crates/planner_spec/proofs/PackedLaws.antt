-- A packed answer can be taken apart: each field but the floor stands where document 01 says, wherever the fields fit.
-- Assumes nothing.
use mathlib.Core.Path.{◌≡◌}
use Prim.Native.Nat.{◌/◌, ◌%◌, ◌<◌}
use native.Mathlib.Omega.{arith}
use Rattle.search_spec.specs.declared.Answer.{Answer}
use Rattle.planner_spec.specs.Packed.{packed, unpacked}

-- the fields of an answer but the floor fit one byte, 16 bits, one byte and 32 bits
pub record Fits (answer : Answer) : Type 0 where
  pub outcome : answer.outcome < 256
  pub cost : answer.cost < 65536
  pub length : answer.length < 256
  pub steps : answer.steps < 4294967296

module _ (answer : Answer) (fits : Fits answer) where
  pub packed-outcome : packed answer % 256 ≡ answer.outcome
  unfolding packed
  packed-outcome = omega arith

  pub packed-length : packed answer / 256 % 256 ≡ answer.length
  unfolding packed
  packed-length = omega arith

  pub packed_cost : packed answer / 65536 % 65536 ≡ answer.cost
  unfolding packed
  packed_cost = omega arith

  pub packed-steps : packed answer / 4294967296 ≡ answer.steps
  unfolding packed
  packed-steps = omega arith

  -- so the number stands for the answer, beside its floor
  pub unpacked-packed : unpacked answer.floor (packed answer) ≡ answer
  unfolding unpacked
  unpacked-packed = λ i. record {
    outcome = packed-outcome i;
    cost = packed_cost i;
    length = packed-length i;
    steps = packed-steps i;
    floor = answer.floor;
  }

  -- it fits 64 bits
  pub packed-fits : packed answer < 18446744073709551616
  unfolding packed
  packed-fits = omega arith
