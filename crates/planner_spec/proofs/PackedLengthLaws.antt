-- A packed length can be taken apart, and fits 64 bits where the length is below 2 to the power 56.
-- Assumes nothing.
use mathlib.Core.Path.{◌≡◌, ap, ◌∙◌}
use Prim.Native.Nat.{ℕ, ◌/◌, ◌%◌, ◌<◌}
use native.Mathlib.Omega.{arith}
use Rattle.planner_spec.specs.PackedLength.{packed_length}
use Rattle.planner_spec.specs.How.LengthLimit.{length_limit}

module _ (outcome size : ℕ) (byte : outcome < 256) where
  pub packed_low : packed_length outcome size % 256 ≡ outcome
  unfolding packed_length
  packed_low = omega arith

  pub packed-rest : packed_length outcome size / 256 ≡ size
  unfolding packed_length
  packed-rest = omega arith

  pub packed_64 : size < length_limit → packed_length outcome size < 18446744073709551616
  unfolding packed_length
  packed_64 h = omega arith

-- what the code packs of a length within the limit is the length packed, and can be taken apart
module _ (outcome size r : ℕ) (byte : outcome < 256) (short : size < length_limit)
    (e : r ≡ packed_length outcome (size % length_limit)) where
  pub packs : r ≡ packed_length outcome size
  unfolding packed_length
  packs = omega (arith, e)

  pub packs-outcome : r % 256 ≡ outcome
  packs-outcome = ap (λ n. n % 256) packs ∙ packed_low outcome size byte

  pub packs-length : r / 256 ≡ size
  packs-length = ap (λ n. n / 256) packs ∙ packed-rest outcome size byte
