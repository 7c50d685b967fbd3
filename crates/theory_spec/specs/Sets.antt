-- Sets of small numbers as numbers: k is a member of the set m if the binary digit k of m is 1. The lowest digit is
-- digit 0.
use Rattle.std.specs.Prelude.{Bool, cond, ℕ, zero, suc, ◌+◌, ◌/◌, ◌%◌, ◌^◌, eqb}

-- k is a member of the set m
unfoldable pub has : ℕ → ℕ → Bool
has m k = eqb (m / 2 ^ k % 2) 1

-- the set of the numbers below n that pass a test
unfoldable pub set_of : (ℕ → Bool) → ℕ → ℕ
set_of p zero = 0
set_of p (suc n) = set_of p n + cond (p n) (2 ^ n) 0
