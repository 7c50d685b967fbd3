-- `witness_rules::index_behind` meets its contract: the product is at most 65535 · 255.
use Prim.Native.Nat.{ℕ, ◌*◌, ◌≤◌}
use native.Mathlib.Nat.{mul-le-mul}
use native.Mathlib.Omega.{arith}
use Rattle.witness_rules.proofs.index_behind.Goals as goal

-- the product fits
small : (index count : ℕ) → index ≤ 65535 → count ≤ 255 → index * count ≤ 65535 * 255
small index count h k = mul-le-mul h k

pub overflow_mul-result : goal.overflow_mul-result
overflow_mul-result c = omega (arith, small c.args.index c.args.count (omega arith) (omega arith))

pub overflow_add-result : goal.overflow_add-result
overflow_add-result c = omega (arith, small c.args.index c.args.count (omega arith) (omega arith))
