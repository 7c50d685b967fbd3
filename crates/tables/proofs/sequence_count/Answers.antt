-- `tables::sequence_count` meets its contract. The invariant: `first` is the number of sequences of as many rules as
-- there were turns.
use mathlib.Core.Path.{◌≡◌, sym, ap, ◌∙◌}
use Prim.Native.Nat.{ℕ, ◌+◌, ◌*◌, ◌≤◌, ◌<◌}
use native.Mathlib.Numerals.{add-one}
use native.Mathlib.Omega.{arith}
use Rattle.tables_spec.specs.Table.{sequence_count}
use Rattle.tables_spec.proofs.CountLaws.{count_next, count_byte}
use Rattle.tables.proofs.sequence_count.Goals as goal

-- the next number of sequences
next : (m n first : ℕ) → first ≡ sequence_count m n → first * m + 1 ≡ sequence_count m (n + 1)
next m n first e = ap (λ k. k * m + 1) e ∙ sym (count_next m n) ∙ ap (sequence_count m) (sym (add-one n))

-- and it is small
next-bound : (m n first : ℕ) → m ≤ 255 → n < 3 → first ≡ sequence_count m n → first * m + 1 ≤ 16646656
next-bound m n first few h e = rw (next m n first e) (count_byte m (n + 1) few (omega arith))

pub overflow_mul-first : goal.overflow_mul-first
overflow_mul-first c =
    omega (arith, next-bound c.args.count c.loop.counter c.loop.first (omega arith) (omega arith) c.loop.invariant)

pub overflow_add-first : goal.overflow_add-first
overflow_add-first c =
    omega (arith, next-bound c.args.count c.loop.counter c.loop.first (omega arith) (omega arith) c.loop.invariant)

pub loop-preserved : goal.loop-preserved
loop-preserved c = next c.args.count c.loop.counter c.loop.first c.loop.invariant
