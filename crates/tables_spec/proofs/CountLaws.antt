-- Laws of S, the number of sequences of at most `reach` of m rules: it counts them, it is at most 30784, and it bounds
-- their indices with one more rule.
-- Assumes nothing.
use mathlib.Core.Path.{◌≡◌, refl, sym, ap, ap₂, ◌∙◌}
use Prim.Native.Nat.{ℕ, zero, suc, ◌+◌, ◌*◌, ◌^◌, ◌≤◌, ◌<◌}
use native.Mathlib.Nat.{suc-mul, mul-le-mul_right, pow-zero, pow-suc, pow-le-pow_left}
use native.Mathlib.Omega.{arith}
use lib.ListN.{length, length-append, length-map}
use Rattle.theory_spec.specs.Sequences.{level, sequences}
use Rattle.theory_spec.specs.How.Indices.{index_of, level_start, level_count}
use Rattle.theory_spec.proofs.ListLaws.{length-numbers_from}
use Rattle.theory_spec.proofs.IndexLaws.{level_indices, sequences_count}
use Rattle.tables_spec.specs.Table.{sequence_count}

-- m ^ n sequences have exactly n of m rules
level_count_lem : (m n : ℕ) → length (level m n) ≡ m ^ n
level_count_lem m n =
    sym (length-map (level m n) (index_of m)) ∙ ap length (level_indices m n)
    ∙ length-numbers_from (level_start m n) (level_count m n) ∙ size n
  where
    size : (n : ℕ) → level_count m n ≡ m ^ n
    size zero = sym (pow-zero m)
    size (suc n) = ap (λ k. k * m) (size n) ∙ sym (pow-suc m n)

-- S counts the sequences of at most `reach` of m rules
pub count-sequences : (m reach : ℕ) → length (sequences m reach) ≡ sequence_count m reach
count-sequences m zero = refl
count-sequences m (suc reach) =
    length-append (sequences m reach) (level m (suc reach))
    ∙ ap₂ ◌+◌ (count-sequences m reach) (level_count_lem m (suc reach))

-- S is the index of the first longer sequence
pub count_levels : (m n : ℕ) → sequence_count m n ≡ level_start m (suc n)
count_levels m n = sym (count-sequences m n) ∙ sequences_count m n

-- the next S, without a power
pub count_next : (m n : ℕ) → sequence_count m (suc n) ≡ sequence_count m n * m + 1
count_next m n = count_levels m (suc n) ∙ ap (λ k. k * m + 1) (sym (count_levels m n))

-- ── Bounds ───────────────────────────────────────────────────────────────────────────────────────

-- a table has at most 30784 entries
pub count_bound : (m reach : ℕ) → m ≤ 31 → reach ≤ 3 → sequence_count m reach ≤ 30784
count_bound m zero h k = omega arith
count_bound m (suc zero) h k = omega (arith, pow-le-pow_left h 1)
count_bound m (suc (suc zero)) h k = omega (arith, pow-le-pow_left h 1, pow-le-pow_left h 2)
count_bound m (suc (suc (suc zero))) h k = omega (arith, pow-le-pow_left h 1, pow-le-pow_left h 2, pow-le-pow_left h 3)
count_bound m (suc (suc (suc (suc reach)))) h k = absurd (omega arith)

-- with any byte for the number of rules
pub count_byte : (m reach : ℕ) → m ≤ 255 → reach ≤ 3 → sequence_count m reach ≤ 16646656
count_byte m zero h k = omega arith
count_byte m (suc zero) h k = omega (arith, pow-le-pow_left h 1)
count_byte m (suc (suc zero)) h k = omega (arith, pow-le-pow_left h 1, pow-le-pow_left h 2)
count_byte m (suc (suc (suc zero))) h k = omega (arith, pow-le-pow_left h 1, pow-le-pow_left h 2, pow-le-pow_left h 3)
count_byte m (suc (suc (suc (suc reach)))) h k = absurd (omega arith)

-- at most 993 sequences have room for one more rule
pub count_prefix : (m n : ℕ) → m ≤ 31 → n ≤ 2 → sequence_count m n ≤ 993
count_prefix m zero h k = omega arith
count_prefix m (suc zero) h k = omega (arith, pow-le-pow_left h 1)
count_prefix m (suc (suc zero)) h k = omega (arith, pow-le-pow_left h 1, pow-le-pow_left h 2)
count_prefix m (suc (suc (suc n))) h k = absurd (omega arith)

-- the index with one more rule, number k + 1, is one of the sequences of one more rule
pub behind_bound : (m n i k : ℕ) → i < sequence_count m n → k < m → i * m + (k + 1) < sequence_count m (suc n)
behind_bound m n i k h l = omega (arith, suc-mul i m, mul-le-mul_right m h, count_next m n)
