-- A packed table answer can be taken apart: each part stands in its bits, wherever the parts fit them.
-- Assumes nothing.
use mathlib.Core.Path.{◌≡◌}
use Prim.Native.Nat.{◌/◌, ◌%◌, ◌<◌}
use native.Mathlib.Omega.{arith}
use Rattle.unions_spec.specs.declared.TableAnswer.{TableAnswer}
use Rattle.planner_spec.specs.PackedTable.{packed_table, unpacked_table}

-- the outcome fits one byte, both sets fit 16 bits
pub record TableFits (answer : TableAnswer) : Type 0 where
  pub outcome : answer.outcome < 256
  pub reads : answer.touched.reads < 65536
  pub writes : answer.touched.writes < 65536

module _ (answer : TableAnswer) (fits : TableFits answer) where
  packed-outcome : packed_table answer % 65536 ≡ answer.outcome
  unfolding packed_table
  packed-outcome = omega (arith, fits.outcome)

  packed-reads : packed_table answer / 65536 % 65536 ≡ answer.touched.reads
  unfolding packed_table
  packed-reads = omega (arith, fits.outcome, fits.reads)

  packed-writes : packed_table answer / 4294967296 ≡ answer.touched.writes
  unfolding packed_table
  packed-writes = omega (arith, fits.outcome, fits.reads, fits.writes)

  -- so the number stands for the answer
  pub unpacked-table : unpacked_table (packed_table answer) ≡ answer
  unfolding unpacked_table
  unpacked-table = λ i. record {
    outcome = packed-outcome i;
    touched = record { reads = packed-reads i; writes = packed-writes i };
  }
