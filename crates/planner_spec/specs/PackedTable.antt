-- The answer of the builder and of the check as one 64-bit number, for the C entries.
use Rattle.std.specs.Prelude.{ℕ, ◌+◌, ◌*◌, ◌/◌, ◌%◌}
use Rattle.unions_spec.specs.declared.TableAnswer.{TableAnswer}

-- the outcome in the low byte, the positions read in bits 16 to 31, those written in bits 32 to 47
unfoldable pub packed_table : TableAnswer → ℕ
packed_table answer = answer.outcome + 65536 * answer.touched.reads + 4294967296 * answer.touched.writes

-- the answer that such a number stands for: its parts again, with every digit of the number in one of them
unfoldable pub unpacked_table : ℕ → TableAnswer
unpacked_table n = record {
  outcome = n % 65536;
  touched = record { reads = n / 65536 % 65536; writes = n / 4294967296 };
}
