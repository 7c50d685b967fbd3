-- An outcome and a length as one 64-bit number, for the C entries that tell both.
use Rattle.std.specs.Prelude.{ℕ, ◌+◌, ◌*◌}

-- the outcome in the low byte, the length above it
unfoldable pub packed_length : ℕ → ℕ → ℕ
packed_length outcome size = outcome + 256 * size
