-- What keeps a packed length within 64 bits, whatever is packed.
use Rattle.std.specs.Prelude.{ℕ}

-- the lengths below this have room above the low byte of 64 bits
abbrev pub length_limit : ℕ
length_limit = 72057594037927936
