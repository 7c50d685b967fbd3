-- What a call leaves of a buffer that it blanks, or whose rest it blanks.
use Rattle.std.specs.Prelude.{List, ◌++◌, ℕ, ◌-◌, length, take, replicate}

-- the buffer with a byte in every place from a place on
unfoldable pub filled_from : ℕ → ℕ → List ℕ → List ℕ
filled_from byte from buffer = take from buffer ++ replicate (length buffer - from) byte
