-- The limits that document 01 sets, and the numbers of entries.
use Rattle.std.specs.Prelude.{ℕ}

-- a set has at most 16 positions
abbrev pub max_positions : ℕ
max_positions = 16

-- states, conditions, effects and sizes have a place for each position that there can be
abbrev pub place_count : ℕ
place_count = 16

-- a position has at most 16 values
abbrev pub max_size : ℕ
max_size = 16

-- a set has at most 31 rules, and a place for each
abbrev pub max_rules : ℕ
max_rules = 31

-- a rule costs at most 255
abbrev pub max_rule_cost : ℕ
max_rule_cost = 255

-- a sequence has at most 32 moves
abbrev pub move_limit : ℕ
move_limit = 32

-- an entry below 16 is a constant; this one is the variable of position 1, and so on
abbrev pub first_variable : ℕ
first_variable = 16
