-- The bound on the length of a file is reached: a valid set whose file has 4,292 bytes, by evaluation.
-- Assumes nothing.
use mathlib.Core.Path.{◌≡◌, refl}
use mathlib.Core.Bool.{true}
use mathlib.Core.List.{[], ◌∷◌, ◌++◌, map}
use Prim.Native.Nat.{ℕ, ◌+◌, ◌/◌, ◌%◌}
use lib.ListN.{length, replicate}
use Rattle.theory_spec.specs.Lists.{numbers_from}
use Rattle.model_spec.specs.States.{width}
use Rattle.model_spec.specs.Validity.{entry_limited, condition_placed, effect_placed, condition_valid, effect_valid}
use Rattle.model_spec.specs.Validity.{size_valid, sizes_valid, rule_valid, rule_valid_at, rules_valid}
use Rattle.model_spec.specs.Validity.{duplicate, repeated, has_duplicates, well_formed, valid}
use Rattle.model_spec.specs.declared.Rule.{Rule}
use Rattle.model_spec.specs.declared.RuleSet.{RuleSet}
use Rattle.files_spec.specs.Text.{numeral, line}
use Rattle.files_spec.specs.File.{entry_text, rule_text, render}

-- a rule of 136 bytes: its condition is x1 to x16, its effect of x10 to x16 alone, and the last two entries tell the
-- rules apart
abbrev longest_rule : ℕ → Rule
longest_rule k =
    record { cost = 255; condition = numbers_from 16 16; effect = replicate 14 25 ++ ((25 + k / 7) ∷ (25 + k % 7) ∷ []) }

-- sixteen positions of size 16, 31 rules
abbrev pub longest : RuleSet
longest = record { positions = 16; sizes = replicate 16 16; count = 31; rules = map longest_rule (numbers_from 0 31) }

-- it is valid
pub longest-valid : valid longest ≡ true
unfolding valid well_formed sizes_valid size_valid rules_valid rule_valid_at rule_valid condition_valid effect_valid entry_limited
    condition_placed effect_placed width has_duplicates repeated duplicate
longest-valid = refl

-- its file has as many bytes as a valid set's can have
pub longest-length : length (render longest) ≡ 4292
unfolding render rule_text entry_text line numeral
longest-length = refl
