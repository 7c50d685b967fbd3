-- The rule file of a set (document 01: the file is key=value lines in a fixed order, each ended by one line feed, with
-- no spaces).
use Rattle.std.specs.Prelude.{cond, List, [], ◌∷◌, ◌++◌, map, ℕ, ◌-◌, take}
use Rattle.theory_spec.specs.Lists.{flat}
use Rattle.model_spec.specs.States.{is_constant}
use Rattle.model_spec.specs.declared.Rule.{Rule}
use Rattle.model_spec.specs.declared.RuleSet.{RuleSet}
use Rattle.files_spec.specs.Text.{numeral, line}

-- the letter `x`
abbrev pub variable_letter : ℕ
variable_letter = 120

-- an entry's text: a constant's number, or `x` and the number of the variable's position
unfoldable pub entry_text : ℕ → List ℕ
entry_text e = cond (is_constant e) (numeral e) (variable_letter ∷ numeral (e - 15))

-- the three lines of a rule, one entry a position
unfoldable pub rule_text : ℕ → Rule → List ℕ
rule_text positions rule =
    line "cost=" (numeral rule.cost ∷ [])
    ++ line "if=" (map entry_text (take positions rule.condition))
    ++ line "then=" (map entry_text (take positions rule.effect))

-- the file of a set
unfoldable pub render : RuleSet → List ℕ
render set =
    line "positions=" (numeral set.positions ∷ [])
    ++ line "sizes=" (map numeral (take set.positions set.sizes))
    ++ line "rules=" (numeral set.count ∷ [])
    ++ flat (rule_text set.positions) (take set.count set.rules)
