-- What owning a rule set tells of its rules: there are as many as the type says.
-- A proof hands over `c.good.0` of a parameter, or `.ok` of a call's result.
-- Assumes nothing.
use mathlib.Core.Path.{◌≡◌}
use mathlib.Core.List.{List}
use lib.ListN.{length}
use mir.Val.{Val}
use denote.Laws.{Is}
use denote.Struct.Laws as LL
use Rattle.model_spec.specs.declared.RuleSet.{RuleSet}
use Rattle.model_spec.specs.contracts.RuleSet as T
use Rattle.model_spec.proofs.RuleSet.TheLaws as T'

pub rules_31 : (s : RuleSet) (vs : List Val) → Is T.the_row s vs → length s.rules ≡ 31
rules_31 s vs is = (LL.owed T.the_type T'.the_laws s vs is).1.1.1.0.1.0.1
