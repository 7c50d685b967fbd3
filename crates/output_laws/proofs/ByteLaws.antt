-- What owning a rule or a rule set tells of its numbers: each is a byte, and so has at most three digits.
-- A proof hands over `c.good` of a parameter, at the parameter's place.
-- Assumes nothing.
use mathlib.Core.List.{List}
use Prim.Native.Nat.{◌≤◌}
use native.Mathlib.Omega.{arith}
use mir.Val.{Val}
use denote.Laws.{Is}
use denote.Struct.Laws as LL
use Rattle.model_spec.specs.declared.Rule.{Rule}
use Rattle.model_spec.specs.declared.RuleSet.{RuleSet}
use Rattle.model_spec.specs.contracts.Rule as R
use Rattle.model_spec.proofs.Rule.TheLaws as R'
use Rattle.model_spec.specs.contracts.RuleSet as S
use Rattle.model_spec.proofs.RuleSet.TheLaws as S'

pub cost_byte : (rule : Rule) (vs : List Val) → Is R.the_row rule vs → rule.cost ≤ 255
cost_byte rule vs is = omega (arith, (LL.owed R.the_type R'.the_laws rule vs is).0.1)

module _ (set : RuleSet) (vs : List Val) (is : Is S.the_row set vs) where
  pub positions_byte : set.positions ≤ 255
  positions_byte = omega (arith, (LL.owed S.the_type S'.the_laws set vs is).0.1)

  pub count_byte : set.count ≤ 255
  count_byte = omega (arith, (LL.owed S.the_type S'.the_laws set vs is).1.1.0.1)
