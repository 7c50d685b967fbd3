-- What owning a sequence's vectors tells of them: there are as many entries as the type says.
-- A proof hands over `c.good.0` of a parameter.
-- Assumes nothing.
use mathlib.Core.Path.{◌≡◌, sym, ◌∙◌}
use mathlib.Core.List.{List}
use lib.ListN.{length, length-map}
use mir.Val.{Val}
use denote.Laws.{Is}
use denote.Struct.Field.{u8-field}
use denote.Struct.Laws as LL
use Rattle.macros_spec.specs.declared.Vectors.{Vectors}
use Rattle.macros_spec.specs.contracts.Vectors as T
use Rattle.macros_spec.proofs.Vectors.TheLaws as T'

module _ (v : Vectors) (vs : List Val) (is : Is T.the_row v vs) where
  pub condition_16 : length v.condition ≡ 16
  condition_16 =
      (LL.owed T.the_type T'.the_laws v vs is).1.0.1.0.1

  pub effect_16 : length v.effect ≡ 16
  effect_16 = (LL.owed T.the_type T'.the_laws v vs is).1.1.0.1.0.1
