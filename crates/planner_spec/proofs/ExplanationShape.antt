-- What owning an explanation tells of its witness: there are three places.
-- A proof hands over `c.good.0` of a parameter.
-- Assumes nothing.
use mathlib.Core.Path.{◌≡◌, sym, ◌∙◌}
use mathlib.Core.List.{List}
use lib.ListN.{length, length-map}
use mir.Val.{Val}
use denote.Laws.{Is}
use denote.Struct.Field.{u8-field}
use denote.Struct.Laws as LL
use Rattle.explain_spec.specs.declared.Explanation.{Explanation}
use Rattle.explain_spec.specs.contracts.Explanation as T
use Rattle.explain_spec.proofs.Explanation.TheLaws as T'

pub witness-places : (answer : Explanation) (vs : List Val) → Is T.the_row answer vs → length answer.witness ≡ 3
witness-places answer vs is =
    (LL.owed T.the_type T'.the_laws answer vs is).1.1.1.1.1.1.1.1.0.1.0.1
