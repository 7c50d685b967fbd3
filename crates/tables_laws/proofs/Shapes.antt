-- What owning a short sequence tells of its array: it has as many places as the type says.
-- A proof hands over `.ok` of a call's result.
-- Assumes nothing.
use mathlib.Core.Path.{◌≡◌}
use mathlib.Core.List.{List}
use lib.ListN.{length}
use mir.Val.{Val}
use denote.Laws.{Is}
use denote.Struct.Laws as LL
use Rattle.tables_laws.specs.declared.ShortSequence.{ShortSequence}
use Rattle.tables_laws.specs.contracts.ShortSequence as T
use Rattle.tables_laws.proofs.ShortSequence.TheLaws as T'

pub rules_3 : (s : ShortSequence) (vs : List Val) → Is T.the_row s vs → length s.rules ≡ 3
rules_3 s vs is = (LL.owed T.the_type T'.the_laws s vs is).1.0.1.0.1
