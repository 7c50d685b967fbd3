-- `reader::read` meets its contract: it is the reading of the definition, and that has its meaning.
use mathlib.Core.Path.{◌≡◌, sym, subst, ◌∙◌}
use mathlib.Core.List.{List}
use Prim.Native.Nat.{ℕ}
use Rattle.files_spec.specs.Reading.{reading}
use Rattle.files_spec.specs.Meaning.{ReadMeaning}
use Rattle.files_spec.specs.declared.Reading.{Reading}
use Rattle.files_spec.proofs.MeaningLaws.{read_meaning}
use Rattle.reader.proofs.read.Goals as goal

-- the definition's reading has its meaning
answers : (text : List ℕ) (r : Reading) → reading text ≡ r → (r ≡ reading text) × ReadMeaning text r
answers text r e = (sym e, subst (ReadMeaning text) e (read_meaning text))

pub returns-in-Ok : goal.returns-in-Ok
returns-in-Ok c = answers _ _ c.in-Ok.ensures

pub returns-in-Err : goal.returns-in-Err
returns-in-Err c = answers _ _ (c.in-Err.ensures ∙ rw (c.number_of.ensures, c.empty_set.ensures))
