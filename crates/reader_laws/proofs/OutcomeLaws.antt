-- What the reader gives of a text, by what its lines gave.
-- Assumes nothing.
use mathlib.Core.Path.{◌≡◌, sym, ◌∙◌}
use mathlib.Core.Bool.{Bool, true, false, not}
use mathlib.Core.List.{List, [], ◌∷◌}
use Prim.Native.Nat.{ℕ, ◌<◌}
use native.Mathlib.Omega.{arith}
use lib.ListN.{length}
use borrow.Author.Tests.{not-true, not-false}
use Rattle.std.specs.Prelude.{Result, Ok, Err, IsErrAnd}
use Rattle.refusals_spec.specs.declared.Refusal.{Refusal}
use Rattle.refusals_spec.specs.Numbers.{number_of}
use Rattle.model_spec.specs.Rules.{empty_set}
use Rattle.model_spec.specs.Validity.{has_duplicates, valid}
use Rattle.model_spec.specs.declared.RuleSet.{RuleSet}
use Rattle.files_spec.specs.Reading.{refused, parsed, file_lines, reading}
use Rattle.files_spec.proofs.FileLaws.{file-read}
use Rattle.files_spec.proofs.ReadingLaws.{line_refused, left_over_lem, at-end}
use Rattle.reader_laws.specs.How.Found.{reading_as}

-- a line was refused, and `?` passes that on
pub refused_line : (text : List ℕ) (refusal : Refusal) (result : Result RuleSet Refusal)
    → file_lines text ≡ refused (number_of refusal) → IsErrAnd result (λ e. e ≡ refusal)
    → reading text ≡ reading_as result
refused_line text refusal (Ok set) lines w = absurd w
refused_line text refusal (Err e) lines w = rw w (line_refused text (number_of refusal) lines)

-- the lines were read
module _ (text : List ℕ) (set : RuleSet) where
  -- and bytes are left over
  pub bytes_left : (rest : List ℕ) → file_lines text ≡ parsed set rest → 0 < length rest
      → reading text ≡ record { outcome = 1; set = empty_set }
  bytes_left [] lines h = absurd (omega arith)
  bytes_left (b ∷ rest) lines h = left_over_lem text set b rest lines

  -- to the text's end
  module _ (rest : List ℕ) (lines : file_lines text ≡ parsed set rest) (ended : length rest ≡ 0)
      {r : Bool} (v : r ≡ valid set) where
    -- nothing is left over
    whole : file_lines text ≡ parsed set []
    whole = go rest lines ended
      where
        go : (rest : List ℕ) → file_lines text ≡ parsed set rest → length rest ≡ 0 → file_lines text ≡ parsed set []
        go [] e h = e
        go (b ∷ rest) e h = absurd (omega arith)

    -- what was read is valid exactly if it has no duplicates
    only-duplicates : r ≡ not (has_duplicates set.rules set.count)
    unfolding valid
    only-duplicates = v ∙ rw (file-read text set [] whole).0

    -- it has some
    pub duplicates_read : not r ≡ true → reading text ≡ record { outcome = 4; set = empty_set }
    duplicates_read n =
        at-end text set whole (not-false (has_duplicates set.rules set.count) (sym only-duplicates ∙ not-true r n))

    -- it has none
    pub set_read : not r ≡ false → reading text ≡ record { outcome = 0; set = set }
    set_read n =
        at-end text set whole (not-true (has_duplicates set.rules set.count) (sym only-duplicates ∙ not-false r n))
