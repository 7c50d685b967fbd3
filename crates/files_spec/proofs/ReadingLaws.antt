-- What the reader gives of a text, by what reading its lines gives: it ends in one of four ways.
-- Assumes nothing.
use mathlib.Core.Path.{◌≡◌, refl, ap, ◌∙◌}
use mathlib.Core.Logic.{⊎_elim}
use mathlib.Core.Bool.{Bool, true, false, cond}
use mathlib.Core.List.{List, [], ◌∷◌}
use Prim.Native.Nat.{ℕ}
use Rattle.theory_spec.proofs.ListLaws.{passes?}
use Rattle.model_spec.specs.Rules.{empty_set}
use Rattle.model_spec.specs.Validity.{has_duplicates}
use Rattle.model_spec.specs.declared.RuleSet.{RuleSet}
use Rattle.files_spec.specs.Reading.{Parsed, refused, parsed, file_lines, finished, reading}
use Rattle.files_spec.specs.declared.Reading.{Reading}

module _ (text : List ℕ) where
  -- a line is refused
  pub line_refused : (n : ℕ) → file_lines text ≡ refused n → reading text ≡ record { outcome = n; set = empty_set }
  unfolding reading finished
  line_refused n e = ap finished e

  -- bytes are left over
  pub left_over_lem : (set : RuleSet) (b : ℕ) (rest : List ℕ) → file_lines text ≡ parsed set (b ∷ rest)
      → reading text ≡ record { outcome = 1; set = empty_set }
  unfolding reading finished
  left_over_lem set b rest e = ap finished e

  -- the text is read to its end: what is left is to judge duplicates
  pub at-end : (set : RuleSet) {d : Bool} → file_lines text ≡ parsed set [] → has_duplicates set.rules set.count ≡ d
      → reading text ≡ cond d (record { outcome = 4; set = empty_set }) (record { outcome = 0; set = set })
  unfolding reading finished
  at-end set e d =
      ap finished e ∙ ap (λ d. cond {A = Reading} d (record { outcome = 4; set = empty_set })
      (record { outcome = 0; set = set })) d

-- the four ways
pub data Ends (text : List ℕ) (r : Reading) : Type 0 where
  in_line : (n : ℕ) → file_lines text ≡ refused n → r ≡ record { outcome = n; set = empty_set } → Ends text r
  too_long : (set : RuleSet) (b : ℕ) (rest : List ℕ) → file_lines text ≡ parsed set (b ∷ rest)
      → r ≡ record { outcome = 1; set = empty_set } → Ends text r
  duplicated : (set : RuleSet) → file_lines text ≡ parsed set [] → has_duplicates set.rules set.count ≡ true
      → r ≡ record { outcome = 4; set = empty_set } → Ends text r
  accepted : (set : RuleSet) → file_lines text ≡ parsed set [] → has_duplicates set.rules set.count ≡ false
      → r ≡ record { outcome = 0; set = set } → Ends text r

-- reading ends in one of them
pub reading_ends : (text : List ℕ) → Ends text (reading text)
reading_ends text = go (file_lines text) refl
  where
    go : (p : Parsed RuleSet) → file_lines text ≡ p → Ends text (reading text)
    go (refused n) e = in_line n e (line_refused text n e)
    go (parsed set (b ∷ rest)) e = too_long set b rest e (left_over_lem text set b rest e)
    go (parsed set []) e =
        ⊎_elim (λ d. duplicated set e d (at-end text set e d)) (λ d. accepted set e d (at-end text set e d))
        (passes? (has_duplicates set.rules set.count))
