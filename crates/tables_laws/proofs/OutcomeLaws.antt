-- The outcomes of the check of a table as its functions come to them.
-- Assumes nothing.
use mathlib.Core.Path.{◌≡◌, refl, sym, ◌∙◌}
use mathlib.Core.Logic.{◌≢◌}
use mathlib.Core.Bool.{Bool, true, false, cond}
use mathlib.Core.List.{List}
use Prim.Native.Nat.{ℕ}
use native.Mathlib.Omega.{arith}
use lib.ListN.{length}
use Rattle.refusals_spec.specs.Numbers.{number_of}
use Rattle.refusals_spec.specs.declared.Refusal.{Refusal}
use Rattle.refusals_spec.proofs.NumberLaws.{number_positive}
use Rattle.theory_spec.proofs.ListLaws.{not-both}
use Rattle.model_spec.specs.Refusals.{first_refusal}
use Rattle.model_spec.specs.Validity.{valid}
use Rattle.model_spec.specs.declared.RuleSet as Set
use Rattle.model_spec.proofs.ValidityLaws.{valid_iff}
use Rattle.tables_spec.specs.Table.{accepted}
use Rattle.tables_spec.specs.Answers.{shape_causes, check_outcome}
use Rattle.tables_spec.proofs.AnswerLaws.{check-judged, check_meaning, marks-refused, marks_decide}

-- what the outcome of one entry tells of it
pub mark-refused : (refusal : Refusal) (b : Bool) → number_of refusal ≡ cond b 0 14 → b ≡ false
mark-refused refusal true e = absurd (number_positive refusal e)
mark-refused refusal false e = refl

pub mark-passed : (b : Bool) → ◌≡◌ {A = ℕ} 0 (cond b 0 14) → b ≡ true
mark-passed true e = refl
mark-passed false e = absurd (omega (arith, e))

-- the check's outcome: of a set that is not valid, of a table of another shape, and by its marks
module _ (set : Set.RuleSet) (reach : ℕ) (table : List ℕ) where
  pub check-invalid : valid set ≡ false → 7 ≡ check_outcome set reach table
  check-invalid v = sym ((check_meaning set reach table).not_valid.1 (λ w. not-both ((valid_iff set).1 w) v))

  module _ (v : valid set ≡ true) (n : ℕ) where
    pub check-misfit : n ≢ 0 → n ≡ first_refusal (shape_causes set reach (length table))
        → n ≡ check_outcome set reach table
    check-misfit h e =
        e ∙ sym (marks-refused set reach table (λ z. h (e ∙ z))) ∙ sym (check-judged set reach table v)

    pub check-decided : 0 ≡ first_refusal (shape_causes set reach (length table))
        → n ≡ cond (accepted set reach table) 0 14 → n ≡ check_outcome set reach table
    check-decided z e =
        e ∙ sym (marks_decide set reach table (sym z) _ refl) ∙ sym (check-judged set reach table v)
