-- Which of the two an entry gives of a rule text, and what its number tells of the text.
-- Assumes nothing.
use mathlib.Core.Path.{◌≡◌, refl, sym, ◌∙◌}
use mathlib.Core.Logic.{◌⊎◌, ◌↔◌, ◌≢◌, inl, inr, ⊎_elim}
use mathlib.Core.Bool.{true, false}
use mathlib.Core.List.{List, [], ◌∷◌}
use Prim.Native.Nat.{ℕ, ◌≤◌, ◌<◌}
use native.Mathlib.Omega.{arith}
use borrow.Author.Tests.{eq-eqb, ne_eqb}
use Rattle.theory_spec.proofs.TestLaws.{equal?}
use Rattle.model_spec.specs.Refusals.{Cause, first_refusal}
use Rattle.model_spec.specs.Validity.{Valid}
use Rattle.model_spec.specs.declared.RuleSet.{RuleSet}
use Rattle.files_spec.specs.Reading.{reading}
use Rattle.files_spec.proofs.RefusedLaws.{reading-other, reading_bound}
use Rattle.files_spec.proofs.ReadTextLaws.{read-valid}
use Rattle.files_spec.proofs.MeaningLaws.{outcome_meaning}
use Rattle.planner_spec.specs.OfText.{of_text, TextJudged}

module _ {A : Type 0} (text : List ℕ) (from_set : RuleSet → A) (from_refusal : ℕ → A) where
  pub of-read : (reading text).outcome ≡ 0 → of_text text from_set from_refusal ≡ from_set (reading text).set
  unfolding of_text
  of-read e = rw (eq-eqb (reading text).outcome 0 e)

  pub of-refused : (reading text).outcome ≢ 0 → of_text text from_set from_refusal ≡ from_refusal (reading text).outcome
  unfolding of_text
  of-refused h = rw (ne_eqb (reading text).outcome 0 h)

-- ── What the number tells ────────────────────────────────────────────────────────────────────────

-- a number of the call itself, none of the reader's refusals
abbrev pub Own : ℕ → Type 0
Own outcome = (outcome ≡ 0) ⊎ (4 < outcome)

-- no cause has a number of the reader's
abbrev pub OwnCauses : List Cause → Type 0
OwnCauses [] = Unit {0}
OwnCauses ((n, b) ∷ causes) = (4 < n) × OwnCauses causes

pub own_refusal : (causes : List Cause) → OwnCauses causes → Own (first_refusal causes)
own_refusal [] h = inl refl
own_refusal ((n, true) ∷ causes) h = inr h.0
own_refusal ((n, false) ∷ causes) h = own_refusal causes h.1

-- an outcome that is the reading's for a refused text
module _ (text : List ℕ) (outcome : ℕ) (refused : (reading text).outcome ≢ 0 → outcome ≡ (reading text).outcome) where
  -- is not 7 where it says for any other text that the set is not valid
  pub not_7 : ((reading text).outcome ≡ 0 → outcome ≡ 7 → Valid (reading text).set → ⊥) → outcome ≢ 7
  not_7 invalid e =
      ⊎_elim (λ z. invalid z e (read-valid text z)) (λ h. absurd (reading-other text 7 refl (sym (refused h) ∙ e)))
      (equal? (reading text).outcome 0)

  -- and tells the text's faults where it is the call's own for any other text
  module _ (own : (reading text).outcome ≡ 0 → Own outcome) where
    as_read : (n : ℕ) → 1 ≤ n → n ≤ 4 → {P : Type 0} → ((reading text).outcome ≡ n) ↔ P → (outcome ≡ n) ↔ P
    as_read n low high p = (
      λ e. p.0 (⊎_elim (λ z. ⊎_elim (λ o. omega (arith, o, e)) (λ o. omega (arith, o, e)) (own z))
          (λ h. sym (refused h) ∙ e) (equal? (reading text).outcome 0)),
      λ w. let e = p.1 w in refused (λ z. omega (arith, e, z)) ∙ e,
    )

    is_read : Own outcome → (reading text).outcome ≡ 0
    is_read o =
        ⊎_elim (λ z. z)
        (λ h. let e = refused h in ⊎_elim (λ z. sym e ∙ z) (λ k. omega (arith, e, k, reading_bound text)) o)
        (equal? (reading text).outcome 0)

    pub text-judged : TextJudged text outcome
    text-judged =
        let judged = outcome_meaning text in
        record {
          bad_form = as_read 1 (omega arith) (omega arith) judged.bad_form;
          outside_limit = as_read 2 (omega arith) (omega arith) judged.outside_limit;
          misplaced = as_read 3 (omega arith) (omega arith) judged.misplaced;
          duplicates = as_read 4 (omega arith) (omega arith) judged.duplicates;
          passed = (λ o. judged.faultless.0 (is_read o), λ f. own (judged.faultless.1 f));
        }
