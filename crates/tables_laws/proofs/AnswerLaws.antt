-- What a build or a check gives, by what its functions found.
-- Assumes nothing.
use mathlib.Core.Path.{◌≡◌, sym, ap, ◌∙◌}
use mathlib.Core.Bool.{cond}
use mathlib.Core.List.{List}
use Prim.Native.Nat.{ℕ}
use lib.Dec.{eqb}
use borrow.Author.Tests.{ne_eqb}
use Rattle.std.specs.Prelude.{Result, Ok, Err, IfOk, MatchResult}
use Rattle.refusals_spec.specs.declared.Refusal.{Refusal}
use Rattle.model_spec.specs.declared.RuleSet.{RuleSet}
use Rattle.macros_spec.specs.Touched.{untouched}
use Rattle.macros_spec.specs.declared.Touched.{Touched}
use Rattle.unions_spec.specs.Unions.{table_touched, answer_with}
use Rattle.unions_spec.specs.declared.TableAnswer.{TableAnswer}
use Rattle.refusals_spec.specs.Numbers.{outcome_number}
use Rattle.refusals_spec.proofs.NumberLaws.{number_positive}

-- the answer has the outcome and, where that is 0, the unions
pub answered : (set : RuleSet) (reach : ℕ) (table : List ℕ) (outcome : ℕ) (found : Result Touched Refusal)
    → outcome_number found ≡ outcome → IfOk found (λ touched. touched ≡ table_touched set reach table)
    → (r : TableAnswer) → r.outcome ≡ outcome_number found
    → MatchResult found (λ sets. r.touched ≡ sets) (λ _. r.touched ≡ untouched)
    → r ≡ answer_with set reach table outcome
answered set reach table outcome (Ok sets) e u r o t =
    let touched = t ∙ u ∙ ap (λ n. cond (eqb n 0) (table_touched set reach table) untouched) e in
    λ i. record { outcome = (o ∙ e) i; touched = touched i }
answered set reach table outcome (Err refusal) e u r o t =
    let none : cond (eqb outcome 0) (table_touched set reach table) untouched ≡ untouched =
    rw (ne_eqb outcome 0 (λ z. number_positive refusal (e ∙ z))) in
    let touched = t ∙ sym none in
    λ i. record { outcome = (o ∙ e) i; touched = touched i }
