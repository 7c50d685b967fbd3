-- `builder::build_table` meets its contract: the answer and the table are the definitions', which have their meaning.
use mathlib.Core.Path.{◌≡◌, sym, ap, ◌∙◌}
use native.Mathlib.Omega.{arith}
use mathlib.Core.Bool.{true, false, true≢false}
use mathlib.Core.List.{List}
use Prim.Native.Nat.{ℕ}
use lib.ListN.{length, replicate}
use Rattle.std.specs.Prelude.{Result, Ok, Err, IfOk, is_err}
use Rattle.refusals_spec.specs.declared.Refusal.{Refusal}
use Rattle.model_spec.specs.declared.RuleSet.{RuleSet}
use Rattle.macros_spec.specs.declared.Touched.{Touched}
use Rattle.tables_spec.specs.Table.{built_table}
use Rattle.tables_spec.specs.Answers.{build_outcome, built_buffer, BuildMeaning}
use Rattle.tables_spec.proofs.AnswerLaws.{built-whole, built-refused, build_meaning}
use Rattle.refusals_spec.specs.Numbers.{outcome_number}
use Rattle.tables_laws.proofs.AnswerLaws.{answered}
use Rattle.refusals_spec.proofs.NumberLaws.{number_positive}
use Rattle.unions_spec.specs.Unions.{table_touched, answer_with, build_answer, UnionMeaning}
use Rattle.unions_spec.specs.declared.TableAnswer.{TableAnswer}
use Rattle.unions_spec.proofs.UnionLaws.{build_unions}
use Rattle.builder.proofs.build_table.Goals as goal
use Rattle.builder.proofs.build_table.Goals.{then-is_err, else-is_err}

module _ (set : RuleSet) (reach size : ℕ) where
  -- the definitions' answer and table have their meaning
  answers : (r : TableAnswer) (table : List ℕ)
      → r ≡ answer_with set reach (built_table set reach) (build_outcome set reach size)
      → table ≡ built_buffer set reach size
      → (r ≡ build_answer set reach size) × (table ≡ built_buffer set reach size)
      × BuildMeaning set reach size r.outcome table
      × UnionMeaning set reach table r
  unfolding build_answer
  answers r table e t =
      (e, t, rw (e, t) (build_meaning set reach size), rw (e, t) (build_unions set reach size))

  -- what was found, and left
  abbrev Built : Result Touched Refusal → List ℕ → Type 0
  Built found table =
      IfOk found (λ touched. (table ≡ built_table set reach)
      × (touched ≡ table_touched set reach (built_table set reach)))

  unions : (found : Result Touched Refusal) (table : List ℕ) → Built found table
      → IfOk found (λ touched. touched ≡ table_touched set reach (built_table set reach))
  unions (Ok touched) table h = h.1
  unions (Err refusal) table h = tt

  left : (found : Result Touched Refusal) (table : List ℕ) → Built found table → is_err found ≡ false
      → outcome_number found ≡ build_outcome set reach size → table ≡ built_buffer set reach size
  left (Ok touched) table h t e = h.0 ∙ sym (built-whole set reach size (sym e))
  left (Err refusal) table h t e = absurd (true≢false t)

  cleared : (found : Result Touched Refusal) (table : List ℕ) → is_err found ≡ true
      → outcome_number found ≡ build_outcome set reach size → table ≡ replicate size 0 → table ≡ built_buffer set reach size
  cleared (Ok touched) table t e z = absurd (true≢false (sym t))
  cleared (Err refusal) table t e z =
      z ∙ sym (built-refused set reach size (λ none. number_positive refusal (e ∙ none)))

pub returns : goal.returns
returns c =
    let s = c.args in
    let size = length s.table.now in
    let built = c.build-built in
    answers s.set s.reach size _ _
    (answered s.set s.reach (built_table s.set s.reach) _ built.result built.ensures.outcome
    (unions s.set s.reach size built.result _ built.ensures.built)
    c.answer.result c.answer.ensures.outcome c.answer.ensures.touched)
    (elim c.if-is_err.branch [
      | then-is_err w ↦
          let same : length built.new.table ≡ size = omega arith in
          w.table-is
          ∙ cleared s.set s.reach size built.result _ (sym c.is_err.ensures.value ∙ w.if-is_err.true)
          built.ensures.outcome (w.fill.ensures.after (λ y e. e) ∙ ap (λ n. replicate n 0) same)
      | else-is_err w ↦
          w.table-is
          ∙ left s.set s.reach size built.result _ built.ensures.built
          (sym c.is_err.ensures.value ∙ w.if-is_err.false) built.ensures.outcome
    ])
