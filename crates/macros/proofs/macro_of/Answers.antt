-- `macros::macro_of` meets its contract: either way out has the definition's answer, which has its meaning.
use mathlib.Core.Path.{◌≡◌, sym, subst, ◌∙◌}
use Rattle.theory_spec.specs.Sequences.{Sequence}
use Rattle.model_spec.specs.declared.RuleSet.{RuleSet}
use Rattle.model_spec.proofs.ValidityLaws.{valid_iff}
use Rattle.macros_spec.specs.Answers.{macro_answer, Meaning}
use Rattle.macros_spec.specs.declared.MacroAnswer.{MacroAnswer}
use Rattle.macros_spec.proofs.AnswerLaws.{answer_invalid, answer-judged}
use Rattle.macros_spec.proofs.MacroLaws.{answer_meaning}
use Rattle.macros.proofs.macro_of.Goals as goal

-- an answer that is the definition's has its meaning
answers : (set : RuleSet) (moves : Sequence) (r : MacroAnswer) → macro_answer set moves ≡ r
    → (r ≡ macro_answer set moves) × Meaning set moves r
answers set moves r e = (sym e, subst (Meaning set moves) e (answer_meaning set moves))

pub returns-then-not-is_valid : goal.returns-then-not-is_valid
returns-then-not-is_valid c =
    let s = c.args in
    answers s.set s.moves.now c.refused.result
    (answer_invalid s.set s.moves.now (sym c.is_valid.ensures.0 ∙ c.if-not-is_valid.true)
    ∙ sym c.refused.ensures)

pub macro_for-requires : goal.macro_for-requires
macro_for-requires c =
    let s = c.args in
    ((valid_iff s.set).0 (sym c.is_valid.ensures.0 ∙ c.if-not-is_valid.false)).formed

pub returns : goal.returns
returns c =
    let s = c.args in
    answers s.set s.moves.now _ (answer-judged s.set s.moves.now
    (sym c.is_valid.ensures.0 ∙ c.if-not-is_valid.false) ∙ sym c.macro_for.ensures)
