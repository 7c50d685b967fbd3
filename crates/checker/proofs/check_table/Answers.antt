-- `checker::check_table` meets its contract: the answer is the definition's, which has its meaning.
use mathlib.Core.Path.{◌≡◌}
use mathlib.Core.List.{List}
use Prim.Native.Nat.{ℕ}
use Rattle.model_spec.specs.declared.RuleSet.{RuleSet}
use Rattle.tables_spec.specs.Answers.{check_outcome, CheckMeaning}
use Rattle.tables_spec.proofs.AnswerLaws.{check_meaning}
use Rattle.tables_laws.proofs.AnswerLaws.{answered}
use Rattle.unions_spec.specs.Unions.{answer_with, check_answer, UnionMeaning}
use Rattle.unions_spec.specs.declared.TableAnswer.{TableAnswer}
use Rattle.unions_spec.proofs.UnionLaws.{check_unions}
use Rattle.checker.proofs.check_table.Goals as goal

-- the definition's answer has its meaning
answers : (set : RuleSet) (reach : ℕ) (table : List ℕ) (r : TableAnswer)
    → r ≡ answer_with set reach table (check_outcome set reach table)
    → (r ≡ check_answer set reach table) × CheckMeaning set reach table r.outcome × UnionMeaning set reach table r
unfolding check_answer
answers set reach table r e =
    (e, rw e (check_meaning set reach table), rw e (check_unions set reach table))

pub returns : goal.returns
returns c =
    let s = c.args in
    answers s.set s.reach s.table.now _
    (answered s.set s.reach s.table.now _ c.check.result c.check.ensures.outcome c.check.ensures.touched
    c.answer.result c.answer.ensures.outcome c.answer.ensures.touched)
