-- `acceptance::check_outcome` meets its contract: the outcome is the definition's, which has its meaning.
use mathlib.Core.Path.{◌≡◌, sym, subst, ◌∙◌}
use mathlib.Core.List.{List}
use Prim.Native.Nat.{ℕ}
use Rattle.model_spec.specs.declared.RuleSet.{RuleSet}
use Rattle.tables_spec.specs.Answers.{check_outcome, CheckMeaning}
use Rattle.tables_spec.proofs.AnswerLaws.{check_meaning}
use Rattle.acceptance.proofs.check_outcome.Goals as goal

-- the definition's outcome has its meaning
answers : (set : RuleSet) (reach : ℕ) (table : List ℕ) (r : ℕ) → r ≡ check_outcome set reach table
    → (r ≡ check_outcome set reach table) × CheckMeaning set reach table r
answers set reach table r e = (e, subst (CheckMeaning set reach table) (sym e) (check_meaning set reach table))

pub returns-in-Ok : goal.returns-in-Ok
returns-in-Ok c = answers c.args.set c.args.reach c.args.table.now 0 c.in-Ok.ensures

pub returns-in-Err : goal.returns-in-Err
returns-in-Err c = answers c.args.set c.args.reach c.args.table.now _ (c.number_of.ensures ∙ c.in-Err.ensures)
