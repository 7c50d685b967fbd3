-- `table_sizes::table_size` meets its contract: either way out has the definition's answer, which has its meaning.
use mathlib.Core.Path.{◌≡◌, sym, ap, subst, ◌∙◌}
use mathlib.Core.Bool.{cond}
use Prim.Native.Nat.{ℕ, ◌*◌}
use lib.Dec.{eqb}
use borrow.Author.Tests.{ne_eqb}
use Rattle.model_spec.specs.Refusals.{first_refusal}
use Rattle.model_spec.specs.declared.RuleSet.{RuleSet}
use Rattle.refusals_spec.specs.Numbers.{number_of}
use Rattle.tables_spec.specs.Table.{table_entries}
use Rattle.tables_spec.specs.declared.TableSize.{TableSize}
use Rattle.tables_spec.specs.Answers.{size_with, size_causes, table_size, SizeMeaning}
use Rattle.tables_spec.proofs.SizeLaws.{size_meaning}
use Rattle.refusals_spec.proofs.NumberLaws.{number_positive}
use Rattle.table_sizes.proofs.table_size.Goals as goal

-- the answer with the outcome of the causes is the definition's, which has its meaning
answers : (set : RuleSet) (reach outcome length : ℕ) → outcome ≡ first_refusal (size_causes set reach)
    → cond (eqb outcome 0) (2 * table_entries set reach) 0 ≡ length
    → (let r : TableSize = record { outcome = outcome; length = length } in
    (r ≡ table_size set reach) × SizeMeaning set reach r)
unfolding table_size
answers set reach outcome length e l =
    let is : table_size set reach ≡ record { outcome = outcome; length = length } =
    ap (size_with set reach) (sym e) ∙ ap (λ n. record { outcome = outcome; length = n }) l in
    (sym is, subst (SizeMeaning set reach) is (size_meaning set reach))

pub returns-in-Ok : goal.returns-in-Ok
returns-in-Ok c = answers c.args.set c.args.reach 0 _ c.in-Ok.ensures.outcome (sym c.in-Ok.ensures.length)

pub returns-in-Err : goal.returns-in-Err
returns-in-Err c =
    let n = c.number_of.ensures in
    answers c.args.set c.args.reach _ 0 (n ∙ c.in-Err.ensures.outcome)
    (rw (n, ne_eqb (number_of c.in-Err.refusal) 0 (number_positive c.in-Err.refusal)))
