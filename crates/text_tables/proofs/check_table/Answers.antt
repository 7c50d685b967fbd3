-- `text_tables::check_table` meets its contract: either way out gives the definition's answer, which has its meaning.
use mathlib.Core.Path.{◌≡◌, sym, ap, subst, ◌∙◌}
use mathlib.Core.List.{List}
use Prim.Native.Nat.{ℕ}
use Rattle.files_spec.specs.declared.Reading.{Reading}
use Rattle.unions_spec.specs.Unions.{refused_table, check_answer}
use Rattle.unions_spec.specs.declared.TableAnswer.{TableAnswer}
use Rattle.planner_spec.specs.TextTables.{text_check_answer, TextCheckMeaning}
use Rattle.planner_spec.proofs.TextTableLaws.{check-read, check-refused, text_check_meaning}
use Rattle.text_tables.proofs.check_table.Goals as goal

-- the definition's answer has its meaning
answers : (text : List ℕ) (reach : ℕ) (table : List ℕ) (r : TableAnswer) → r ≡ text_check_answer text reach table
    → (r ≡ text_check_answer text reach table) × TextCheckMeaning text reach table r
answers text reach table r e =
    (e, subst (TextCheckMeaning text reach table) (sym e) (text_check_meaning text reach table))

pub returns-then-refusal-ne0 : goal.returns-then-refusal-ne0
returns-then-refusal-ne0 c =
    let s = c.args in
    let e = ap (λ (r : Reading). r.outcome) c.read-file.ensures.0 in
    let w = check-refused s.text.now s.reach s.table.now (λ z. c.if-refusal-ne0.true (e ∙ z)) in
    answers s.text.now s.reach s.table.now _ (c.refused.ensures ∙ ap refused_table e ∙ sym w)

pub returns : goal.returns
returns c =
    let s = c.args in
    let e = ap (λ (r : Reading). r.outcome) c.read-file.ensures.0 in
    let same = ap (λ (r : Reading). r.set) c.read-file.ensures.0 in
    let w = check-read s.text.now s.reach s.table.now (sym e ∙ c.if-refusal-ne0.false) in
    answers s.text.now s.reach s.table.now _
    (c.check_table.ensures.0 ∙ ap (λ set. check_answer set s.reach s.table.now) same ∙ sym w)
