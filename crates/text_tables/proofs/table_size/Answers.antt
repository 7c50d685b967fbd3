-- `text_tables::table_size` meets its contract: either way out gives the definition's answer, which has its meaning.
use mathlib.Core.Path.{◌≡◌, sym, ap, subst, ◌∙◌}
use mathlib.Core.List.{List}
use Prim.Native.Nat.{ℕ}
use Rattle.files_spec.specs.declared.Reading.{Reading}
use Rattle.tables_spec.specs.declared.TableSize.{TableSize}
use Rattle.tables_spec.specs.Answers.{table_size}
use Rattle.planner_spec.specs.TextTables.{text_table_size, TextSizeMeaning}
use Rattle.planner_spec.proofs.TextTableLaws.{size-read, size-refused, text_size_meaning}
use Rattle.text_tables.proofs.table_size.Goals as goal

-- the definition's answer has its meaning
answers : (text : List ℕ) (reach : ℕ) (r : TableSize) → r ≡ text_table_size text reach
    → (r ≡ text_table_size text reach) × TextSizeMeaning text reach r
answers text reach r e = (e, subst (TextSizeMeaning text reach) (sym e) (text_size_meaning text reach))

pub returns-then-file-ne0 : goal.returns-then-file-ne0
returns-then-file-ne0 c =
    let s = c.args in
    let e = ap (λ (r : Reading). r.outcome) c.read-file.ensures.0 in
    let refused = size-refused s.text.now s.reach (λ z. c.if-file-ne0.true (e ∙ z)) in
    answers s.text.now s.reach _ ((λ i. record { outcome = e i; length = 0 }) ∙ sym refused)

pub returns : goal.returns
returns c =
    let s = c.args in
    let e = ap (λ (r : Reading). r.outcome) c.read-file.ensures.0 in
    let same = ap (λ (r : Reading). r.set) c.read-file.ensures.0 in
    let w = size-read s.text.now s.reach (sym e ∙ c.if-file-ne0.false) in
    answers s.text.now s.reach _ (c.table_size.ensures.0 ∙ ap (λ set. table_size set s.reach) same ∙ sym w)
