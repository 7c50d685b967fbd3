-- `text_tables::build_table` meets its contract: what either way out gives and leaves is the definitions', which have
-- their meaning.
use mathlib.Core.Path.{◌≡◌, sym, ap, ◌∙◌}
use mathlib.Core.List.{List}
use Prim.Native.Nat.{ℕ}
use lib.ListN.{length}
use Rattle.model_spec.proofs.BufferLaws.{filled-whole}
use Rattle.files_spec.specs.declared.Reading.{Reading}
use Rattle.tables_spec.specs.Answers.{built_buffer}
use Rattle.unions_spec.specs.Unions.{refused_table, build_answer}
use Rattle.unions_spec.specs.declared.TableAnswer.{TableAnswer}
use Rattle.planner_spec.specs.TextTables.{text_build_answer, text_built_buffer, TextBuildMeaning}
use Rattle.planner_spec.proofs.TextTableLaws.{build-read, build-refused, text-build-meaning}
use Rattle.text_tables.proofs.build_table.Goals as goal

-- the definitions' answer and table have their meaning
answers : (text : List ℕ) (reach size : ℕ) (r : TableAnswer) (table : List ℕ)
    → r ≡ text_build_answer text reach size
    → table ≡ text_built_buffer text reach size
    → (r ≡ text_build_answer text reach size)
    × (table ≡ text_built_buffer text reach size)
    × TextBuildMeaning text reach size r table
answers text reach size r table e t = (e, t, rw (e, t) (text-build-meaning text reach size))

pub returns-then-file-ne0 : goal.returns-then-file-ne0
returns-then-file-ne0 c =
    let s = c.args in
    let text = s.text.now in
    let size = length s.table.now in
    let e = ap (λ (r : Reading). r.outcome) c.read-file.ensures.0 in
    let w = build-refused text s.reach size (λ z. c.if-file-ne0.true (e ∙ z)) in
    answers text s.reach size _ _ (c.refused.ensures ∙ ap refused_table e ∙ sym w.0)
    (c.fill_from.ensures ∙ filled-whole 0 s.table.now ∙ sym w.1)

pub returns : goal.returns
returns c =
    let s = c.args in
    let text = s.text.now in
    let size = length s.table.now in
    let e = ap (λ (r : Reading). r.outcome) c.read-file.ensures.0 in
    let same = ap (λ (r : Reading). r.set) c.read-file.ensures.0 in
    let w = build-read text s.reach size (sym e ∙ c.if-file-ne0.false) in
    answers text s.reach size _ _
    (c.build_table.ensures.0 ∙ ap (λ set. build_answer set s.reach size) same ∙ sym w.0)
    (c.build_table.ensures.1 ∙ ap (λ set. built_buffer set s.reach size) same ∙ sym w.1)
