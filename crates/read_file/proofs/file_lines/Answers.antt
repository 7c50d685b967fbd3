-- `read_file::file_lines` meets its contract: line by line, a refusal passes on and a value is gone on with.
-- The limits of the lines give what the calls require.
use mathlib.Core.Path.{◌≡◌, refl}
use mathlib.Core.List.{List}
use Prim.Native.Nat.{ℕ, min}
use native.Mathlib.Omega.{arith}
use Rattle.files_spec.specs.Reading.{parsed, number_line, size_item, list_line, file_lines}
use Rattle.files_spec.proofs.ParserLaws.{refused-first, then_back}
use Rattle.reader_laws.specs.How.Parts.{keyed_number, keyed_list, item_of}
use Rattle.reader_laws.proofs.FoundLaws.{passed_on}
use Rattle.files_spec.proofs.LineLaws.{number-line-read}
use Rattle.read_file.proofs.file_lines.Goals as goal

-- positions that are read are at most 16, so the line of sizes is read for as many
all_of : (text : List ℕ) (v : ℕ) (rest : List ℕ) → number_line "positions=" 1 16 text ≡ parsed v rest → min v 16 ≡ v
all_of text v rest e = omega (arith, (number-line-read "positions=" 1 16 text v rest e).1)

pub returns-in_err-positions : goal.returns-in_err-positions
unfolding file_lines number_line keyed_number
returns-in_err-positions c = passed_on _ _ (refused-first _ c.in_err-positions.ensures) c.from_residual.ensures.1

pub returns-in_err-sizes : goal.returns-in_err-sizes
unfolding file_lines number_line keyed_number list_line keyed_list size_item item_of
returns-in_err-sizes c =
    let few = all_of c.args.text.now _ _ c.in_ok-positions.ensures in
    passed_on _ _
    (then_back _ c.in_ok-positions.ensures
    (refused-first _ (rw few at c.in_err-sizes.ensures)))
    c.from_residual-in_err-sizes.ensures.1

pub returns-in_err-count : goal.returns-in_err-count
unfolding file_lines number_line keyed_number list_line keyed_list size_item item_of
returns-in_err-count c =
    let few = all_of c.args.text.now _ _ c.in_ok-positions.ensures in
    passed_on _ _
    (then_back _ c.in_ok-positions.ensures
    (then_back _ (rw few at c.in_ok-sizes.ensures)
    (refused-first _ c.in_err-count.ensures)))
    c.from_residual-in_err-count.ensures.1

pub rule_list-requires : goal.rule_list-requires
unfolding number_line keyed_number
rule_list-requires c = (
  (number-line-read "positions=" 1 16 _ _ _ c.in_ok-positions.ensures).1,
  (number-line-read "rules=" 1 31 _ _ _ c.in_ok-count.ensures).1,
)

pub returns-in_err-rules : goal.returns-in_err-rules
unfolding file_lines number_line keyed_number list_line keyed_list size_item item_of
returns-in_err-rules c =
    let few = all_of c.args.text.now _ _ c.in_ok-positions.ensures in
    passed_on _ _
    (then_back _ c.in_ok-positions.ensures
    (then_back _ (rw few at c.in_ok-sizes.ensures)
    (then_back _ c.in_ok-count.ensures
    (refused-first _ c.in_err-rules.ensures))))
    c.from_residual-in_err-rules.ensures.1

pub returns : goal.returns
unfolding file_lines number_line keyed_number list_line keyed_list size_item item_of
returns c =
    let few = all_of c.args.text.now _ _ c.in_ok-positions.ensures in
    then_back _ c.in_ok-positions.ensures
    (then_back _ (rw few at c.in_ok-sizes.ensures)
    (then_back _ c.in_ok-count.ensures
    (then_back _ c.in_ok-rules.ensures refl)))
