-- `read_rule::rule_lines` meets its contract: line by line, a refusal passes on and a value is gone on with.
use mathlib.Core.Path.{refl}
use Rattle.files_spec.specs.Reading.{number_line, list_line, rule_lines}
use Rattle.files_spec.proofs.ParserLaws.{refused-first, then_back}
use Rattle.reader_laws.specs.How.Parts.{keyed_number, keyed_list, item_of}
use Rattle.reader_laws.proofs.FoundLaws.{passed_on}
use Rattle.read_rule.proofs.rule_lines.Goals as goal

pub returns-in_err-cost : goal.returns-in_err-cost
unfolding rule_lines number_line keyed_number
returns-in_err-cost c = passed_on _ _ (refused-first _ c.in_err-cost.ensures) c.from_residual.ensures.1

pub returns-in_err-condition : goal.returns-in_err-condition
unfolding rule_lines number_line keyed_number list_line keyed_list item_of
returns-in_err-condition c =
    passed_on _ _
    (then_back _ c.in_ok-cost.ensures
    (refused-first _ c.in_err-condition.ensures))
    c.from_residual-in_err-condition.ensures.1

pub returns-in_err-effect : goal.returns-in_err-effect
unfolding rule_lines number_line keyed_number list_line keyed_list item_of
returns-in_err-effect c =
    passed_on _ _
    (then_back _ c.in_ok-cost.ensures
    (then_back _ c.in_ok-condition.ensures
    (refused-first _ c.in_err-effect.ensures)))
    c.from_residual-in_err-effect.ensures.1

pub returns : goal.returns
unfolding rule_lines number_line keyed_number list_line keyed_list item_of
returns c =
    then_back _ c.in_ok-cost.ensures
    (then_back _ c.in_ok-condition.ensures
    (then_back _ c.in_ok-effect.ensures refl))
