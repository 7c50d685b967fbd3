-- `read_lines::number_line` meets its contract: the key, and then the number.
use Rattle.files_spec.proofs.ParserLaws.{refused-first, then_back}
use Rattle.reader_laws.specs.How.Parts.{keyed_number}
use Rattle.reader_laws.proofs.FoundLaws.{passed_on}
use Rattle.read_lines.proofs.number_line.Goals as goal

pub returns-in_err-word : goal.returns-in_err-word
unfolding keyed_number
returns-in_err-word c = passed_on _ _ (refused-first _ c.in_err-word.ensures) c.from_residual.ensures.1

pub returns : goal.returns
unfolding keyed_number
returns c = then_back _ c.in_ok-word.ensures c.number_within.ensures
