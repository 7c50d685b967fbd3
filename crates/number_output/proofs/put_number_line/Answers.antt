-- `number_output::put_number_line` meets its contract: the key, the number and the line feed, laid one after the other.
use Rattle.output_laws.proofs.PageLaws.{page-append}
use Rattle.number_output.proofs.put_number_line.Goals as goal

pub returns : goal.returns
returns c = page-append (page-append c.put_word.ensures c.put_number.ensures) c.put.ensures
