-- `sequence_output::put_sequence_line` meets its contract: the key, the rule numbers and the line feed, laid one after
-- the other.
use Rattle.output_laws.proofs.PageLaws.{page-append}
use Rattle.sequence_output.proofs.put_sequence_line.Goals as goal

pub returns : goal.returns
returns c = page-append (page-append c.put_word.ensures c.put_sequence.ensures) c.put.ensures
