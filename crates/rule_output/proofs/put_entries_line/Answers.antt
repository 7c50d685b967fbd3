-- `rule_output::put_entries_line` meets its contract: the key and the list, laid one after the other.
use Rattle.output_laws.proofs.PageLaws.{page-append}
use Rattle.rule_output.proofs.put_entries_line.Goals as goal

pub returns : goal.returns
returns c = page-append c.put_word.ensures c.put_entries.ensures
