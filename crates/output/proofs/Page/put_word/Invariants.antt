-- `output::Page::put_word` meets its contract. The invariant: the bytes from the index on remain.
use lib.ListN.{drop}
use Rattle.output_laws.proofs.PageLaws.{RemainsOn}
use Rattle.output.proofs.Page.put_word.Given as goal

abbrev pub invariant-loop-byte : goal.invariant-loop-byte
invariant-loop-byte l =
    RemainsOn l.initial.self.at l.word l.initial.self.text l.self.at (drop l.byte-index l.word) l.self.text
