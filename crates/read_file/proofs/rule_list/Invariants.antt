-- `read_file::rule_list` meets its contract.
-- The invariant: the first k rules stand in the array, and what is left of the text decides the list.
use Rattle.model_spec.specs.Rules.{blank_rule}
use Rattle.files_spec.specs.Reading.{rules_after, rule_list}
use Rattle.reader_laws.proofs.ReadLoopLaws.{SoFar}
use Rattle.read_file.proofs.rule_list.Given as goal

abbrev pub invariant-loop-k : goal.invariant-loop-k
invariant-loop-k l =
    SoFar (rules_after l.positions l.sizes) 31 blank_rule l.count
    (rule_list l.positions l.sizes l.count l.text) l.rules l.rest l.k
