-- `file_output::put_rules` meets its contract. The invariant: the lines of the rules from the index on remain.
use Rattle.files_spec.specs.File.{rule_text}
use Rattle.output_laws.proofs.PageLaws.{RemainsOn}
use Rattle.output_laws.proofs.WriteLoopLaws.{items_from}
use Rattle.file_output.proofs.put_rules.Given as goal

abbrev pub invariant-loop-rule : goal.invariant-loop-rule
invariant-loop-rule l =
    let text = items_from l.rule-items (rule_text l.fn.set.positions) in
    RemainsOn l.initial.page.at (text 0) l.initial.page.text l.page.at (text l.rule-index) l.page.text
