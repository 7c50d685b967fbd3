-- `list_output::put_list` meets its contract. The invariant: the items from the index on remain, each behind a comma.
use Rattle.output_laws.proofs.PageLaws.{RemainsOn}
use Rattle.output_laws.proofs.WriteLoopLaws.{items_from, behind_comma}
use Rattle.list_output.proofs.put_list.Given as goal

abbrev pub invariant-loop-item : goal.invariant-loop-item
invariant-loop-item g l =
    let text = items_from l.others (behind_comma g.I.Items.text) in
    RemainsOn l.initial.page.at (text 0) l.initial.page.text l.page.at (text l.item-index) l.page.text
