-- `list_output::put_list` meets its contract. The invariant: the items from the index on remain, each behind a comma.
use Rattle.output_laws.proofs.PageLaws.{page_all, page-append, page-rest, page-done}
use Rattle.output_laws.proofs.WriteLoopLaws.{items_more, items_end, behind_comma, list_none, list-first}
use Rattle.list_output.proofs.put_list.Goals as goal
use Rattle.list_output.proofs.put_list.Goals.{in-Some+else-loop-item-test, in_default}

pub loop-item-init : goal.loop-item-init
loop-item-init g c = page_all _ _ _

pub loop-item-preserved : goal.loop-item-preserved
loop-item-preserved g c =
    let l = c.loop-item in
    let more = items_more c.in-Some.others.now (behind_comma g.I.Items.text) l.item-index 0 c.loop-item-test.true in
    page-rest l.invariant _ _ more (page-append c.put-in-loop-item.ensures c.put-in-loop-item-2.ensures)

pub returns : goal.returns
returns g c =
    let text = g.I.Items.text in
    let count = c.args.count in
    let items = c.args.items.now in
    elim c.match-split_first.branch [
      | in-Some+else-loop-item-test w ↦
          let others = w.in-Some.others.now in
          let done = page-done w.loop-item.invariant (items_end others (behind_comma text) w.loop-item.item-index
          w.loop-item-test.false) in
          rw (list-first text count items w.in-Some.first.now others (rw c.min.ensures at w.in-Some.ensures.cases.0))
          (page-append (page-append w.put.ensures done) (rw w.page-is at c.put-2.ensures))
      | in_default w ↦
          rw (list_none text count items (rw c.min.ensures at w.in_default.ensures.cases))
          (rw w.page-is at c.put-2.ensures)
    ]
