-- `sequence_output::put_sequence` meets its contract: no rule, one, or two with a comma between them. A rule's number
-- is a byte, and so has at most three digits.
use Prim.Native.Nat.{◌-◌, ◌/◌, ◌<◌}
use native.Mathlib.Omega.{arith}
use Rattle.output_laws.proofs.PageLaws.{page_none, page-append, page-number}
use Rattle.report_laws.proofs.SequenceTextLaws.{text_none, text_one, rule-number, rule-before, text_two}
use Rattle.sequence_output.proofs.put_sequence.Goals as goal

pub returns-then-index-lt1 : goal.returns-then-index-lt1
returns-then-index-lt1 c =
    let start = c.args in
    rw (text_none start.count start.index c.if-index-lt1.true) (page_none _ _)

pub returns-then-index-many : goal.returns-then-index-many
returns-then-index-many c =
    let start = c.args in
    let one = text_one start.count c.max-many.result c.max-many.ensures in
    rw (one start.index c.if-index-lt1.false (omega (arith, c.if-index-many.true)))
    (page-number c.put_number.ensures (omega arith))

pub overflow_sub-before-2 : goal.overflow_sub-before-2
overflow_sub-before-2 c =
    let start = c.args in
    let two : c.max-many.result < start.index = omega (arith, c.if-index-many.false) in
    rule-before start.count c.max-many.result c.max-many.ensures start.index two

pub overflow_add-before : goal.overflow_add-before
overflow_add-before c =
    let start = c.args in
    let many = c.max-many.result in
    omega (arith, rule-number start.count many c.max-many.ensures ((start.index - 1) / many - 1))

pub overflow_add-before-2 : goal.overflow_add-before-2
overflow_add-before-2 c =
    let start = c.args in
    omega (
      arith,
      rule-number start.count c.max-many.result c.max-many.ensures
          (start.index - 1),
    )

pub returns : goal.returns
returns c =
    let start = c.args in
    let many = c.max-many.result in
    let e = c.max-many.ensures in
    let before = (start.index - 1) / many - 1 in
    let last = start.index - 1 in
    rw (text_two start.count many e start.index c.if-index-many.false)
    (page-append
    (page-number c.put_number-2.ensures (omega (arith, rule-number start.count many e before)))
    (page-append c.put.ensures
    (page-number c.put_number-3.ensures (omega (arith, rule-number start.count many e last)))))
