-- An entry is laid as its text: a number, or the letter and then a number.
use native.Mathlib.Omega.{arith}
use Rattle.files_spec.proofs.TextLaws.{constant-text, variable-text}
use Rattle.output_laws.proofs.PageLaws.{page-append, page-number}
use Rattle.list_output.proofs.EntriesItems.put.Goals as goal

pub returns-then-item-lt-FIRST_VARIABLE : goal.returns-then-item-lt-FIRST_VARIABLE
returns-then-item-lt-FIRST_VARIABLE c =
    rw (constant-text c.args.item c.if-item-lt-FIRST_VARIABLE.true)
    (page-number c.put_number.ensures (omega arith))

pub returns : goal.returns
returns c =
    rw (variable-text c.args.item c.if-item-lt-FIRST_VARIABLE.false)
    (page-append c.put.ensures (page-number c.put_number-2.ensures (omega arith)))
