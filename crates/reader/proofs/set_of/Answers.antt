-- `reader::set_of` meets its contract: each return by the tests on the way to it.
use mathlib.Core.Path.{ap}
use mathlib.Core.Bool.{not}
use native.Mathlib.Omega.{arith}
use Rattle.reader_laws.proofs.OutcomeLaws.{refused_line, bytes_left, duplicates_read, set_read}
use Rattle.reader.proofs.set_of.Goals as goal

pub returns-in_err-set : goal.returns-in_err-set
returns-in_err-set c = refused_line c.args.text.now _ _ c.in_err-set.ensures c.from_residual.ensures.1

pub returns-then-not-is_empty : goal.returns-then-not-is_empty
returns-then-not-is_empty c = bytes_left c.args.text.now _ _ c.in_ok-set.ensures (grind arith)

pub returns-then-not-is_valid : goal.returns-then-not-is_valid
returns-then-not-is_valid c =
    duplicates_read c.args.text.now _ _ c.in_ok-set.ensures (grind arith)
    c.is_valid.ensures.0 (ap not c.if-not-is_valid.true)

pub returns : goal.returns
returns c =
    set_read c.args.text.now _ _ c.in_ok-set.ensures (grind arith)
    c.is_valid.ensures.0 (ap not c.if-not-is_valid.false)
