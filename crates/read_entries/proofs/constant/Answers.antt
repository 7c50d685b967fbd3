-- `read_entries::constant` meets its contract: a number below the size.
use mathlib.Core.Path.{refl}
use native.Mathlib.Omega.{arith}
use lib.Dec.{ltb}
use borrow.Author.Tests.{lt-ltb, le-ltb}
use Rattle.files_spec.specs.Reading.{constant}
use Rattle.files_spec.proofs.ParserLaws.{refused-first, failed_test, unless_back}
use Rattle.reader_laws.proofs.FoundLaws.{passed_on}
use Rattle.read_entries.proofs.constant.Goals as goal

pub returns-in_err-value : goal.returns-in_err-value
unfolding constant
returns-in_err-value c = passed_on _ _ (refused-first _ c.in_err-value.ensures) c.from_residual.ensures.1

pub returns-then-value-from : goal.returns-then-value-from
unfolding constant
returns-then-value-from c =
    let size = c.args.size in
    failed_test (λ n. ltb n size) c.in_ok-value.ensures (le-ltb c.in_ok-value.value size (omega arith)) refl

pub returns : goal.returns
unfolding constant
returns c =
    let size = c.args.size in
    unless_back 2 (λ n. ltb n size) _ _ _ c.in_ok-value.ensures (lt-ltb c.in_ok-value.value size (omega arith))
