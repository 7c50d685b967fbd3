-- `read_items::number_within` meets its contract: a number, judged by its two limits.
use native.Mathlib.Omega.{arith}
use mathlib.Core.Path.{refl}
use lib.Dec.{leb}
use borrow.Author.Tests.{lt-leb}
use Rattle.theory_spec.specs.Lists.{within}
use Rattle.theory_spec.proofs.TestLaws.{within_iff}
use Rattle.model_spec.proofs.LoopLaws.{first_fails, second_fails}
use Rattle.files_spec.specs.Reading.{number_within}
use Rattle.files_spec.proofs.ParserLaws.{refused-first, failed_test, unless_back}
use Rattle.reader_laws.proofs.FoundLaws.{passed_on}
use Rattle.read_items.proofs.number_within.Goals as goal
use Rattle.read_items.proofs.number_within.Goals.{
  then-value-from-via-then-value-from,
  then-value-from-via-else-value-from+then-from-value,
}

pub returns-in_err-value : goal.returns-in_err-value
unfolding number_within
returns-in_err-value c = passed_on _ _ (refused-first _ c.in_err-value.ensures) c.from_residual.ensures.1

pub returns-then-value-from : goal.returns-then-value-from
unfolding number_within
returns-then-value-from c =
    let s = c.args in
    let v = c.in_ok-value.value in
    failed_test (within s.least s.most) c.in_ok-value.ensures
    (elim c.then-value-from.branch [
      | then-value-from-via-then-value-from w ↦ first_fails _ (lt-leb s.least v (omega arith))
      | then-value-from-via-else-value-from+then-from-value w ↦
          second_fails (leb s.least v) (lt-leb v s.most (omega arith))
    ])
    refl

pub returns : goal.returns
unfolding number_within
returns c =
    let s = c.args in
    unless_back 2 (within s.least s.most) _ _ _ c.in_ok-value.ensures
    ((within_iff s.least s.most c.in_ok-value.value).1 (omega arith, omega arith))
