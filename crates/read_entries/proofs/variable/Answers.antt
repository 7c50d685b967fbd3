-- `read_entries::variable` meets its contract: a number of a position, and its entry is that number and 15.
use Prim.Native.Nat.{min}
use native.Mathlib.Omega.{arith}
use Rattle.theory_spec.specs.Lists.{within}
use Rattle.theory_spec.proofs.TestLaws.{within_iff}
use Rattle.files_spec.specs.Reading.{number, number_within, variable}
use Rattle.files_spec.proofs.ParserLaws.{refused-first, unless-read}
use Rattle.reader_laws.proofs.FoundLaws.{passed_on}
use Rattle.read_entries.proofs.variable.Goals as goal

pub returns-in_err-position : goal.returns-in_err-position
unfolding variable
returns-in_err-position c =
    passed_on _ _ (refused-first _ (rw c.min.ensures at c.in_err-position.ensures)) c.from_residual.ensures.1

pub overflow_add-result : goal.overflow_add-result
unfolding number_within
overflow_add-result c =
    let s = c.args in
    let most = min s.positions 16 in
    let passed = unless-read 2 (within 1 most) (number s.ending s.text.now) _ _
    (rw c.min.ensures at c.in_ok-position.ensures) in
    omega (arith, ((within_iff 1 most c.in_ok-position.position).0 passed.1).1)

pub returns : goal.returns
unfolding variable
returns c = rw (rw c.min.ensures at c.in_ok-position.ensures)
