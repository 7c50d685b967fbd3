-- `read_entries::condition_item` meets its contract: an entry, judged for its place in the array that has it.
use mathlib.Core.Path.{refl, ap}
use mathlib.Core.Bool.{not}
use lib.ListN.{set}
use Rattle.model_spec.specs.Validity.{condition_placed}
use Rattle.model_spec.proofs.LoopLaws.{failed, passed}
use Rattle.files_spec.proofs.ParserLaws.{refused-first, failed_test, unless_back}
use Rattle.reader_laws.specs.How.Parts.{condition_entry}
use Rattle.reader_laws.proofs.FoundLaws.{passed_on}
use Rattle.read_entries.proofs.condition_item.Goals as goal

pub returns-in_err-value : goal.returns-in_err-value
unfolding condition_entry
returns-in_err-value c = passed_on _ _ (refused-first _ c.in_err-value.ensures) c.from_residual.ensures.1

pub returns-then-not-condition_placed : goal.returns-then-not-condition_placed
unfolding condition_entry
returns-then-not-condition_placed c =
    let a = c.args in
    failed_test (λ v. condition_placed a.positions a.sizes.now (set a.before a.i v) a.i v) c.in_ok-value.ensures
    (failed (rw c.with_entry.ensures at c.condition_placed.ensures) (ap not c.if-not-condition_placed.true)) refl

pub returns : goal.returns
unfolding condition_entry
returns c =
    let a = c.args in
    unless_back 3 (λ v. condition_placed a.positions a.sizes.now (set a.before a.i v) a.i v) _ _ _ c.in_ok-value.ensures
    (passed (rw c.with_entry.ensures at c.condition_placed.ensures) (ap not c.if-not-condition_placed.false))
