-- `read_entries::effect_item` meets its contract: an entry, judged for its place.
use mathlib.Core.Path.{refl, ap}
use mathlib.Core.Bool.{not}
use Rattle.model_spec.specs.Validity.{effect_placed}
use Rattle.model_spec.proofs.LoopLaws.{failed, passed}
use Rattle.files_spec.proofs.ParserLaws.{refused-first, failed_test, unless_back}
use Rattle.reader_laws.specs.How.Parts.{effect_entry}
use Rattle.reader_laws.proofs.FoundLaws.{passed_on}
use Rattle.read_entries.proofs.effect_item.Goals as goal

pub returns-in_err-value : goal.returns-in_err-value
unfolding effect_entry
returns-in_err-value c = passed_on _ _ (refused-first _ c.in_err-value.ensures) c.from_residual.ensures.1

pub returns-then-not-effect_placed : goal.returns-then-not-effect_placed
unfolding effect_entry
returns-then-not-effect_placed c =
    let a = c.args in
    failed_test (effect_placed a.positions a.sizes.now a.condition.now a.i) c.in_ok-value.ensures
    (failed c.effect_placed.ensures (ap not c.if-not-effect_placed.true)) refl

pub returns : goal.returns
unfolding effect_entry
returns c =
    let a = c.args in
    unless_back 3 (effect_placed a.positions a.sizes.now a.condition.now a.i) _ _ _ c.in_ok-value.ensures
    (passed c.effect_placed.ensures (ap not c.if-not-effect_placed.false))
