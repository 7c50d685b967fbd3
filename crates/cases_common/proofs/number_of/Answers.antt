-- The iterator's answer, as the number of the digits.
use Rattle.std.proofs.Common.{◌∙◌, rules, tests}
use Rattle.std.proofs.lemmas.Iterator.{YieldsList-from_slice}
use Rattle.std.proofs.lemmas.Iterator.Consumers.{fold_from_yields_List}
use Rattle.cases_laws.specs.How.Texts.{with_digit}
use Rattle.cases_laws.proofs.TextLaws.{digits_folded}
use Rattle.cases_common.proofs.number_of.Goals as goal

pub returns : goal.returns
returns c =
    let text = c.args.text.now in
    let asked =
    fold_from_yields_List _ (λ number digit. with_digit digit number) 0 c.fold.result c.fold.ensures.ran
    (YieldsList-from_slice text cc) (λ a x b q k. search (rules, tests)) in
    asked ∙ digits_folded text
