-- The iterator's answer, as the first place.
use Rattle.std.proofs.Common.{◌==◌, ◌∙◌, ap, length, rules, tests}
use Rattle.std.specs.Option.{unwrap_or}
use Rattle.std.proofs.lemmas.Iterator.{YieldsList-from_slice}
use Rattle.std.proofs.lemmas.Iterator.Search.{position_from_yields_List}
use Rattle.cases_laws.proofs.TextLaws.{place_asked}
use Rattle.cases_common.proofs.find.Goals as goal

pub returns-clause-value : goal.returns-clause-value
returns-clause-value c =
    let byte = c.args.byte in
    let text = c.args.text.now in
    let asked =
    position_from_yields_List (λ b. b == byte) _ _ c.position.result c.position.ensures.ran
    (YieldsList-from_slice text cc) (λ x b q k. search (rules, tests)) in
    c.unwrap_or.ensures ∙ ap (λ o. unwrap_or o (length text)) asked ∙ place_asked byte text
