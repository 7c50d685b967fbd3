-- `duplicates::repeated` meets its contract: the rules before place k are compared with the one there.
use Rattle.std.proofs.Common.{rules, arith, ◌∙◌, tests, take, get_or}
use Rattle.std.proofs.lemmas.Iterator.{YieldsList-from_slice}
use Rattle.std.proofs.lemmas.Iterator.Search.{any_from_yields_List}
use Rattle.model_spec.specs.Rules.{no_rule}
use Rattle.model_spec.specs.Validity.{duplicate, repeated}
use Rattle.model_spec.specs.declared.Rule.{Rule}
use Rattle.model_spec.proofs.ChainLaws.{any_is, any_reads, same_is}
use Rattle.duplicates.proofs.repeated.Goals as goal

pub returns : goal.returns
unfolding repeated duplicate
returns c =
    let all = c.args.rules.now in
    let k = c.args.k in
    let test = λ (r : Rule). duplicate r (get_or all k no_rule) in
    any_from_yields_List test c.any.new.self _ _ c.any.ensures.ran (YieldsList-from_slice (take k all) cc)
    (λ x b q h. search (rules, tests, same_is))
    ∙ any_is test (take k all)
    ∙ any_reads test all no_rule k (omega arith)
