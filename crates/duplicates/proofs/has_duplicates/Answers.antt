-- `duplicates::has_duplicates` meets its contract: each of the used rules is tried.
use Rattle.std.proofs.Common.{rules, tests, min}
use Rattle.model_spec.specs.Validity.{repeated, has_duplicates}
use Rattle.model_spec.proofs.ChainLaws.{any_below}
use Rattle.duplicates.proofs.has_duplicates.Goals as goal

pub returns : goal.returns
unfolding has_duplicates
returns c =
    let set = c.args.set in
    any_below _ (repeated set.rules) (min set.count 31) c.any.new.self _ _ (cc) c.any.ensures.ran
    (λ x b q h. search (rules, tests))
