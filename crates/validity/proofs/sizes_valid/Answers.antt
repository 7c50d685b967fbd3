-- `validity::sizes_valid` meets its contract: the size at each place is tested.
use Rattle.std.proofs.Common.{rules, arith, tests, ◌∙◌}
use Rattle.model_spec.specs.Validity.{size_valid, sizes_valid}
use Rattle.model_spec.proofs.ChainLaws.{all_below}
use Rattle.model_spec.proofs.LoopLaws.{sized}
use Rattle.validity.proofs.sizes_valid.Goals as goal

pub returns : goal.returns
unfolding sizes_valid
returns c =
    let sizes = c.args.sizes.now in
    all_below _ (size_valid c.args.positions sizes) 16 c.all.new.self _ _ (cc) c.all.ensures.ran
    (λ x b q h. search (rules, tests))
    ∙ sized sizes 16 _ (omega arith)
