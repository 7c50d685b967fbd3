-- `validity::rules_valid` meets its contract: the rule at each place is tested.
use Rattle.std.proofs.Common.{rules, tests, ◌∙◌}
use Rattle.model_spec.specs.Validity.{rule_valid_at, rules_valid}
use Rattle.model_spec.proofs.ChainLaws.{all_below}
use Rattle.model_spec.proofs.LoopLaws.{sized}
use Rattle.validity.proofs.rules_valid.Goals as goal

pub returns : goal.returns
unfolding rules_valid
returns c =
    let set = c.args.set in
    all_below _ (rule_valid_at set) 31 c.all.new.self _ _ (cc) c.all.ensures.ran (λ x b q h. search (rules, tests))
    ∙ sized set.rules 31 _ (search rules)
