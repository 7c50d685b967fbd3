-- `validity::rule_blank` meets its contract: the rule is compared with the unused one.
use Rattle.std.proofs.Common.{rules, tests}
use Rattle.model_spec.specs.Validity.{rule_blank}
use Rattle.model_spec.proofs.ChainLaws.{same_is}
use Rattle.validity.proofs.rule_blank.Goals as goal

pub returns : goal.returns
unfolding rule_blank
returns c = search (rules, tests, same_is)
