-- `validity::rule_valid_at` meets its contract.
use borrow.Author.Tests.{lt-ltb, le-ltb}
use Rattle.model_spec.specs.Validity.{rule_valid_at}
use Rattle.validity.proofs.rule_valid_at.Goals as goal

pub returns-then-k-set : goal.returns-then-k-set
unfolding rule_valid_at
returns-then-k-set c = rw (lt-ltb _ _ c.if-k-set.true) c.rule_valid.ensures

pub returns-else-k-set : goal.returns-else-k-set
unfolding rule_valid_at
returns-else-k-set c = rw (le-ltb _ _ c.if-k-set.false) c.rule_blank.ensures
