-- `moves::rule_at` meets its contract: the definition reads the same place.
use Rattle.model_spec.specs.Rules.{rule_at}
use Rattle.moves.proofs.rule_at.Goals as goal

pub returns : goal.returns
unfolding rule_at
returns c = rw c.place_of.ensures
