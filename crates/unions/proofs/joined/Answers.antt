-- `unions::joined` meets its contract as it stands.
use mathlib.Core.Path.{refl}
use Rattle.unions_spec.specs.How.United.{united}
use Rattle.unions.proofs.joined.Goals as goal

pub returns : goal.returns
unfolding united
returns c = refl
