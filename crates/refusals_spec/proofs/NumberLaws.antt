-- Laws of the numbers of refusals.
-- Assumes nothing.
use mathlib.Core.Path.{◌≡◌, ap}
use mathlib.Core.Logic.{◌≢◌}
use native.Mathlib.Omega.{arith}
use Rattle.std.specs.Prelude.{Result, Ok, Err, IsErrAnd}
use Rattle.refusals_spec.specs.declared.Refusal.{Refusal}
use Rattle.refusals_spec.specs.declared.Refusal.TheVariants.{Form, Limit, Place, Duplicates, Reach, TableLength}
use Rattle.refusals_spec.specs.declared.Refusal.TheVariants.{RuleSet, TextRoom, Start, Goal, Moves, PlanRoom}
use Rattle.refusals_spec.specs.declared.Refusal.TheVariants.{UnknownMove, Table, NotAdmitted, Client}
use Rattle.refusals_spec.specs.Numbers.{number_of, outcome_number}

-- no refusal has the number 0
pub number_positive : (refusal : Refusal) → number_of refusal ≢ 0
number_positive Form e = absurd (omega (arith, e))
number_positive Limit e = absurd (omega (arith, e))
number_positive Place e = absurd (omega (arith, e))
number_positive Duplicates e = absurd (omega (arith, e))
number_positive Reach e = absurd (omega (arith, e))
number_positive TableLength e = absurd (omega (arith, e))
number_positive RuleSet e = absurd (omega (arith, e))
number_positive TextRoom e = absurd (omega (arith, e))
number_positive Start e = absurd (omega (arith, e))
number_positive Goal e = absurd (omega (arith, e))
number_positive Moves e = absurd (omega (arith, e))
number_positive PlanRoom e = absurd (omega (arith, e))
number_positive UnknownMove e = absurd (omega (arith, e))
number_positive Table e = absurd (omega (arith, e))
number_positive NotAdmitted e = absurd (omega (arith, e))
number_positive Client e = absurd (omega (arith, e))

-- a refusal that is passed on
pub passed-on : {A : Type 0} (r : Result A Refusal) (refusal : Refusal) → IsErrAnd r (λ e. e ≡ refusal)
    → outcome_number r ≡ number_of refusal
passed-on (Ok value) refusal h = absurd h
passed-on (Err e) refusal h = ap number_of h
