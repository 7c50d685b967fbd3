-- The number of each refusal, as C and the definitions have it, and the outcome of a call that gives a value or a
-- refusal.
use Rattle.std.specs.Prelude.{ℕ, Result, Ok, Err}
use Rattle.refusals_spec.specs.declared.Refusal.{Refusal}
use Rattle.refusals_spec.specs.declared.Refusal.TheVariants.{Form, Limit, Place, Duplicates, Reach, TableLength}
use Rattle.refusals_spec.specs.declared.Refusal.TheVariants.{RuleSet, TextRoom, Start, Goal, Moves, PlanRoom}
use Rattle.refusals_spec.specs.declared.Refusal.TheVariants.{UnknownMove, Table, NotAdmitted, Client}

-- a refusal's outcome number
abbrev pub number_of : Refusal → ℕ
number_of Form = 1
number_of Limit = 2
number_of Place = 3
number_of Duplicates = 4
number_of Reach = 5
number_of TableLength = 6
number_of RuleSet = 7
number_of TextRoom = 8
number_of Start = 9
number_of Goal = 10
number_of Moves = 11
number_of PlanRoom = 12
number_of UnknownMove = 13
number_of Table = 14
number_of NotAdmitted = 17
number_of Client = 19

-- 0 with a value, else the refusal's number
abbrev pub outcome_number : {A : Type 0} → Result A Refusal → ℕ
outcome_number (Ok value) = 0
outcome_number (Err refusal) = number_of refusal
