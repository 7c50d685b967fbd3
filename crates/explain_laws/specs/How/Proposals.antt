-- What the functions on a proposal promise, for every list of bytes. No promise of a call needs this file.
use Rattle.std.specs.Prelude.{true, not, cond, [], ◌∷◌, map, ℕ, zero, suc, min, ltb, eqb, Option, Some, None}
use Rattle.theory_spec.specs.Lists.{same}
use Rattle.theory_spec.specs.Sequences.{Sequence}
use Rattle.model_spec.specs.Limits.{max_rules}
use Rattle.model_spec.specs.Refusals.{first_refusal}
use Rattle.model_spec.specs.Rules.{sequence_cost}
use Rattle.model_spec.specs.declared.RuleSet.{RuleSet}
use Rattle.search_spec.specs.Query.{Query}
use Rattle.explain_spec.specs.Reasons.{reasons, place_of}
use Rattle.explain_laws.specs.declared.Reason.{Reason}
use Rattle.explain_laws.specs.declared.Reason.TheVariants.{OverMoveBound, CannotRun, OverCostBound, OffGoal, Dearer}
use Rattle.explain_laws.specs.declared.Reason.TheVariants.{Later, IsPlan}

-- the moves, with 31 for each larger number. The law `known-moves` says that numbers of a set's rules stay as they are
abbrev pub held_moves : Sequence → Sequence
held_moves q = map (λ n. min n max_rules) q

-- a place counted from 1, where 0 stands for none
abbrev pub place_if : ℕ → Option ℕ
place_if zero = None
place_if (suc place) = Some (suc place)

-- what an explanation tells of a reason: its number, the move or the position that it names, from 1, or 0, and both
-- costs, or 0
pub record Told : Type 0 where
  pub number : ℕ
  pub place : ℕ
  pub cost : ℕ
  pub plan_cost : ℕ

-- of a reason that names no costs
abbrev pub plain : ℕ → ℕ → Told
plain number place = record { number = number; place = place; cost = 0; plan_cost = 0 }

abbrev pub told_of : Reason → Told
told_of OverMoveBound = plain 1 0
told_of (CannotRun move) = plain 2 move
told_of (OverCostBound move) = plain 3 move
told_of (OffGoal position) = plain 4 position
told_of (Dearer cost plan_cost) = record { number = 5; place = 0; cost = cost; plan_cost = plan_cost }
told_of Later = plain 6 0
told_of IsPlan = plain 7 0

-- what is told of a reason by its number, with what it names and, where it is that the sequence q is dearer than p,
-- both costs
abbrev pub reason_with : RuleSet → Sequence → Sequence → ℕ → ℕ → Told
reason_with set q p number place =
    record {
      number = number;
      place = place;
      cost = cond (eqb number 5) (sequence_cost set q) 0;
      plan_cost = cond (eqb number 5) (sequence_cost set p) 0;
    }

-- the first reason that holds against a plan p, and what it names
unfoldable pub reason_of : RuleSet → Query → Sequence → Sequence → Told
reason_of set query q p =
    let number = first_refusal (reasons set query q p) in
    reason_with set q p number (place_of set query q number)

-- of the reasons the last three alone: dearer, as cheap but later, the plan
unfoldable pub comparison_of : RuleSet → Sequence → Sequence → Told
comparison_of set q p =
    let dearer = ltb (sequence_cost set p) (sequence_cost set q) in
    reason_with set q p (first_refusal ((5, dearer) ∷ (6, not (same q p)) ∷ (7, true) ∷ [])) 0
