-- Why a proposed sequence is not the plan (document 02, request 2026-06): the reasons, and what each names. Each is
-- tried over the whole proposal, one after the other.
use Rattle.std.specs.Prelude.{Bool, true, not, cond, ◌&&◌, List, [], ◌∷◌, ℕ, ◌-◌, ltb, eqb, length, get_or, take}
use Rattle.std.proofs.Math.Option.{Option, some, none}
use Rattle.theory_spec.specs.Lists.{same, is_some, numbers_from, first_that}
use Rattle.theory_spec.specs.Sequences.{Sequence}
use Rattle.model_spec.specs.States.{State}
use Rattle.model_spec.specs.Refusals.{Cause}
use Rattle.model_spec.specs.Rules.{run_in, sequence_cost}
use Rattle.model_spec.specs.declared.RuleSet.{RuleSet}
use Rattle.search_spec.specs.Query.{Query, any_value, start_state}

-- the first move, from 1, up to which a sequence cannot be run from s; 0 if it can
unfoldable pub failing_move : RuleSet → State → Sequence → ℕ
failing_move set s q = first_that (λ k. not (is_some (run_in set (take k q) s))) (numbers_from 1 (length q))

-- the first move, from 1, up to which it costs more than a bound; 0 if it does not
unfoldable pub costly_move : RuleSet → ℕ → Sequence → ℕ
costly_move set max_cost q = first_that (λ k. ltb max_cost (sequence_cost set (take k q))) (numbers_from 1 (length q))

-- the value at a position, from 1, is not what the goal asks for
unfoldable pub is_wrong : List ℕ → State → ℕ → Bool
is_wrong goal s i =
    not (eqb (get_or goal (i - 1) 0) any_value)
    && not (eqb (get_or s (i - 1) 0) (get_or goal (i - 1) 0))

-- the lowest such position; 0 if the goal is met
unfoldable pub wrong_position : List ℕ → State → ℕ
wrong_position goal s = first_that (is_wrong goal s) (numbers_from 1 (length goal))

-- the state of a run. No answer depends on what it gives where there is none
abbrev pub state_of : Option State → State
state_of none = []
state_of (some s) = s

module _ (set : RuleSet) (query : Query) (q : Sequence) where
  -- the lowest wrong position of the state in which the sequence ends
  unfoldable pub end_position : ℕ
  end_position = wrong_position query.goal (state_of (run_in set q (start_state query)))

  -- the reasons against a plan p, in document 02's order: it is over the move bound; it cannot be run; it passes the
  -- cost bound; it ends off the goal; it is dearer than the plan; it is equally cheap but later in the order; it is the
  -- plan. The first that holds is given, as with causes of a refusal. What is left at 6 leads to the goal and is not
  -- dearer than p, the cheapest and first of all: if it is not p, it costs as much and comes later. Where there is no
  -- plan, one of 1 to 4 holds
  unfoldable pub reasons : Sequence → List Cause
  reasons p =
      (1, ltb query.max_moves (length q))
      ∷ (2, not (eqb (failing_move set (start_state query) q) 0))
      ∷ (3, not (eqb (costly_move set query.max_cost q) 0))
      ∷ (4, not (eqb end_position 0))
      ∷ (5, ltb (sequence_cost set p) (sequence_cost set q))
      ∷ (6, not (same q p))
      ∷ (7, true)
      ∷ []

  -- the number of the move or of the position that a reason names, from 1; 0 for the others
  unfoldable pub place_of : ℕ → ℕ
  place_of reason =
      cond (eqb reason 2) (failing_move set (start_state query) q)
      (cond (eqb reason 3) (costly_move set query.max_cost q)
      (cond (eqb reason 4) end_position 0))
