-- The reason of an explanation against a plan p, told by statements: each exactly if it holds and none before it does.
-- Assumes nothing.
use mathlib.Core.Path.{◌≡◌, refl, sym, ap, subst}
use mathlib.Core.Logic.Iff
use mathlib.Core.Logic.{◌↔◌, ⊎_elim}
use mathlib.Core.Bool.{true, not, true≢false}
use mathlib.Core.Option.{some, none}
use mathlib.Core.List.{List, [], ◌∷◌, ◌++◌}
use Prim.Native.Nat.{ℕ, ◌≤◌, ◌<◌}
use native.Mathlib.Omega.{arith}
use lib.Dec.{ltb, eqb}
use lib.ListN.{length, drop}
use borrow.Author.Tests.{ltb-false, le-ltb}
use Rattle.theory_spec.specs.Lists.{same}
use Rattle.theory_spec.specs.Sequences.{Sequence, Numbered}
use Rattle.theory_spec.proofs.TestLaws.{below?, equal?, ltb_iff, eqb_iff, same_iff, not_iff, unfailed_iff}
use Rattle.model_spec.specs.States.{State}
use Rattle.model_spec.specs.Refusals.{Cause, first_refusal, NoneHolds, NonZero}
use Rattle.model_spec.specs.Rules.{run_in, sequence_cost}
use Rattle.model_spec.specs.declared.RuleSet.{RuleSet}
use Rattle.model_spec.proofs.RefusalLaws.{no_refusal_iff, refusal_at_most}
use Rattle.model_spec.proofs.CauseLaws.{passed_iff, refused_iff}
use Rattle.search_spec.specs.Query.{Query, start_state, RunsWithin, MeetsGoal, LeadsToGoal}
use Rattle.explain_spec.specs.Reasons.{failing_move, costly_move, state_of, end_position, reasons}
use Rattle.explain_spec.proofs.ReasonLaws.{failing_iff, failing_none, costly_iff, position_iff}

module _ (set : RuleSet) (query : Query) (q p : Sequence) where
  abbrev pub Runs : Type 0
  Runs = (t : State) × (run_in set q (start_state query) ≡ some t)

  abbrev end : State
  end = state_of (run_in set q (start_state query))

  abbrev until1 : List Cause
  until1 = (1, ltb query.max_moves (length q)) ∷ []

  abbrev until2 : List Cause
  until2 = until1 ++ ((2, not (eqb (failing_move set (start_state query) q) 0)) ∷ [])

  abbrev until3 : List Cause
  until3 = until2 ++ ((3, not (eqb (costly_move set query.max_cost q) 0)) ∷ [])

  abbrev until4 : List Cause
  until4 = until3 ++ ((4, not (eqb (end_position set query q) 0)) ∷ [])

  abbrev until5 : List Cause
  until5 = until4 ++ ((5, ltb (sequence_cost set p) (sequence_cost set q)) ∷ [])

  abbrev until6 : List Cause
  until6 = until5 ++ ((6, not (same q p)) ∷ [])

  -- what the reasons up to the goal have passed
  abbrev pub Short : Type 0
  Short = length q ≤ query.max_moves

  abbrev pub Cheap : Type 0
  Cheap = (Short × Runs) × (sequence_cost set q ≤ query.max_cost)

  abbrev pub AtGoal : Type 0
  AtGoal = Cheap × MeetsGoal query.goal end

  short_iff : NoneHolds until1 ↔ Short
  short_iff = (λ h. ltb-false query.max_moves (length q) h.0, λ h. (le-ltb query.max_moves (length q) h, tt))

  runs_iff : NoneHolds until2 ↔ (Short × Runs)
  runs_iff =
      passed_iff until1 2 _ short_iff
      (unfailed_iff _ (Iff.trans (eqb_iff (failing_move set (start_state query) q) 0) (failing_iff set query q)))

  cheap_iff : NoneHolds until3 ↔ Cheap
  cheap_iff =
      passed_iff until2 3 _ runs_iff
      (unfailed_iff _ (Iff.trans (eqb_iff (costly_move set query.max_cost q) 0) (costly_iff set query q)))

  met_iff : (eqb (end_position set query q) 0 ≡ true) ↔ MeetsGoal query.goal end
  unfolding end_position
  met_iff = Iff.trans (eqb_iff (end_position set query q) 0) (position_iff query.goal end)

  at-goal_iff : NoneHolds until4 ↔ AtGoal
  at-goal_iff = passed_iff until3 4 _ cheap_iff (unfailed_iff _ met_iff)

  cost_iff : NoneHolds until5 ↔ (AtGoal × (sequence_cost set q ≤ sequence_cost set p))
  cost_iff =
      passed_iff until4 5 _ at-goal_iff
      (ltb-false (sequence_cost set p) (sequence_cost set q), le-ltb (sequence_cost set p) (sequence_cost set q))

  plan_iff : NoneHolds until6 ↔ ((AtGoal × (sequence_cost set q ≤ sequence_cost set p)) × (q ≡ p))
  plan_iff = passed_iff until5 6 _ cost_iff (unfailed_iff _ (same_iff q p))

  abbrev pub reason : ℕ
  reason = first_refusal (reasons set query q p)

  pub reason_1 : (reason ≡ 1) ↔ (query.max_moves < length q)
  unfolding reasons
  reason_1 =
      let i = refused_iff [] 1 _ {P = Unit {0}} (λ h. h, λ h. h) (drop 1 (reasons set query q p)) (λ e. omega arith)
      refl refl (ltb_iff query.max_moves (length q)) in
      (λ e. (i.0 e).1, λ h. i.1 (tt, h))

  pub reason_2 : (reason ≡ 2) ↔ (Short × (run_in set q (start_state query) ≡ none))
  unfolding reasons
  reason_2 =
      refused_iff until1 2 _ short_iff (drop 2 (reasons set query q p)) (λ e. omega arith) refl refl
      (Iff.trans (not_iff _ (eqb_iff (failing_move set (start_state query) q) 0)) (failing_none set query q))

  pub reason_3 : (reason ≡ 3) ↔ ((Short × Runs) × (query.max_cost < sequence_cost set q))
  unfolding reasons
  reason_3 =
      refused_iff until2 3 _ runs_iff (drop 3 (reasons set query q p)) (λ e. omega arith) refl refl
      (Iff.trans
      (not_iff _ (Iff.trans (eqb_iff (costly_move set query.max_cost q) 0) (costly_iff set query q)))
      (λ n. ⊎_elim (λ h. h) (λ h. absurd (n h)) (below? query.max_cost (sequence_cost set q)), λ h k. omega arith))

  pub reason_4 : (reason ≡ 4) ↔ (Cheap × (MeetsGoal query.goal end → ⊥))
  unfolding reasons
  reason_4 =
      refused_iff until3 4 _ cheap_iff (drop 4 (reasons set query q p)) (λ e. omega arith) refl refl (not_iff _ met_iff)

  pub reason_5 : (reason ≡ 5) ↔ (AtGoal × (sequence_cost set p < sequence_cost set q))
  unfolding reasons
  reason_5 =
      refused_iff until4 5 _ at-goal_iff (drop 5 (reasons set query q p)) (λ e. omega arith) refl refl
      (ltb_iff (sequence_cost set p) (sequence_cost set q))

  pub reason_6 : (reason ≡ 6) ↔ ((AtGoal × (sequence_cost set q ≤ sequence_cost set p)) × (q ≡ p → ⊥))
  unfolding reasons
  reason_6 =
      refused_iff until5 6 _ cost_iff (drop 6 (reasons set query q p)) (λ e. omega arith) refl refl
      (not_iff _ (same_iff q p))

  pub reason_7 : (reason ≡ 7) ↔ ((AtGoal × (sequence_cost set q ≤ sequence_cost set p)) × (q ≡ p))
  unfolding reasons
  reason_7 =
      let i = refused_iff until6 7 true {Q = Unit {0}} plan_iff [] (λ e. omega arith) refl refl (λ _. tt, λ _. refl)
      in
      (λ e. (i.0 e).0, λ h. i.1 (h, tt))

  -- there is always one of the seven
  pub reason_limits : (1 ≤ reason) × (reason ≤ 7)
  unfolding reasons
  reason_limits = (
    ⊎_elim (λ e. absurd (plan_left ((no_refusal_iff (reasons set query q p) numbers).0 e))) (λ e. omega arith)
        (equal? reason 0),
    refusal_at_most 7 (reasons set query q p)
        (omega arith, (omega arith, (omega arith, (omega arith, (omega arith, (omega arith, (omega arith, tt))))))),
  )
    where
      numbers : NonZero (reasons set query q p)
      numbers = (
        λ e. omega arith,
        (
          λ e. omega arith,
          (λ e. omega arith, (λ e. omega arith, (λ e. omega arith, (λ e. omega arith, (λ e. omega arith, tt))))),
        ),
      )

      -- the last reason always holds
      plan_left : NoneHolds (reasons set query q p) → ⊥
      plan_left h = true≢false h.1.1.1.1.1.1.0

  -- with moves that are rules' numbers, no reason up to the goal holds exactly if the sequence leads to the goal within
  -- both bounds
  pub leads_iff : Numbered set.count q → AtGoal ↔ LeadsToGoal set query q
  leads_iff rules = (
    λ w. let run = w.0.0.1 in record {
      runs_within = record { rules = rules; moves = w.0.0.0; costs = w.0.1; end = run.0; runs = run.1 };
      at_goal = subst (MeetsGoal query.goal) (ap state_of run.1) w.1;
    },
    λ h. let r = h.runs_within in (
      ((r.moves, (r.end, r.runs)), r.costs),
      subst (MeetsGoal query.goal) (sym (ap state_of r.runs)) h.at_goal,
    ),
  )

  pub off_iff : Numbered set.count q
      → (Cheap × (MeetsGoal query.goal end → ⊥))
      ↔ ((r : RunsWithin set query q) × (MeetsGoal query.goal r.end → ⊥))
  off_iff rules = (
    λ w. let run = w.0.0.1 in (
      record { rules = rules; moves = w.0.0.0; costs = w.0.1; end = run.0; runs = run.1 },
      λ m. w.1 (subst (MeetsGoal query.goal) (sym (ap state_of run.1)) m),
    ),
    λ w. let r = w.0 in (
      ((r.moves, (r.end, r.runs)), r.costs),
      λ m. w.1 (subst (MeetsGoal query.goal) (ap state_of r.runs) m),
    ),
  )
