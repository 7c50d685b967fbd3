-- What the answer of a search means, for every query: each number exactly if its cause holds and none before it does, 0
-- exactly if none does; demand 3 for a query that is not refused.
-- Assumes nothing.
use mathlib.Core.Path.{◌≡◌, refl, sym, ap, ◌∙◌, subst}
use mathlib.Core.Logic.Iff
use mathlib.Core.Logic.{◌↔◌, ◌≢◌, inl, inr}
use mathlib.Core.Bool.{true, not}
use mathlib.Core.List.{List, [], ◌∷◌, ◌++◌}
use Prim.Native.Nat.{ℕ}
use native.Mathlib.Omega.{arith}
use lib.Dec.{ltb}
use lib.ListN.{length, drop}
use borrow.Author.Tests.{ltb-false, le-ltb}
use Rattle.theory_spec.specs.Sequences.{Sequence}
use Rattle.theory_spec.proofs.ListLaws.{of-is_some}
use Rattle.theory_spec.proofs.TestLaws.{ltb_iff, not_iff, unfailed_iff}
use Rattle.model_spec.specs.Refusals.{Cause, first_refusal, NoneHolds}
use Rattle.model_spec.specs.declared.RuleSet.{RuleSet}
use Rattle.model_spec.proofs.RefusalLaws.{no_refusal_iff, AtMost}
use Rattle.model_spec.proofs.CauseLaws.{early_iff, passed_iff, refused_iff}
use Rattle.tables_spec.specs.Table.{accepted, Accepted}
use Rattle.tables_spec.specs.Answers.{table_causes, build_outcome, Ready}
use Rattle.tables_spec.proofs.TableLaws.{accepted_iff}
use Rattle.tables_spec.proofs.AnswerLaws.{build_ready_iff, build_meaning}
use Rattle.search_spec.specs.Query.{Query, start_fits, goal_fits, StartFits, GoalFits}
use Rattle.search_spec.specs.Looked.{cheapest_looked, LookedPlan}
use Rattle.search_spec.specs.Searched.{query_causes, search_causes, is_answer, searched_with, searched, NotRefused}
use Rattle.search_spec.specs.Searched.{Limited, PlanAtLimit, StartPassed, GoalPassed, MovesPassed, RoomPassed}
use Rattle.search_spec.specs.Searched.{WellPosed, OverLimit, SearchMeaning}
use Rattle.search_spec.proofs.VisitedLaws.{start-fits_iff, goal-fits_iff}
use Rattle.search_spec.proofs.Demand.{query-numbers, demand_3}
use Rattle.search_spec.proofs.LookedLaws.{looked_meaning, some-looked_iff}
use Rattle.search_spec.proofs.EndLaws.{plan_at_limit_iff, none_at_limit_iff, unsolvable_iff, solved_iff}
use Rattle.search_spec.proofs.AtLimitLaws.{plan_at_limit_lem}
use Rattle.search_spec.proofs.AnswerLaws.{search-numbers, refused-outcome, refused_no-answer}
use Rattle.search_spec.proofs.AnswerLaws.{searched_blank, searched_floorless, refused-steps}

-- ── The causes in turn ───────────────────────────────────────────────────────────────────────────

module _ (set : RuleSet) (query : Query) (room : ℕ) where
  abbrev until_table : List Cause
  until_table = table_causes set query.reach (length query.table)

  abbrev until_start : List Cause
  until_start = until_table ++ ((9, not (start_fits set query.start)) ∷ [])

  abbrev until_goal : List Cause
  until_goal = until_start ++ ((10, not (goal_fits set query.goal)) ∷ [])

  abbrev until_moves : List Cause
  until_moves = until_goal ++ ((11, ltb 32 query.max_moves) ∷ [])

  abbrev until_room : List Cause
  until_room = until_moves ++ ((12, ltb room query.max_moves) ∷ [])

  start_iff : (start_fits set query.start ≡ true) ↔ StartFits set query.start
  start_iff = start-fits_iff set query.start

  goal_iff : (goal_fits set query.goal ≡ true) ↔ GoalFits set query.goal
  goal_iff = goal-fits_iff set query.goal

  accepts_iff : (accepted set query.reach query.table ≡ true) ↔ Accepted set query.reach query.table
  accepts_iff = accepted_iff set query.reach query.table

  ready_iff : NoneHolds until_table ↔ Ready set query.reach (length query.table)
  unfolding table_causes build_outcome
  ready_iff =
      let n = no_refusal_iff (table_causes set query.reach (length query.table))
      (λ e. omega arith, (λ e. omega arith, (λ e. omega arith, tt))) in
      let r = build_ready_iff set query.reach (length query.table) in
      (λ h. r.0 (n.1 h), λ w. n.0 (r.1 w))

  start-passed_iff : NoneHolds until_start ↔ StartPassed set query
  start-passed_iff = passed_iff until_table 9 _ ready_iff (unfailed_iff _ start_iff)

  goal-passed_iff : NoneHolds until_goal ↔ GoalPassed set query
  goal-passed_iff = passed_iff until_start 10 _ start-passed_iff (unfailed_iff _ goal_iff)

  moves-passed_iff : NoneHolds until_moves ↔ MovesPassed set query
  moves-passed_iff =
      passed_iff until_goal 11 _ goal-passed_iff (ltb-false 32 query.max_moves, le-ltb 32 query.max_moves)

  room-passed_iff : NoneHolds until_room ↔ RoomPassed set query room
  room-passed_iff =
      passed_iff until_moves 12 _ moves-passed_iff (ltb-false room query.max_moves, le-ltb room query.max_moves)

  -- a query is not refused exactly if it has no fault
  pub not-refused_iff : NotRefused set query room ↔ WellPosed set query room
  unfolding query_causes table_causes
  not-refused_iff = passed_iff until_room 14 _ room-passed_iff (unfailed_iff _ accepts_iff)

  -- and exactly then the first refusal is 0
  pub unrefused_iff : (first_refusal (query_causes set query room) ≡ 0) ↔ WellPosed set query room
  unrefused_iff = Iff.trans (no_refusal_iff (query_causes set query room) (query-numbers set query room)) not-refused_iff

  refused_no-steps : (WellPosed set query room → ⊥) → (searched set query room).answer.steps ≡ 0
  unfolding searched searched_with
  refused_no-steps n =
      let refused : first_refusal (query_causes set query room) ≢ 0 = λ e. n (unrefused_iff.0 e) in
      refused-steps set query room
      (ap is_answer (refused-outcome set query room refused) ∙ refused_no-answer set query room refused)

  -- ── Limit and plan ─────────────────────────────────────────────────────────────────────────────

  abbrev causes : List Cause
  causes = search_causes set query room

  abbrev outcome : ℕ
  outcome = first_refusal causes

  -- the causes of a query have numbers up to 14, and those of the ends come behind
  pub query_few : AtMost 14 (query_causes set query room)
  unfolding query_causes table_causes
  query_few = (
    omega arith,
    (omega arith, (omega arith, (omega arith, (omega arith, (omega arith, (omega arith, (omega arith, tt))))))),
  )

  planned : (outcome ≡ 18) ↔ (OverLimit set query room × ((q : Sequence) × LookedPlan set query q))
  unfolding search_causes
  planned = plan_at_limit_iff set query (query_causes set query room) not-refused_iff query_few

  unplanned : (outcome ≡ 16) ↔ (OverLimit set query room × ((q : Sequence) → LookedPlan set query q → ⊥))
  unfolding search_causes
  unplanned = none_at_limit_iff set query (query_causes set query room) not-refused_iff query_few

  -- over the limit the steps are the limit
  limit-steps : Limited outcome → (searched set query room).answer.steps ≡ query.step_limit
  limit-steps w = by_over (over_limit w)
    where
      over_limit : Limited outcome → OverLimit set query room
      over_limit (inl e) = (unplanned.0 e).0
      over_limit (inr e) = (planned.0 e).0

      by_over : OverLimit set query room → (searched set query room).answer.steps ≡ query.step_limit
      by_over o = omega (arith, (demand_3 set query room (not-refused_iff.1 o.0)).steps, o.1)

  shown_at_limit_lem : outcome ≡ 18 → PlanAtLimit set query room (searched set query room)
  unfolding searched
  shown_at_limit_lem e =
      let w = planned.0 e in
      let p = of-is_some (cheapest_looked set query) ((some-looked_iff set query).1 w.1) in
      subst (λ n. PlanAtLimit set query room (searched_with set query room n)) (sym e)
      (plan_at_limit_lem set query room (not-refused_iff.1 w.0.0) p.0 p.1)

  -- what a search gives and leaves has its meaning, for every set, query and room
  pub search_meaning : SearchMeaning set query room (searched set query room)
  unfolding searched searched_with search_causes query_causes table_causes build_outcome
  search_meaning =
      let shared = build_meaning set query.reach (length query.table) in
      record {
        not_valid = Iff.trans (early_iff until_table (drop 3 causes) 7 (λ e. omega arith) refl) shared.not_valid;
        bad_reach = Iff.trans (early_iff until_table (drop 3 causes) 5 (λ e. omega arith) refl) shared.bad_reach;
        bad_length = Iff.trans (early_iff until_table (drop 3 causes) 6 (λ e. omega arith) refl) shared.bad_length;
        bad_start =
            refused_iff until_table 9 _ ready_iff (drop 4 causes) (λ e. omega arith) refl refl (not_iff _ start_iff);
        bad_goal =
            refused_iff until_start 10 _ start-passed_iff (drop 5 causes) (λ e. omega arith) refl refl
            (not_iff _ goal_iff);
        many_moves =
            refused_iff until_goal 11 _ goal-passed_iff (drop 6 causes) (λ e. omega arith) refl refl
            (ltb_iff 32 query.max_moves);
        small_buffer =
            refused_iff until_moves 12 _ moves-passed_iff (drop 7 causes) (λ e. omega arith) refl refl
            (ltb_iff room query.max_moves);
        not_accepted =
            refused_iff until_room 14 _ room-passed_iff (drop 8 causes) (λ e. omega arith) refl refl
            (not_iff _ accepts_iff);
        plan_at_limit = planned;
        none_at_limit = unplanned;
        unsolvable = unsolvable_iff set query (query_causes set query room) not-refused_iff query_few;
        solved =
            solved_iff set query (query_causes set query room) not-refused_iff query_few (search-numbers set query room);
        answered = λ f. demand_3 set query room (not-refused_iff.1 f);
        looked = looked_meaning set query;
        limit_steps = limit-steps;
        shown_at_limit = shown_at_limit_lem;
        no_steps = refused_no-steps;
        no_plan_shown = searched_blank set query room;
        no_floor = searched_floorless set query room;
      }
