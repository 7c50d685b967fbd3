-- The outcome of an explanation, told by statements: each number exactly if its cause holds and none before it does.
-- Assumes nothing.
use mathlib.Core.Path.{◌≡◌, refl, sym, ap, ◌∙◌}
use mathlib.Core.Logic.{◌↔◌, ◌≢◌, ⊎_elim}
use mathlib.Core.Bool.{Bool, true, false, not}
use mathlib.Core.List.{List, [], ◌∷◌, ◌++◌}
use Prim.Native.Nat.{ℕ, suc, ◌*◌, ◌≤◌, ◌<◌}
use native.Mathlib.Omega.{arith}
use lib.Dec.{ltb, eqb}
use lib.ListN.{length}
use borrow.Author.Tests.{eqb-true, le-ltb}
use Rattle.theory_spec.specs.Lists.{any, within, is_some}
use Rattle.theory_spec.specs.Sequences.{Sequence, Numbered}
use Rattle.theory_spec.proofs.ListLaws.{passes?, not-both, or_split}
use Rattle.theory_spec.proofs.TestLaws.{equal?}
use Rattle.model_spec.specs.Limits.{move_limit}
use Rattle.model_spec.specs.Refusals.{Cause, first_refusal, NoneHolds, NonZero}
use Rattle.model_spec.specs.Validity.{Valid}
use Rattle.model_spec.specs.declared.RuleSet.{RuleSet}
use Rattle.model_spec.proofs.RefusalLaws.{refusal-append, refusal-before, refusal_skip, AtMost}
use Rattle.model_spec.proofs.CauseLaws.{Apart, early_iff, passed_iff, refused_iff}
use Rattle.model_spec.proofs.MoveLaws.{no_unknown_iff}
use Rattle.tables_spec.specs.Table.{table_entries, accepted, Accepted}
use Rattle.tables_spec.specs.Answers.{table_causes, ReachLimits, Ready}
use Rattle.search_spec.specs.Query.{Query, start_fits, goal_fits, StartFits, GoalFits, LeadsToGoal}
use Rattle.search_spec.specs.Looked.{LookedPlan}
use Rattle.search_spec.specs.Searched.{query_causes, cheapest_plan, end_causes, search_causes, searched_with, searched}
use Rattle.search_spec.specs.Searched.{StartPassed, GoalPassed, MovesPassed}
use Rattle.search_spec.proofs.Demand.{query-numbers}
use Rattle.search_spec.proofs.EndLaws.{some-plan_iff, plan_at_limit_iff, none_at_limit_iff, unsolvable_iff, solved_iff}
use Rattle.search_spec.proofs.MeaningLaws.{not-refused_iff, search_meaning}
use Rattle.explain_spec.specs.Explained.{explain_causes, has_reason}
use Rattle.explain_spec.specs.Meaning.{TablePassed, ProposalPassed, Unfinished, Finished}

-- where 11 and 12 have one test, 12 is never given
room_cut : (before after : List Cause) (b : Bool)
    → first_refusal (before ++ ((11, b) ∷ (12, b) ∷ after)) ≡ first_refusal (before ++ ((11, b) ∷ (12, false) ∷ after))
room_cut [] after true = refl
room_cut [] after false = refl
room_cut ((n, true) ∷ before) after b = refl
room_cut ((n, false) ∷ before) after b = room_cut before after b

module _ (set : RuleSet) (query : Query) (q : Sequence) where
  abbrev asking : List Cause
  asking = query_causes set query move_limit

  abbrev until_proposal : List Cause
  until_proposal = asking ++ ((13, any (λ n. not (within 1 set.count n)) q) ∷ [])

  abbrev pub outcome : ℕ
  outcome = first_refusal (explain_causes set query q)

  -- ── As of a search with room for every plan ────────────────────────────────────────────────────

  -- a number that neither 13 nor an end has is the outcome exactly if it is the search's
  as_search : (k : ℕ) {P : Type 0} → k ≢ 0 → Apart k ((13, true) ∷ end_causes set query)
      → Apart k (end_causes set query)
      → ((searched set query move_limit).answer.outcome ≡ k) ↔ P → (outcome ≡ k) ↔ P
  unfolding explain_causes search_causes searched_with searched
  as_search k h a b i =
      let own = early_iff asking ((13, any (λ n. not (within 1 set.count n)) q) ∷ end_causes set query) k h a in
      let other = early_iff asking (end_causes set query) k h b in
      (λ e. i.0 (other.1 (own.0 e)), λ p. own.1 (other.0 (i.1 p)))

  pub outcome_7 : (outcome ≡ 7) ↔ (Valid set → ⊥)
  outcome_7 = as_search 7 (λ e. omega arith) refl refl (search_meaning set query move_limit).not_valid

  pub outcome_5 : (outcome ≡ 5) ↔ (Valid set × (ReachLimits query.reach → ⊥))
  outcome_5 = as_search 5 (λ e. omega arith) refl refl (search_meaning set query move_limit).bad_reach

  pub outcome_6 : (outcome ≡ 6)
      ↔ (Valid set × (ReachLimits query.reach × (length query.table ≢ 2 * table_entries set query.reach)))
  outcome_6 = as_search 6 (λ e. omega arith) refl refl (search_meaning set query move_limit).bad_length

  pub outcome_9 : (outcome ≡ 9)
      ↔ (Ready set query.reach (length query.table) × (StartFits set query.start → ⊥))
  outcome_9 = as_search 9 (λ e. omega arith) refl refl (search_meaning set query move_limit).bad_start

  pub outcome_10 : (outcome ≡ 10) ↔ (StartPassed set query × (GoalFits set query.goal → ⊥))
  outcome_10 = as_search 10 (λ e. omega arith) refl refl (search_meaning set query move_limit).bad_goal

  pub outcome_11 : (outcome ≡ 11) ↔ (GoalPassed set query × (move_limit < query.max_moves))
  outcome_11 = as_search 11 (λ e. omega arith) refl refl (search_meaning set query move_limit).many_moves

  -- where more than 32 moves are asked for, 11 is given
  pub never_12 : outcome ≢ 12
  never_12 e =
      let w = (as_search 12 (λ z. omega arith) refl refl (search_meaning set query move_limit).small_buffer).0 e in
      omega (arith, w.0.1, w.1)

  pub outcome_14 : (outcome ≡ 14) ↔ (MovesPassed set query × (Accepted set query.reach query.table → ⊥))
  outcome_14 =
      let i = as_search 14 (λ e. omega arith) refl refl (search_meaning set query move_limit).not_accepted in
      (λ e. let w = i.0 e in (w.0.0, w.1), λ w. i.1 ((w.0, w.0.1), w.1))

  -- ── The proposal, and how the query ends ───────────────────────────────────────────────────────

  table-passed_iff : NoneHolds asking ↔ TablePassed set query
  table-passed_iff =
      let i = not-refused_iff set query move_limit in
      (λ h. let w = i.0 h in (w.0.0, w.1), λ w. i.1 ((w.0, w.0.1), w.1))

  known_iff : (any (λ n. not (within 1 set.count n)) q ≡ false) ↔ Numbered set.count q
  known_iff = no_unknown_iff set.count q

  unknown_iff : (any (λ n. not (within 1 set.count n)) q ≡ true) ↔ (Numbered set.count q → ⊥)
  unknown_iff = (
    λ e h. not-both e (known_iff.1 h),
    λ n. ⊎_elim (λ e. e) (λ e. absurd (n (known_iff.0 e))) (passes? (any (λ n. not (within 1 set.count n)) q)),
  )

  pub outcome_13 : (outcome ≡ 13) ↔ (TablePassed set query × (Numbered set.count q → ⊥))
  unfolding explain_causes query_causes table_causes
  outcome_13 =
      refused_iff asking 13 _ table-passed_iff (end_causes set query) (λ e. omega arith) refl refl unknown_iff

  proposal-passed_iff : NoneHolds until_proposal ↔ ProposalPassed set query q
  proposal-passed_iff = passed_iff asking 13 _ table-passed_iff known_iff

  few : AtMost 14 until_proposal
  unfolding query_causes table_causes
  few = (
    omega arith,
    (
      omega arith,
      (omega arith, (omega arith, (omega arith, (omega arith, (omega arith, (omega arith, (omega arith, tt))))))),
    ),
  )

  pub outcome_18 : (outcome ≡ 18) ↔ (Unfinished set query q × ((p : Sequence) × LookedPlan set query p))
  unfolding explain_causes query_causes table_causes
  outcome_18 = plan_at_limit_iff set query until_proposal proposal-passed_iff few

  pub outcome_16 : (outcome ≡ 16) ↔ (Unfinished set query q × ((p : Sequence) → LookedPlan set query p → ⊥))
  unfolding explain_causes query_causes table_causes
  outcome_16 = none_at_limit_iff set query until_proposal proposal-passed_iff few

  pub outcome_15 : (outcome ≡ 15) ↔ (Finished set query q × ((p : Sequence) → LeadsToGoal set query p → ⊥))
  unfolding explain_causes query_causes table_causes
  outcome_15 = unsolvable_iff set query until_proposal proposal-passed_iff few

  explain-numbers : NonZero (explain_causes set query q)
  unfolding explain_causes query_causes table_causes
  explain-numbers =
      let positive : (n : ℕ) → suc n ≡ 0 → ⊥ = λ n e. omega arith in (
        positive 6,
        (
          positive 4,
          (
            positive 5,
            (
              positive 8,
              (
                positive 9,
                (
                  positive 10,
                  (
                    positive 11,
                    (positive 13, (positive 12, (positive 17, (positive 15, (positive 14, tt))))),
                  ),
                ),
              ),
            ),
          ),
        ),
      )

  pub outcome_0 : (outcome ≡ 0) ↔ (Finished set query q × ((p : Sequence) × LeadsToGoal set query p))
  unfolding explain_causes query_causes table_causes
  outcome_0 = solved_iff set query until_proposal proposal-passed_iff few explain-numbers

  -- 0 and 15 are the outcomes of an explanation that has a reason
  pub reason_iff : (has_reason outcome ≡ true) ↔ Finished set query q
  reason_iff = (to, from)
    where
      to : has_reason outcome ≡ true → Finished set query q
      to e =
          ⊎_elim (λ z. (outcome_0.0 (eqb-true outcome 0 z)).0) (λ z. (outcome_15.0 (eqb-true outcome 15 z)).0)
          (or_split (eqb outcome 0) (eqb outcome 15) e)

      from : Finished set query q → has_reason outcome ≡ true
      from h =
          ⊎_elim (λ e. let w = (some-plan_iff set query).0 e in ap has_reason (outcome_0.1 (h, w)))
          (λ e. ap has_reason (outcome_15.1 (h, λ p k. not-both ((some-plan_iff set query).1 (p, k)) e)))
          (passes? (is_some (cheapest_plan set query)))

  -- ── The outcome is the search's, but for 13 ────────────────────────────────────────────────────

  abbrev found : ℕ
  found = first_refusal (search_causes set query move_limit)

  pub known-found : any (λ n. not (within 1 set.count n)) q ≡ false → outcome ≡ found
  unfolding explain_causes search_causes
  known-found e =
      ap (λ b. first_refusal (asking ++ ((13, b) ∷ end_causes set query))) e
      ∙ refusal_skip asking (end_causes set query) 13

  -- a refusal of the query comes before a move that is no rule's number
  refused-found : first_refusal asking ≢ 0 → outcome ≡ found
  unfolding explain_causes search_causes
  refused-found n = refusal-before asking _ n ∙ sym (refusal-before asking (end_causes set query) n)

  pub unknown_13 : first_refusal asking ≡ 0 → any (λ n. not (within 1 set.count n)) q ≡ true → outcome ≡ 13
  unfolding explain_causes
  unknown_13 z e =
      refusal-append asking _ (query-numbers set query move_limit) z
      ∙ ap (λ b. first_refusal ((13, b) ∷ end_causes set query)) e

  -- a buffer of at least the move bound serves as well as one for every plan
  room-alike : (room : ℕ) → query.max_moves ≤ room → found ≡ first_refusal (search_causes set query room)
  unfolding search_causes query_causes table_causes
  room-alike room fits =
      let before : List Cause = table_causes set query.reach (length query.table)
      ++ ((9, not (start_fits set query.start)) ∷ (10, not (goal_fits set query.goal)) ∷ []) in
      let after : List Cause = (14, not (accepted set query.reach query.table)) ∷ end_causes set query in
      let over = ltb move_limit query.max_moves in
      room_cut before after over
      ∙ ap (λ b. first_refusal (before ++ ((11, over) ∷ (12, b) ∷ after))) (sym (le-ltb room query.max_moves fits))

  pub as-searched : (room : ℕ) → query.max_moves ≤ room → outcome ≢ 13
      → outcome ≡ (searched set query room).answer.outcome
  unfolding searched searched_with
  as-searched room fits h =
      ⊎_elim
      (λ e. ⊎_elim (λ z. absurd (h (unknown_13 z e))) refused-found (equal? (first_refusal asking) 0))
      known-found
      (passes? (any (λ n. not (within 1 set.count n)) q))
      ∙ room-alike room fits
