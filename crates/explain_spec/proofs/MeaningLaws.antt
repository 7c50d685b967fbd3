-- What an explanation tells has its meaning, for every set, query and proposal.
-- Assumes nothing.
use mathlib.Core.Path.{◌≡◌, refl, sym, ap, subst, ◌∙◌}
use mathlib.Core.Logic.Iff
use mathlib.Core.Logic.{◌⊎◌, inl, inr, ◌↔◌, ◌≢◌, ⊎_elim}
use mathlib.Core.Bool.{true, false}
use mathlib.Core.List.{[], ◌++◌}
use Prim.Native.Nat.{ℕ, ◌-◌, ◌≤◌, ◌<◌}
use native.Mathlib.Omega.{arith}
use lib.ListN.{length, take, drop, length-append}
use borrow.Author.Tests.{eq-eqb, ne_eqb}
use Rattle.theory_spec.specs.Lists.{padded, numbers_from, first_that}
use Rattle.theory_spec.specs.Sequences.{Sequence}
use Rattle.theory_spec.specs.Order.{Before}
use Rattle.theory_spec.specs.Plans.{Preferred}
use Rattle.theory_spec.proofs.ListLaws.{passes?}
use Rattle.theory_spec.proofs.OrderLaws.{before_irrefl}
use Rattle.theory_spec.proofs.TestLaws.{equal?}
use Rattle.model_spec.specs.States.{State}
use Rattle.model_spec.specs.Rules.{rule_cost, run_in, sequence_cost}
use Rattle.model_spec.specs.declared.RuleSet.{RuleSet}
use Rattle.tables_spec.specs.Table.{Marked}
use Rattle.tables_spec.proofs.TableLaws.{marked_iff}
use Rattle.search_spec.specs.Query.{Query, start_state, LeadsToGoal, Unpruned}
use Rattle.search_spec.specs.Searched.{shown_plan, searched}
use Rattle.search_spec.specs.PlanPart.{part_of}
use Rattle.search_spec.proofs.MeaningLaws.{search_meaning}
use Rattle.search_spec.proofs.PlanPartLaws.{part_meaning, part-shown}
use Rattle.explain_spec.specs.Reasons.{costly_move, state_of, end_position, place_of}
use Rattle.explain_spec.specs.Segments.{segment_of, shortest_at, soonest_length, marks, witness_of, marked_end}
use Rattle.explain_spec.specs.Segments.{marked_length, segment_witness}
use Rattle.explain_spec.specs.Explained.{has_reason, bare, plan_for, explained_with, first_reason, explained_by}
use Rattle.explain_spec.specs.Explained.{explained}
use Rattle.explain_spec.specs.Meaning.{Finished, FailsAt, PassesAt, WrongAt, ThePlan, RunsTo, MarkedSegment}
use Rattle.explain_spec.specs.Meaning.{ExplanationMeaning}
use Rattle.explain_spec.specs.declared.Explanation.{Explanation}
use Rattle.explain_spec.proofs.ReasonLaws.{failing_none, failing_at, costly_iff, costly_at, position_iff}
use Rattle.explain_spec.proofs.ReasonLaws.{wrong_at}
use Rattle.explain_spec.proofs.SegmentLaws.{segment-splits, segment-length, front_length, no-end_iff}
use Rattle.explain_spec.proofs.SegmentLaws.{end_limits, soonest, segment_passes}
use Rattle.explain_spec.proofs.WitnessLaws.{witness-named, witness-earlier, witness-redundant, witness-short}
use Rattle.explain_spec.proofs.PlanLaws.{plan_there, plan-once, plan_unpruned}
use Rattle.explain_spec.proofs.OutcomeLaws.{outcome, outcome_7, outcome_5, outcome_6, outcome_9, outcome_10}
use Rattle.explain_spec.proofs.OutcomeLaws.{outcome_11, never_12, outcome_14, outcome_13, outcome_18}
use Rattle.explain_spec.proofs.OutcomeLaws.{outcome_16, outcome_15, outcome_0, reason_iff, as-searched}
use Rattle.explain_spec.proofs.FirstReasonLaws.{reason_1, reason_2, reason_3, reason_4, reason_5, reason_6}
use Rattle.explain_spec.proofs.FirstReasonLaws.{reason_7, reason_limits, leads_iff, off_iff}

-- a statement beside another, told by it
beside : {A B C E : Type 0} → A ↔ (E × B) → (E → B ↔ C) → A ↔ (E × C)
beside i j = (λ a. let w = i.0 a in (w.0, (j w.0).0 w.1), λ w. i.1 (w.0, (j w.0).1 w.1))

module _ (set : RuleSet) (query : Query) (q : Sequence) where
  abbrev plan : Sequence
  plan = plan_for set query

  abbrev pub number : ℕ
  number = outcome set query q

  abbrev why : ℕ
  why = first_reason set query q

  abbrev pub answer : Explanation
  answer = explained set query q

  -- ── The two forms of an answer ─────────────────────────────────────────────────────────────────

  answer_told : Finished set query q → answer ≡ explained_with set query q number why
  unfolding explained explained_by
  answer_told h = rw ((reason_iff set query q).1 h) refl

  answer-bare : has_reason number ≡ false → answer ≡ bare number
  unfolding explained explained_by
  answer-bare e = rw e refl

  forms : Finished set query q ⊎ (has_reason number ≡ false)
  forms = ⊎_elim (λ e. inl ((reason_iff set query q).0 e)) inr (passes? (has_reason number))

  pub number_of : answer.outcome ≡ number
  unfolding explained_with
  number_of = ⊎_elim (λ h. ap (λ a. a.outcome) (answer_told h)) (λ e. ap (λ a. a.outcome) (answer-bare e)) forms

  by_number : (k : ℕ) {P : Type 0} → (number ≡ k) ↔ P → (answer.outcome ≡ k) ↔ P
  by_number k i = (λ e. i.0 (sym number_of ∙ e), λ p. number_of ∙ i.1 p)

  alone : answer.outcome ≢ 0 → answer.outcome ≢ 15 → answer ≡ bare answer.outcome
  alone h k =
      let none : has_reason number ≡ false =
      rw (ne_eqb number 0 (λ e. h (number_of ∙ e)), ne_eqb number 15 (λ e. k (number_of ∙ e))) in
      answer-bare none ∙ ap bare (sym number_of)

  -- ── Reasons ────────────────────────────────────────────────────────────────────────────────────

  why_of : Finished set query q → answer.reason ≡ why
  unfolding explained_with
  why_of h = ap (λ a. a.reason) (answer_told h)

  reason_told : (k : ℕ) → k ≢ 0 → (answer.reason ≡ k) ↔ (Finished set query q × (why ≡ k))
  reason_told k n = (
    λ e. ⊎_elim (λ h. (h, sym (why_of h) ∙ e)) (λ b. absurd (n (sym e ∙ ap (λ a. a.reason) (answer-bare b)))) forms,
    λ w. why_of w.0 ∙ w.1,
  )

  reasoned : Finished set query q → (1 ≤ answer.reason) × (answer.reason ≤ 7)
  reasoned h = let w = reason_limits set query q plan in (omega (arith, why_of h, w.0), omega (arith, why_of h, w.1))

  -- the reasons that compare a sequence which leads to the goal with the plan
  dearer_iff : Finished set query q
      → (why ≡ 5)
      ↔ (LeadsToGoal set query q
      × ((p : Sequence) × ThePlan set query p × (sequence_cost set p < sequence_cost set q)))
  dearer_iff h =
      let l = leads_iff set query q plan h.0.1 in (
        λ e. let w = (reason_5 set query q plan).0 e in
            let leads = l.0 w.0 in
            (leads, (plan, plan_there set query q leads, w.1)),
        λ w. let same = plan-once set query w.1.0 plan w.1.1 (plan_there set query q w.0) in
            (reason_5 set query q plan).1
            (l.1 w.0, subst (λ p. sequence_cost set p < sequence_cost set q) same w.1.2),
      )

  -- as cheap as the plan, and later
  abbrev Later : Type 0
  Later =
      LeadsToGoal set query q
      × ((p : Sequence) × ThePlan set query p × (sequence_cost set p ≡ sequence_cost set q) × Before p q)

  later_iff : Finished set query q → (why ≡ 6) ↔ Later
  unfolding sequence_cost
  later_iff h = (to, from)
    where
      to : why ≡ 6 → Later
      to e =
          let w = (reason_6 set query q plan).0 e in
          let leads = (leads_iff set query q plan h.0.1).0 w.0.0 in
          let best = plan_there set query q leads in
          let order = ⊎_elim {C = (sequence_cost set plan ≡ sequence_cost set q) × Before plan q}
          (λ s. absurd (w.1 s)) (⊎_elim (λ d. absurd (omega (arith, w.0.1))) (λ d. d)) (best.best q leads) in
          (leads, (plan, best, order.0, order.1))

      from : Later → why ≡ 6
      from w =
          let same = plan-once set query w.1.0 plan w.1.1 (plan_there set query q w.0) in
          let equal = subst (λ p. sequence_cost set p ≡ sequence_cost set q) same w.1.2 in
          let before = subst (λ p. Before p q) same w.1.3 in
          (reason_6 set query q plan).1 (
            ((leads_iff set query q plan h.0.1).1 w.0, omega arith),
            λ e. before_irrefl q (subst (λ p. Before p q) (sym e) before),
          )

  plan_iff : Finished set query q → (why ≡ 7) ↔ ThePlan set query q
  plan_iff h =
      let l = leads_iff set query q plan h.0.1 in (
        λ e. let w = (reason_7 set query q plan).0 e in
            subst (ThePlan set query) (sym w.1) (plan_there set query q (l.0 w.0.0)),
        λ t. let same = plan-once set query q plan t (plan_there set query q t.leads) in
            let equal = subst (λ p. sequence_cost set q ≤ sequence_cost set p) same (omega arith) in
            (reason_7 set query q plan).1 ((l.1 t.leads, equal), same),
      )

  is-plan : (answer.reason ≡ 7) ↔ (Finished set query q × ThePlan set query q)
  is-plan = beside (reason_told 7 (λ e. omega arith)) plan_iff

  -- it is the plan exactly if the search shows it
  the-plan : (room : ℕ) → query.max_moves ≤ room
      → (answer.reason ≡ 7)
      ↔ (((searched set query room).answer.outcome ≡ 0) × (part_of (searched set query room) ≡ q))
  unfolding shown_plan
  the-plan room fits = (to, from)
    where
      to : answer.reason ≡ 7
          → ((searched set query room).answer.outcome ≡ 0) × (part_of (searched set query room) ≡ q)
      to e =
          let w = is-plan.0 e in
          let passed = w.0.0.0 in
          let solved = (search_meaning set query room).solved.1
          ((((passed.0, fits), passed.1), w.0.1), (q, w.1.leads)) in
          let shown = part-shown set query room ∙ ap (shown_plan set query) solved in
          (solved, shown ∙ plan-once set query plan q (plan_there set query q w.1.leads) w.1)

      from : ((searched set query room).answer.outcome ≡ 0) × (part_of (searched set query room) ≡ q)
          → answer.reason ≡ 7
      from w =
          let meaning = search_meaning set query room in
          let handed = (part_meaning set query room (searched set query room) meaning).cheapest_handed w.0 in
          let within = (meaning.solved.0 w.0).0 in
          let leads = subst (LeadsToGoal set query) w.1 handed.0 in
          let best = subst
          (λ p. (r : Sequence) → LeadsToGoal set query r → (r ≡ p) ⊎ Preferred (rule_cost set) p r) w.1 handed.1
          in
          is-plan.1 (
            (((within.0.0.0, within.0.1), leads.runs_within.rules), within.1),
            record { leads = leads; best = best },
          )

  -- ── What a reason names ────────────────────────────────────────────────────────────────────────

  place_of_lem : Finished set query q → answer.place ≡ place_of set query q why
  unfolding explained_with
  place_of_lem h = ap (λ a. a.place) (answer_told h)

  -- with the reason k
  place_at : (k : ℕ) → Finished set query q × (why ≡ k) → answer.place ≡ place_of set query q k
  place_at k w = place_of_lem w.0 ∙ ap (place_of set query q) w.1

  failing : answer.reason ≡ 2 → FailsAt set query q answer.place
  unfolding place_of
  failing e =
      let w = (reason_told 2 (λ z. omega arith)).0 e in
      let there = (failing_none set query q).1 ((reason_2 set query q plan).0 w.1).1 in
      subst (FailsAt set query q) (sym (place_at 2 w)) (failing_at set query q there)

  passing : answer.reason ≡ 3 → PassesAt set query q answer.place
  unfolding place_of
  passing e =
      let w = (reason_told 3 (λ z. omega arith)).0 e in
      let above = ((reason_3 set query q plan).0 w.1).1 in
      let there : costly_move set query.max_cost q ≢ 0 = λ z. omega (arith, above, (costly_iff set query q).0 z) in
      subst (PassesAt set query q) (sym (place_at 3 w)) (costly_at set query q there)

  wrong : answer.reason ≡ 4 → (t : State) × RunsTo set query q t × WrongAt query.goal t answer.place
  unfolding place_of end_position
  wrong e =
      let w = (reason_told 4 (λ z. omega arith)).0 e in
      let v = (reason_4 set query q plan).0 w.1 in
      let run = v.0.0.1 in
      let end = state_of (run_in set q (start_state query)) in
      let there : end_position set query q ≢ 0 = λ z. v.1 ((position_iff query.goal end).0 z) in
      let at = subst (λ s. WrongAt query.goal s (end_position set query q)) (ap state_of run.1)
      (wrong_at query.goal end there) in
      (run.0, run.1, subst (WrongAt query.goal run.0) (sym (place_at 4 w)) at)

  no_place : answer.reason ≢ 2 → answer.reason ≢ 3 → answer.reason ≢ 4 → answer.place ≡ 0
  unfolding place_of
  no_place a b c =
      ⊎_elim
      (λ h. place_of_lem h ∙ rw (
        ne_eqb why 2 (λ e. a (why_of h ∙ e)),
        ne_eqb why 3 (λ e. b (why_of h ∙ e)),
        ne_eqb why 4 (λ e. c (why_of h ∙ e)),
      ))
      (λ e. ap (λ x. x.place) (answer-bare e))
      forms

  costs : answer.reason ≡ 5
      → (answer.cost ≡ sequence_cost set q)
      × ((p : Sequence) × ThePlan set query p × (answer.plan_cost ≡ sequence_cost set p))
  unfolding explained_with
  costs e =
      let w = (reason_told 5 (λ z. omega arith)).0 e in
      let told = answer_told w.0 in
      let five = eq-eqb why 5 w.1 in
      let leads = ((dearer_iff w.0).0 w.1).0 in (
        ap (λ a. a.cost) told ∙ rw five refl,
        (
          plan,
          plan_there set query q leads,
          ap (λ a. a.plan_cost) told ∙ rw five refl,
        ),
      )

  no-costs : answer.reason ≢ 5 → (answer.cost ≡ 0) × (answer.plan_cost ≡ 0)
  unfolding explained_with
  no-costs n =
      ⊎_elim
      (λ h. let other = ne_eqb why 5 (λ e. n (why_of h ∙ e)) in (
        ap (λ a. a.cost) (answer_told h) ∙ rw other refl,
        ap (λ a. a.plan_cost) (answer_told h) ∙ rw other refl,
      ))
      (λ e. (ap (λ a. a.cost) (answer-bare e), ap (λ a. a.plan_cost) (answer-bare e)))
      forms

  -- ── The marked segment ─────────────────────────────────────────────────────────────────────────

  end_of : Finished set query q → answer.segment_end ≡ marked_end set query q
  unfolding explained_with
  end_of h = ap (λ a. a.segment_end) (answer_told h)

  length_of : Finished set query q → answer.segment_length ≡ marked_length set query q
  unfolding explained_with
  length_of h = ap (λ a. a.segment_length) (answer_told h)

  marks_iff : (b : Sequence) → (marks set query b ≡ true) ↔ Marked set query.reach query.table b
  marks_iff b = marked_iff set query.reach query.table b

  -- a segment is told only beside a reason
  told-segment : answer.segment_end ≢ 0 → Finished set query q × (marked_end set query q ≢ 0)
  told-segment n =
      ⊎_elim (λ h. (h, λ z. n (end_of h ∙ z))) (λ e. absurd (n (ap (λ a. a.segment_end) (answer-bare e)))) forms

  segment : (answer.segment_end ≢ 0) ↔ (Finished set query q × (Unpruned set query q → ⊥))
  segment =
      let i = no-end_iff (marks set query) q in (
        λ n. let w = told-segment n in
            (w.0, λ u. w.1 (i.1 (λ x b y e h m. u x b y e h ((marks_iff b).0 m)))),
        λ w z. w.1 (λ x b y e h m. i.0 (sym (end_of w.0) ∙ z) x b y e h ((marks_iff b).1 m)),
      )

  no-segment : answer.segment_end ≡ 0
      → (answer.segment_length ≡ 0) × (answer.witness_length ≡ 0) × (answer.witness ≡ padded 3 0 [])
  unfolding explained_with segment_witness soonest_length shortest_at
  no-segment z =
      ⊎_elim
      (λ h. let none = sym (end_of h) ∙ z in
      let empty : segment_witness set query q ≡ [] = rw (eq-eqb (marked_end set query q) 0 none) in (
        length_of h ∙ ap (λ e. first_that (λ n. marks set query (segment_of q e n)) (numbers_from 1 e)) none,
        ap (λ a. a.witness_length) (answer_told h) ∙ ap length empty,
        ap (λ a. a.witness) (answer_told h) ∙ ap (padded 3 0) empty,
      ))
      (λ e. (
        ap (λ a. a.segment_length) (answer-bare e),
        ap (λ a. a.witness_length) (answer-bare e),
        ap (λ a. a.witness) (answer-bare e),
      ))
      forms

  soonest_told : (x b y : Sequence) → q ≡ x ++ b ++ y → (b ≡ [] → ⊥)
      → Marked set query.reach query.table b
      → (answer.segment_end ≤ length (x ++ b))
      × (answer.segment_end ≡ length (x ++ b) → answer.segment_length ≤ length b)
  soonest_told x b y e there m =
      ⊎_elim
      (λ z. (omega (arith, z), λ _. omega (arith, (no-segment z).0)))
      (λ n. let w = told-segment n in
      let s = soonest (marks set query) q w.1 x b y e there ((marks_iff b).1 m) in
      let first = s.0 in
      (omega (arith, end_of w.0), λ k. omega (arith, length_of w.0, s.1 (sym (end_of w.0) ∙ k))))
      (equal? answer.segment_end 0)

  found : answer.segment_end ≢ 0 → MarkedSegment set query q answer
  unfolding explained_with segment_witness
  found n =
      let w = told-segment n in
      let h = w.0 in
      let e = marked_end set query q in
      let m = marked_length set query q in
      let b = segment_of q e m in
      let limits = end_limits (marks set query) q w.1 in
      let size = segment-length q e m limits.3 limits.1 in
      let front = front_length q e m limits.3 limits.1 in
      let accepts = h.0.0.1 in
      let mark = (marks_iff b).0 (segment_passes (marks set query) q w.1) in
      let shown : segment_witness set query q ≡ witness_of set query b = rw (ne_eqb e 0 w.1) in
      record {
        before = take (e - m) q;
        segment = b;
        behind = drop e q;
        splits = segment-splits q e m limits.3;
        end = end_of h ∙ (omega (arith, length-append (take (e - m) q) b, size, front, limits.3));
        moves = length_of h ∙ sym size;
        index = mark.0;
        in_table = mark.1;
        at_index = mark.2.0;
        mark = mark.2.1;
        witness = witness_of set query b;
        named = witness-named set query b accepts mark;
        earlier = witness-earlier set query b accepts mark;
        redundant_with = witness-redundant set query b accepts mark;
        witness_length = ap (λ a. a.witness_length) (answer_told h) ∙ ap length shown;
        witness_rules = ap (λ a. a.witness) (answer_told h) ∙ ap (padded 3 0) shown;
        witness_short = omega (arith, witness-short set query b accepts mark, h.0.0.0.0.0.0.1.0.1);
      }

  -- the plan is not pruned
  plan_unmarked_lem : answer.reason ≡ 7 → answer.segment_end ≡ 0
  plan_unmarked_lem e =
      let w = is-plan.0 e in
      ⊎_elim (λ z. z) (λ n. absurd ((segment.0 n).1 (plan_unpruned set query w.0.0.0 q w.1)))
      (equal? answer.segment_end 0)

  -- ── All together ───────────────────────────────────────────────────────────────────────────────

  pub explanation_meaning : ExplanationMeaning set query q (explained set query q)
  explanation_meaning =
      record {
        not_valid = by_number 7 (outcome_7 set query q);
        bad_reach = by_number 5 (outcome_5 set query q);
        bad_length = by_number 6 (outcome_6 set query q);
        bad_start = by_number 9 (outcome_9 set query q);
        bad_goal = by_number 10 (outcome_10 set query q);
        many_moves = by_number 11 (outcome_11 set query q);
        not_accepted = by_number 14 (outcome_14 set query q);
        unknown_move = by_number 13 (outcome_13 set query q);
        plan_at_limit = by_number 18 (outcome_18 set query q);
        none_at_limit = by_number 16 (outcome_16 set query q);
        unsolvable = by_number 15 (outcome_15 set query q);
        solved = by_number 0 (outcome_0 set query q);
        no_buffer = λ e. never_12 set query q (sym number_of ∙ e);
        as_searched = λ room fits h.
            number_of ∙ as-searched set query q room fits (λ e. h (number_of ∙ e));
        alone = alone;
        reasoned = reasoned;
        over_moves = beside (reason_told 1 (λ e. omega arith)) (λ h. reason_1 set query q plan);
        cannot_run = beside (reason_told 2 (λ e. omega arith)) (λ h. reason_2 set query q plan);
        over_cost = beside (reason_told 3 (λ e. omega arith)) (λ h.
            let i = reason_3 set query q plan in
            (λ e. let w = i.0 e in (w.0.0, w.0.1, w.1), λ w. i.1 ((w.0, w.1), w.2)));
        off_goal = beside (reason_told 4 (λ e. omega arith)) (λ h.
            Iff.trans (reason_4 set query q plan) (off_iff set query q plan h.0.1));
        dearer = beside (reason_told 5 (λ e. omega arith)) dearer_iff;
        later = beside (reason_told 6 (λ e. omega arith)) later_iff;
        is_the_plan = is-plan;
        search_shows = the-plan;
        failing = failing;
        passing = passing;
        wrong = wrong;
        no_place = no_place;
        costs = costs;
        no_costs = no-costs;
        segment = segment;
        found = found;
        soonest = soonest_told;
        no_segment = no-segment;
        plan_unmarked = plan_unmarked_lem;
      }
