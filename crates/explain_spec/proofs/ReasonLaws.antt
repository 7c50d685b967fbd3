-- Laws of the first move that fails, the first that passes the cost bound and the lowest wrong position: 0 exactly if
-- there is none, and else the first.
-- Assumes nothing.
use mathlib.Core.Path.{◌≡◌, refl, sym, ap, subst, ◌∙◌}
use mathlib.Core.Logic.{◌↔◌, ◌≢◌, ⊎_elim}
use mathlib.Core.Bool.{Bool, true, false, not, true≢false, false≢true}
use mathlib.Core.Option.{Option, some, none}
use mathlib.Core.List.{List}
use Prim.Native.Nat.{ℕ, zero, suc, ◌+◌, ◌-◌, ◌≤◌, ◌<◌}
use native.Mathlib.Omega.{arith}
use lib.Dec.{ltb}
use lib.ListN.{length, get_or, take, drop, take-append-drop}
use lib.Seq.{take-length}
use borrow.Author.Tests.{ltb-true, ltb-false, le-ltb, not-false}
use Rattle.theory_spec.specs.Lists.{is_some, numbers_from, first_that}
use Rattle.theory_spec.specs.Sequences.{Sequence}
use Rattle.theory_spec.proofs.ListLaws.{of-is_some, never_true, not-both}
use Rattle.theory_spec.proofs.TestLaws.{equal?, eqb_iff, not_iff, and_iff, NonePasses, FirstPasses}
use Rattle.theory_spec.proofs.TestLaws.{first_none_iff, first_that_iff}
use Rattle.theory_spec.proofs.SequenceLaws.{run_split, cost-append}
use Rattle.model_spec.specs.States.{State}
use Rattle.model_spec.specs.Rules.{step_of, rule_cost, run_in, sequence_cost}
use Rattle.model_spec.specs.declared.RuleSet.{RuleSet}
use Rattle.search_spec.specs.Query.{Query, any_value, start_state, MeetsGoal}
use Rattle.explain_spec.specs.Reasons.{failing_move, costly_move, is_wrong, wrong_position}
use Rattle.explain_spec.specs.Meaning.{FailsAt, PassesAt, WrongAt}

-- a run that does not end in a state
unrun : (o : Option State) → not (is_some o) ≡ true → o ≡ none
unrun none h = refl
unrun (some s) h = absurd (false≢true h)

-- the first move that is told is one of the sequence's
module _ (test : ℕ → Bool) (n : ℕ) where
  first_told : first_that test (numbers_from 1 n) ≢ 0 → FirstPasses test 1 n (first_that test (numbers_from 1 n))
  first_told h = (first_that_iff test 1 n (first_that test (numbers_from 1 n)) (omega arith)).0 (refl, h)

module _ (set : RuleSet) (query : Query) (q : Sequence) where
  abbrev stuck : ℕ → Bool
  stuck k = not (is_some (run_in set (take k q) (start_state query)))

  abbrev above : ℕ → Bool
  above k = ltb query.max_cost (sequence_cost set (take k q))

  -- ── Running ────────────────────────────────────────────────────────────────────────────────────

  -- up to a move that is not stuck the sequence can be run
  front-runs : (k : ℕ) → NonePasses stuck 1 k → (t : State) × (run_in set (take k q) (start_state query) ≡ some t)
  unfolding run_in
  front-runs zero f = (start_state query, refl)
  front-runs (suc k) f =
      of-is_some (run_in set (take (suc k) q) (start_state query))
      (not-false _ (f (suc k) (omega arith) (omega arith)))

  -- a sequence that can be run can be run up to any move
  front_of-run : (t : State) → run_in set q (start_state query) ≡ some t → (k : ℕ) → stuck k ≡ false
  unfolding run_in
  front_of-run t e k =
      let w = run_split (step_of set) (take k q) (drop k q) (start_state query) t
      (ap (λ p. run_in set p (start_state query)) (take-append-drop k q) ∙ e) in
      ap (λ o. not (is_some o)) w.1

  -- no move fails exactly if the sequence can be run
  pub failing_iff : (failing_move set (start_state query) q ≡ 0)
      ↔ ((t : State) × (run_in set q (start_state query) ≡ some t))
  unfolding failing_move
  failing_iff =
      let i = first_none_iff stuck 1 (length q) (omega arith) in (
        λ e. let w = front-runs (length q) (i.0 e) in
            (w.0, ap (λ p. run_in set p (start_state query)) (sym (take-length q)) ∙ w.1),
        λ w. i.1 (λ j _ _. front_of-run w.0 w.1 j),
      )

  pub failing_none : (failing_move set (start_state query) q ≢ 0) ↔ (run_in set q (start_state query) ≡ none)
  failing_none = (
    λ h. go (run_in set q (start_state query)) refl h,
    λ e z. let w = failing_iff.0 z in apart (sym w.1 ∙ e),
  )
    where
      go : (o : Option State) → run_in set q (start_state query) ≡ o → failing_move set (start_state query) q ≢ 0 → o ≡ none
      go none e h = refl
      go (some t) e h = absurd (h (failing_iff.1 (t, e)))

      apart : {t : State} → some t ≡ none → ⊥
      apart e = true≢false (ap is_some e)

  -- the move that fails is the first
  pub failing_at : failing_move set (start_state query) q ≢ 0 → FailsAt set query q (failing_move set (start_state query) q)
  unfolding failing_move
  failing_at h =
      let w = first_told stuck (length q) h in
      let low = w.0 in
      let high = w.1 in
      let k = first_that stuck (numbers_from 1 (length q)) in
      let r = front-runs (k - 1) (λ j a b. w.3 j a (omega arith)) in
      record {
        inside = (w.0, omega arith);
        stuck = unrun (run_in set (take k q) (start_state query)) w.2;
        before = r.0;
        runs = r.1;
      }

  -- ── Cost ───────────────────────────────────────────────────────────────────────────────────────

  -- a part of the sequence costs no more than the whole
  front_cost : (k : ℕ) → sequence_cost set (take k q) ≤ sequence_cost set q
  unfolding sequence_cost
  front_cost k =
      omega (arith, cost-append (rule_cost set) (take k q) (drop k q), ap (sequence_cost set) (take-append-drop k q))

  within_front : (k : ℕ) → NonePasses above 1 k → sequence_cost set (take k q) ≤ query.max_cost
  unfolding sequence_cost
  within_front zero f = omega arith
  within_front (suc k) f =
      ltb-false query.max_cost (sequence_cost set (take (suc k) q)) (f (suc k) (omega arith) (omega arith))

  -- no move passes the cost bound exactly if the sequence does not
  pub costly_iff : (costly_move set query.max_cost q ≡ 0) ↔ (sequence_cost set q ≤ query.max_cost)
  unfolding costly_move
  costly_iff =
      let i = first_none_iff above 1 (length q) (omega arith) in (
        λ e. subst (λ p. sequence_cost set p ≤ query.max_cost) (take-length q) (within_front (length q) (i.0 e)),
        λ h. i.1 (λ j _ _. le-ltb query.max_cost (sequence_cost set (take j q)) (omega (arith, front_cost j))),
      )

  -- the move that does is the first
  pub costly_at : costly_move set query.max_cost q ≢ 0 → PassesAt set query q (costly_move set query.max_cost q)
  unfolding costly_move
  costly_at h =
      let w = first_told above (length q) h in
      let low = w.0 in
      let high = w.1 in
      let k = first_that above (numbers_from 1 (length q)) in
      record {
        inside = (w.0, omega arith);
        above = ltb-true query.max_cost (sequence_cost set (take k q)) w.2;
        below = within_front (k - 1) (λ j a b. w.3 j a (omega arith));
      }

-- ── Positions ────────────────────────────────────────────────────────────────────────────────────

module _ (goal : List ℕ) (s : State) where
  wrong_iff : (i : ℕ)
      → (is_wrong goal s i ≡ true)
      ↔ ((get_or goal (i - 1) 0 ≡ any_value → ⊥) × (get_or s (i - 1) 0 ≡ get_or goal (i - 1) 0 → ⊥))
  unfolding is_wrong
  wrong_iff i =
      and_iff _ _ (not_iff _ (eqb_iff (get_or goal (i - 1) 0) any_value))
      (not_iff _ (eqb_iff (get_or s (i - 1) 0) (get_or goal (i - 1) 0)))

  right_at : (i : ℕ) → is_wrong goal s i ≡ false → (get_or goal (i - 1) 0 ≡ any_value → ⊥)
      → get_or s (i - 1) 0 ≡ get_or goal (i - 1) 0
  right_at i e h =
      ⊎_elim (λ d. d) (λ d. not-both ((wrong_iff i).1 (h, d)) e) (equal? (get_or s (i - 1) 0) (get_or goal (i - 1) 0))

  -- below a position none of which is wrong
  right-below : (n : ℕ) → NonePasses (is_wrong goal s) 1 n → (j : ℕ) → j < n → (get_or goal j 0 ≡ any_value → ⊥)
      → get_or s j 0 ≡ get_or goal j 0
  right-below n f j h a =
      let e : j + 1 - 1 ≡ j = omega arith in
      subst (λ k. get_or s k 0 ≡ get_or goal k 0) e
      (right_at (j + 1) (f (j + 1) (omega arith) (omega arith)) (subst (λ k. get_or goal k 0 ≡ any_value → ⊥) (sym e) a))

  -- no position is wrong exactly if the goal is met
  pub position_iff : (wrong_position goal s ≡ 0) ↔ MeetsGoal goal s
  unfolding wrong_position
  position_iff =
      let i = first_none_iff (is_wrong goal s) 1 (length goal) (omega arith) in (
        λ e. right-below (length goal) (i.0 e),
        λ m. i.1 (λ j a b. never_true (is_wrong goal s j) (λ t.
            let w = (wrong_iff j).0 t in w.1 (m (j - 1) (omega arith) w.0))),
      )

  -- the position that is told is the lowest
  pub wrong_at : wrong_position goal s ≢ 0 → WrongAt goal s (wrong_position goal s)
  unfolding wrong_position
  wrong_at h =
      let w = first_told (is_wrong goal s) (length goal) h in
      let low = w.0 in
      let high = w.1 in
      let i = first_that (is_wrong goal s) (numbers_from 1 (length goal)) in
      let v = (wrong_iff i).0 w.2 in
      record {
        inside = (w.0, omega arith);
        asks = v.0;
        differs = v.1;
        lower = right-below (i - 1) (λ j a b. w.3 j a (omega arith));
      }
