-- The first reason as the code comes to it: one after the other, and what each names.
-- Assumes nothing.
use mathlib.Core.Path.{◌≡◌, refl, sym, ap, ◌∙◌}
use mathlib.Core.Logic.{◌≢◌, ⊎_elim}
use mathlib.Core.Bool.{Bool, true, false, not, cond}
use mathlib.Core.Option.{some}
use mathlib.Core.List.{[], ◌∷◌}
use Prim.Native.Nat.{ℕ, ◌≤◌, ◌<◌}
use native.Mathlib.Omega.{arith}
use lib.Dec.{ltb, eqb}
use lib.ListN.{length}
use borrow.Author.Tests.{lt-ltb, le-ltb, eq-eqb, ne_eqb}
use Rattle.theory_spec.specs.Lists.{same, numbers_from, first_that}
use Rattle.theory_spec.specs.Sequences.{Sequence}
use Rattle.theory_spec.proofs.TestLaws.{below?, first_that_lem}
use Rattle.model_spec.specs.States.{State}
use Rattle.model_spec.specs.Refusals.{first_refusal}
use Rattle.model_spec.specs.Rules.{run_in, sequence_cost}
use Rattle.model_spec.specs.declared.RuleSet.{RuleSet}
use Rattle.search_spec.specs.Query.{Query, start_state}
use Rattle.explain_spec.specs.Reasons.{failing_move, costly_move, wrong_position, state_of, end_position}
use Rattle.explain_spec.specs.Reasons.{reasons, place_of}
use Rattle.explain_laws.specs.How.Proposals.{Told, reason_with, reason_of, comparison_of}

-- ── Against the plan ─────────────────────────────────────────────────────────────────────────────

module _ (set : RuleSet) (q p : Sequence) where
  pub dearer_of : sequence_cost set p < sequence_cost set q → reason_with set q p 5 0 ≡ comparison_of set q p
  unfolding comparison_of
  dearer_of h = rw (lt-ltb (sequence_cost set p) (sequence_cost set q) h) refl

  module _ (cheap : sequence_cost set q ≤ sequence_cost set p) where
    pub later_of : same q p ≡ false → reason_with set q p 6 0 ≡ comparison_of set q p
    unfolding comparison_of
    later_of e = rw (le-ltb (sequence_cost set p) (sequence_cost set q) cheap, e) refl

    pub plan_of_lem : same q p ≡ true → reason_with set q p 7 0 ≡ comparison_of set q p
    unfolding comparison_of
    plan_of_lem e = rw (le-ltb (sequence_cost set p) (sequence_cost set q) cheap, e) refl

-- ── All reasons ──────────────────────────────────────────────────────────────────────────────────

module _ (set : RuleSet) (query : Query) (q p : Sequence) where
  abbrev failing : ℕ
  failing = failing_move set (start_state query) q

  abbrev costly : ℕ
  costly = costly_move set query.max_cost q

  -- the last three reasons name no place
  placeless : (a b : Bool)
      → let number = first_refusal ((5, a) ∷ (6, b) ∷ (7, true) ∷ []) in
      reason_with set q p number 0 ≡ reason_with set q p number (place_of set query q number)
  unfolding place_of
  placeless true b = refl
  placeless false true = refl
  placeless false false = refl

  pub long_of : query.max_moves < length q → reason_with set q p 1 0 ≡ reason_of set query q p
  unfolding reason_of reasons place_of
  long_of h = rw (lt-ltb query.max_moves (length q) h) refl

  module _ (short : length q ≤ query.max_moves) where
    pub failing_of : failing ≢ 0 → reason_with set q p 2 failing ≡ reason_of set query q p
    unfolding reason_of reasons place_of
    failing_of h = rw (le-ltb query.max_moves (length q) short, ne_eqb failing 0 h) refl

    module _ (runs : failing ≡ 0) where
      pub costly_of : costly ≢ 0 → reason_with set q p 3 costly ≡ reason_of set query q p
      unfolding reason_of reasons place_of
      costly_of h = rw (le-ltb query.max_moves (length q) short, eq-eqb failing 0 runs, ne_eqb costly 0 h) refl

      module _ (cheap : costly ≡ 0) where
        -- the position that is told is that of the state in which the sequence ends
        pub end_of : (t : State) (place : ℕ) → run_in set q (start_state query) ≡ some t
            → place ≡ wrong_position query.goal t → place ≡ end_position set query q
        unfolding end_position
        end_of t place e told = told ∙ ap (λ o. wrong_position query.goal (state_of o)) (sym e)

        pub off_of : (place : ℕ) → place ≡ end_position set query q → place ≢ 0
            → reason_with set q p 4 place ≡ reason_of set query q p
        unfolding reason_of reasons place_of
        off_of place e h =
            rw (
              e,
              le-ltb query.max_moves (length q) short,
              eq-eqb failing 0 runs,
              eq-eqb costly 0 cheap,
              ne_eqb (end_position set query q) 0 (λ z. h (e ∙ z)),
            ) refl

        pub compared_of : end_position set query q ≡ 0 → comparison_of set q p ≡ reason_of set query q p
        unfolding reason_of reasons comparison_of
        compared_of z =
            rw (
              le-ltb query.max_moves (length q) short,
              eq-eqb failing 0 runs,
              eq-eqb costly 0 cheap,
              eq-eqb (end_position set query q) 0 z,
            ) (placeless (ltb (sequence_cost set p) (sequence_cost set q)) (not (same q p)))

-- ── A place fits a byte ──────────────────────────────────────────────────────────────────────────

first_limit : (test : ℕ → Bool) (n : ℕ) → first_that test (numbers_from 1 n) ≤ n
first_limit test n =
    ⊎_elim (λ w. omega (arith, w.0)) (λ w. let high = w.1 in omega arith) (first_that_lem test 1 n)

module _ (set : RuleSet) (query : Query) (q p : Sequence) (few : query.max_moves ≤ 32)
    (fits : length query.goal ≤ 16) where
  move_limits : length q ≤ 32 → (failing_move set (start_state query) q ≤ 32) × (costly_move set query.max_cost q ≤ 32)
  unfolding failing_move costly_move
  move_limits h =
      let failing : failing_move set (start_state query) q ≤ length q = first_limit _ (length q) in
      let costly : costly_move set query.max_cost q ≤ length q = first_limit _ (length q) in
      (omega arith, omega arith)

  position_limit_lem : end_position set query q ≤ 32
  unfolding end_position wrong_position
  position_limit_lem =
      let inside : end_position set query q ≤ length query.goal = first_limit _ (length query.goal) in omega arith

  -- one of three numbers, or 0
  chosen : (a b c : Bool) (k l m : ℕ) → k ≤ 32 → l ≤ 32 → m ≤ 32 → cond a k (cond b l (cond c m 0)) ≤ 32
  chosen true b c k l m x y z = x
  chosen false true c k l m x y z = y
  chosen false false true k l m x y z = z
  chosen false false false k l m x y z = omega arith

  pub place_limit : (reason_of set query q p).place ≤ 32
  unfolding reason_of place_of
  place_limit =
      ⊎_elim
      (λ h. omega (arith, ap (λ (r : Told). r.place) (long_of set query q p h)))
      (λ h. let w = move_limits (omega arith) in
      let number = first_refusal (reasons set query q p) in
      chosen (eqb number 2) (eqb number 3) (eqb number 4) _ _ _ w.0 w.1 position_limit_lem)
      (below? query.max_moves (length q))
