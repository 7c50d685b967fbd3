-- Turns of the loops over a proposal's moves and a goal's positions: one more.
-- Assumes nothing.
use mathlib.Core.Path.{◌≡◌, refl, sym, ap, ◌∙◌}
use mathlib.Core.Bool.{Bool, true, false, not}
use mathlib.Core.Option.{Option, some, none}
use mathlib.Core.List.{[], ◌∷◌, ◌++◌}
use Prim.Native.Nat.{ℕ, zero, suc, ◌+◌, ◌-◌, ◌≤◌, ◌<◌, min}
use native.Mathlib.Omega.{arith}
use lib.ListN.{length, get_or, take}
use lib.Seq.{take-suc, take_all}
use Rattle.theory_spec.specs.Lists.{is_some, only_if, numbers_from, first_that}
use Rattle.theory_spec.specs.Sequences.{Sequence, Numbered, and_then, run}
use Rattle.theory_spec.proofs.SequenceLaws.{run-append, cost-append}
use Rattle.theory_spec.proofs.TestLaws.{first_none_iff}
use Rattle.model_spec.specs.States.{State, applicable, successor}
use Rattle.model_spec.specs.Rules.{rule_at, step_of, rule_cost, run_in, sequence_cost}
use Rattle.model_spec.specs.declared.Rule.{Rule}
use Rattle.model_spec.specs.declared.RuleSet.{RuleSet}
use Rattle.model_spec.proofs.LoopLaws.{first_go, first_stop, first-end}
use Rattle.explain_laws.specs.How.Proposals.{held_moves}

-- ── The first number from 1 to n that passes ─────────────────────────────────────────────────────

-- what the numbers from k on decide
pub first_from : (ℕ → Bool) → ℕ → ℕ → ℕ
first_from test n k = first_that test (numbers_from k (n + 1 - k))

module _ (test : ℕ → Bool) (n : ℕ) where
  pub from-start : first_from test n 1 ≡ first_that test (numbers_from 1 n)
  unfolding first_from
  from-start = let e : n + 1 - 1 ≡ n = omega arith in ap (λ m. first_that test (numbers_from 1 m)) e

  module _ (k X : ℕ) (inv : first_from test n k ≡ X) where
    pub from_go : k ≤ n → test k ≡ false → first_from test n (k + 1) ≡ X
    unfolding first_from
    from_go h e = first_go test k (n + 1) X inv (omega arith) e

    pub from_stop : k ≤ n → test k ≡ true → k ≡ X
    unfolding first_from
    from_stop h e = first_stop test k (n + 1) X inv (omega arith) e

    pub from-end : n < k → 0 ≡ X
    unfolding first_from
    from-end h = first-end test k (n + 1) X inv (omega arith)

    -- none of those from k on passes
    pub from_none : 1 ≤ k → ((j : ℕ) → k ≤ j → j ≤ n → test j ≡ false) → 0 ≡ X
    unfolding first_from
    from_none one f =
        let none = (first_none_iff test k (n + 1 - k) one).1 (λ j a b. f j a (omega arith)) in sym none ∙ inv

-- ── One move more ────────────────────────────────────────────────────────────────────────────────

module _ (set : RuleSet) (q : Sequence) (i : ℕ) (high : i < length q) where
  front_more : take (i + 1) q ≡ take i q ++ (get_or q i 0 ∷ [])
  front_more = let e : i + 1 ≡ suc i = omega arith in ap (λ n. take n q) e ∙ take-suc q i 0 high

  -- it costs its rule's cost more
  pub cost_more : sequence_cost set (take (i + 1) q) ≡ sequence_cost set (take i q) + (rule_at set (get_or q i 0)).cost
  unfolding sequence_cost rule_cost
  cost_more =
      ap (sequence_cost set) front_more ∙ cost-append (rule_cost set) (take i q) (get_or q i 0 ∷ []) ∙ (omega arith)

  module _ (rule : Rule) (is : rule ≡ rule_at set (get_or q i 0)) (start state : State)
      (runs : run_in set (take i q) start ≡ some state) where
    -- it is run by its rule in the state before it
    run_more : run_in set (take (i + 1) q) start
        ≡ only_if (applicable rule.condition state) (successor rule.effect state)
    unfolding run_in step_of
    run_more =
        ap (λ p. run_in set p start) front_more
        ∙ run-append (step_of set) (take i q) (get_or q i 0 ∷ []) start
        ∙ ap (λ o. and_then o (run (step_of set) (get_or q i 0 ∷ []))) runs
        ∙ whole (step_of set (get_or q i 0) state)
        ∙ ap (λ r. only_if (applicable r.condition state) (successor r.effect state)) (sym is)
      where
        whole : (o : Option State) → and_then o (run (step_of set) []) ≡ o
        whole none = refl
        whole (some s) = refl

    pub run_goes : applicable rule.condition state ≡ true
        → run_in set (take (i + 1) q) start ≡ some (successor rule.effect state)
    run_goes h = run_more ∙ ap (λ b. only_if b (successor rule.effect state)) h

    pub run_stops : applicable rule.condition state ≡ false
        → not (is_some (run_in set (take (i + 1) q) start)) ≡ true
    run_stops h = ap (λ o. not (is_some o)) (run_more ∙ ap (λ b. only_if b (successor rule.effect state)) h)

-- behind the last move stands the whole sequence
pub whole_run : (set : RuleSet) (q : Sequence) (i : ℕ) (start state : State) → length q ≤ i
    → run_in set (take i q) start ≡ some state → run_in set q start ≡ some state
whole_run set q i start state h e = ap (λ p. run_in set p start) (sym (take_all i q h)) ∙ e

-- ── Moves held to 31 ─────────────────────────────────────────────────────────────────────────────

pub held-length : (q : Sequence) → length (held_moves q) ≡ length q
held-length [] = refl
held-length (n ∷ q) = ap suc (held-length q)

pub held_at : (q : Sequence) (i : ℕ) → get_or (held_moves q) i 0 ≡ min (get_or q i 0) 31
held_at [] i = refl
held_at (n ∷ q) zero = refl
held_at (n ∷ q) (suc i) = held_at q i

pub known-moves : (q : Sequence) → Numbered 31 q → held_moves q ≡ q
known-moves [] h = refl
known-moves (n ∷ q) h = let e : min n 31 ≡ n = omega (arith, h.1) in rw (e, known-moves q h.2) refl
