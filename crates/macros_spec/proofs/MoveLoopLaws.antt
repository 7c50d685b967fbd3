-- The turns of loops over moves: what the moves that are left at i tell, by the first of them.
-- Assumes nothing.
use mathlib.Core.Path.{◌≡◌, sym, ◌∙◌}
use mathlib.Core.Bool.{Bool, true, false, not}
use mathlib.Core.List.{List, ◌∷◌}
use Prim.Native.Nat.{ℕ, ◌+◌, ◌≤◌, ◌<◌}
use native.Mathlib.Numerals.{add-one}
use lib.ListN.{length, get_or, drop, drop_of_length-le}
use lib.Seq.{drop-cons}
use Rattle.theory_spec.specs.Lists.{any, within, same}
use Rattle.theory_spec.specs.Sequences.{Sequence}
use Rattle.theory_spec.proofs.ListLaws.{never_true}
use Rattle.theory_spec.proofs.TestLaws.{within_iff}
use Rattle.model_spec.specs.States.{State, applicable, successor}
use Rattle.model_spec.specs.Rules.{rule_at, step_of, rule_cost, run_in, sequence_cost}
use Rattle.model_spec.specs.declared.Rule.{Rule}
use Rattle.model_spec.specs.declared.RuleSet.{RuleSet}
use Rattle.macros_spec.specs.Redundancy.{ends_in}

-- the first of the moves that are left
move_left : (moves : Sequence) (i : ℕ) → i < length moves → drop i moves ≡ get_or moves i 0 ∷ drop (i + 1) moves
move_left moves i h = rw (drop-cons moves i 0 h, add-one i)

-- ── Whether some move is no rule's number: the moves left decide the whole, X ────────────────────

module _ (count : ℕ) (moves : Sequence) (i : ℕ) (X : Bool)
    (inv : any (λ r. not (within 1 count r)) (drop i moves) ≡ X) where
  pub unknown_go : i < length moves → 1 ≤ get_or moves i 0 → get_or moves i 0 ≤ count
      → any (λ r. not (within 1 count r)) (drop (i + 1) moves) ≡ X
  unknown_go h low high = sym (rw (move_left moves i h, (within_iff 1 count (get_or moves i 0)).1 (low, high))) ∙ inv

  pub unknown-found : i < length moves → ((1 ≤ get_or moves i 0) × (get_or moves i 0 ≤ count) → ⊥) → true ≡ X
  unknown-found h outside =
      sym (rw (
        move_left moves i h,
        never_true (within 1 count (get_or moves i 0))
            (λ e. outside ((within_iff 1 count (get_or moves i 0)).0 e)),
      )) ∙ inv

  pub unknown_none : length moves ≤ i → false ≡ X
  unknown_none h = sym (rw (drop_of_length-le moves {i = i} h)) ∙ inv

-- ── What the moves left cost ─────────────────────────────────────────────────────────────────────

module _ (set : RuleSet) (moves : Sequence) (i : ℕ) where
  pub cost_go : (rule : Rule) → rule ≡ rule_at set (get_or moves i 0) → i < length moves
      → sequence_cost set (drop i moves) ≡ rule.cost + sequence_cost set (drop (i + 1) moves)
  unfolding sequence_cost rule_cost
  cost_go rule is h = rw (move_left moves i h, is)

  pub cost-end : length moves ≤ i → sequence_cost set (drop i moves) ≡ 0
  unfolding sequence_cost
  cost-end h = rw (drop_of_length-le moves {i = i} h)

-- ── Whether the moves left lead from a state to an effect: that decides the whole, X ─────────────

module _ (set : RuleSet) (moves : Sequence) (i : ℕ) (s : State) (effect : List ℕ) (X : Bool)
    (inv : ends_in (run_in set (drop i moves) s) effect ≡ X) where
  module _ (rule : Rule) (is : rule ≡ rule_at set (get_or moves i 0)) (h : i < length moves) where
    pub leads_go : applicable rule.condition s ≡ true → (next : State) → next ≡ successor rule.effect s
        → ends_in (run_in set (drop (i + 1) moves) next) effect ≡ X
    unfolding run_in step_of
    leads_go t next e = sym (rw (move_left moves i h, ← is, t, e)) ∙ inv

    pub leads_stop : applicable rule.condition s ≡ false → false ≡ X
    unfolding run_in step_of
    leads_stop t = sym (rw (move_left moves i h, ← is, t)) ∙ inv

  pub leads-end : length moves ≤ i → same s effect ≡ X
  unfolding run_in
  leads-end h = sym (rw (drop_of_length-le moves {i = i} h)) ∙ inv
