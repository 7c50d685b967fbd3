-- Laws of two rules with the same lines (document 02, request 2026-02: the same shunt, other cost), over all sets.
-- Assumes nothing.
use mathlib.Core.Path.{◌≡◌, refl, ap, ap₂, sym, ◌∙◌, subst, subst₂}
use mathlib.Core.Logic.{◌↔◌, inl, inr, ◌≢◌}
use mathlib.Core.Option.{Option}
use mathlib.Core.List.{List, [], ◌∷◌}
use Prim.Native.Nat.{ℕ, ◌≤◌, ◌<◌}
use native.Mathlib.Omega.{arith}
use Rattle.theory_spec.specs.Lists.{only_if}
use Rattle.theory_spec.specs.Sequences.{and_then, run}
use Rattle.theory_spec.proofs.IndexLaws.{index_one, index_at}
use Rattle.model_spec.specs.States.{State, applicable, successor}
use Rattle.model_spec.specs.Rules.{rule_at, step_of, rule_cost, RedundantIn}
use Rattle.model_spec.specs.Validity.{SameLines}
use Rattle.model_spec.specs.declared.RuleSet.{RuleSet}
use Rattle.tables_spec.specs.Table.{table_entries, sequence_at, entry_at, built_entry, built_table, Prunable}
use Rattle.tables_spec.specs.Table.{MarkJustified, Accepted}
use Rattle.tables_spec.specs.Answers.{ReachLimits}
use Rattle.tables_spec.specs.SameLines.{SameLinesLater, SameLinesMarks}
use Rattle.tables_spec.proofs.CountLaws.{count-sequences}
use Rattle.tables_spec.proofs.TableLaws.{marked_iff, built-entry, built-least, built-mark_iff, built-marks_iff}

-- the sequence of one rule has the rule's number as its index
pub rule-index : (set : RuleSet) (reach r : ℕ) → 1 ≤ reach → 1 ≤ r → r ≤ set.count → (r < table_entries set reach)
    × (sequence_at set reach r ≡ r ∷ [])
unfolding table_entries sequence_at
rule-index set reach r n h k =
    let w = index_at set.count reach (r ∷ []) n (h, k, tt) in (
      omega (arith, w.0, count-sequences set.count reach),
      ap (sequence_at set reach) (sym (index_one set.count r)) ∙ w.1,
    )

-- two rules with the same lines run in the same states and lead to the same ones
same_step : (set : RuleSet) (a b : ℕ) → SameLines (rule_at set a) (rule_at set b) → (s : State)
    → step_of set a s ≡ step_of set b s
unfolding step_of
same_step set a b lines s = ap₂ (λ c e. only_if (applicable c s) (successor e s)) lines.0 lines.1

-- so the one is redundant with the other exactly if it costs no less
pub same-lines_iff : (set : RuleSet) (a b : ℕ) → SameLines (rule_at set a) (rule_at set b)
    → RedundantIn set (b ∷ []) (a ∷ []) ↔ (rule_cost set a ≤ rule_cost set b)
same-lines_iff set a b lines = (
  λ r. omega (arith, r.0),
  λ h. (
    omega arith,
    λ s t v e. ap (λ (next : Option State). and_then next (run (step_of set) [])) (same_step set a b lines s) ∙ e,
  ),
)

-- at every reach from 1 on the later one is prunable if it costs no less
pub later-prunable : (set : RuleSet) (reach a b : ℕ) → 1 ≤ reach → SameLinesLater set a b
    → rule_cost set a ≤ rule_cost set b → Prunable set reach (b ∷ [])
later-prunable set reach a b n w h =
    record {
      rules = (omega (arith, w.0, w.1), w.2, tt);
      not_empty = omega arith;
      short = n;
      witness = a ∷ [];
      earlier = inr (refl, inl w.1);
      witness_short = n;
      witness_rules = (w.0, omega (arith, w.1, w.2), tt);
      redundant_with = (same-lines_iff set a b w.3).1 h;
    }

module _ (set : RuleSet) (reach : ℕ) (rules : set.count ≤ 31) (near : ReachLimits reach) where
  module _ (a b : ℕ) (w : SameLinesLater set a b) where
    at_a : (a < table_entries set reach) × (sequence_at set reach a ≡ a ∷ [])
    at_a = rule-index set reach a near.0 w.0 (omega (arith, w.1, w.2))

    at_b : (b < table_entries set reach) × (sequence_at set reach b ≡ b ∷ [])
    at_b = rule-index set reach b near.0 (omega (arith, w.0, w.1)) w.2

    -- redundancy at the two indices
    by_cost_lem : RedundantIn set (sequence_at set reach b) (sequence_at set reach a) ↔ (rule_cost set a ≤ rule_cost set b)
    by_cost_lem =
        let iff = same-lines_iff set a b w.3 in (
          λ r. iff.0 (subst₂ (RedundantIn set) at_b.1 at_a.1 r),
          λ h. subst₂ (RedundantIn set) (sym at_b.1) (sym at_a.1) (iff.1 h),
        )

    -- the built entry is the earlier one's index, or a smaller one
    not_after : rule_cost set a ≤ rule_cost set b → built_entry set reach b ≤ a
    not_after h =
        let p = subst (Prunable set reach) (sym at_b.1) (later-prunable set reach a b near.0 w h) in
        let m = (built-mark_iff set reach rules near.1 b at_b.0).1 p in
        (built-least set reach b at_b.0 m).1.1 a (by_cost_lem.1 h)

    justified_iff : (table : List ℕ) → entry_at table b ≡ a
        → MarkJustified set reach table b ↔ (rule_cost set a ≤ rule_cost set b)
    justified_iff table e = (
      λ j. by_cost_lem.0 (subst (redundant_at b) e j.1),
      λ h. (omega (arith, w.1), subst (redundant_at b) (sym e) (by_cost_lem.1 h)),
    )
      where
        redundant_at : ℕ → ℕ → Type 0
        redundant_at i j = RedundantIn set (sequence_at set reach i) (sequence_at set reach j)

    -- an accepted table's marks are justified, and name smaller indices
    neither : rule_cost set b < rule_cost set a → (table : List ℕ) → Accepted set reach table
        → (entry_at table b ≢ a) × (entry_at table a ≢ b)
    neither h table v = (
      λ e. omega (arith, (justified_iff table e).0 (v.1 b at_b.0 (omega (arith, w.1, w.2)))),
      λ e. omega (arith, w.1, (v.1 a at_a.0 (omega (arith, w.2))).0),
    )

  -- what tables make of two rules with the same lines
  pub same-lines-marks : SameLinesMarks set reach
  same-lines-marks =
      record {
        index = λ r h k. (rule-index set reach r near.0 h k).1;
        prunable = λ a b w h. later-prunable set reach a b near.0 w h;
        marked =
            λ a b w h. (marked_iff set reach (built_table set reach) (b ∷ [])).0
            ((built-marks_iff set reach rules near.1 (b ∷ [])).1 (later-prunable set reach a b near.0 w h));
        witness = λ a b w h. omega (arith, built-entry set reach b (at_b a b w).0, not_after a b w h);
        justified = justified_iff;
        cheaper_later = λ a b w h. neither a b w h;
      }
