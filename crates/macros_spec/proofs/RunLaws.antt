-- The first rule of a run: where it runs, and where the rest goes on.
-- Assumes nothing.
use mathlib.Core.Path.{◌≡◌, refl, sym, ap, ◌∙◌}
use mathlib.Core.Logic.{◌↔◌}
use mathlib.Core.Option.{Option, some, none, none-ne-some}
use mathlib.Core.List.{◌∷◌}
use Prim.Native.Nat.{ℕ}
use Rattle.theory_spec.specs.Sequences.{Sequence, and_then}
use Rattle.model_spec.specs.States.{State, values_of, successor}
use Rattle.model_spec.specs.Rules.{rule_at, step_of, run_in}
use Rattle.model_spec.specs.declared.RuleSet.{RuleSet}
use Rattle.model_spec.proofs.StateLaws.{applicable_iff}
use Rattle.model_spec.proofs.ValidityLaws.{step_iff}

-- the first rule's condition is met, and the rest runs from where its effect leads
pub run-first_iff : (set : RuleSet) (r : ℕ) (q : Sequence) (s t : State)
    → (run_in set (r ∷ q) s ≡ some t) ↔ ((values_of (rule_at set r).condition s ≡ s)
    × (run_in set q (values_of (rule_at set r).effect s) ≡ some t))
unfolding run_in successor
run-first_iff set r q s t = (
  down (step_of set r s) refl,
  λ w. ap (λ (o : Option State). and_then o (run_in set q))
      ((step_iff set r s (values_of (rule_at set r).effect s)).1
      ((applicable_iff (rule_at set r).condition s).1 w.0, refl)) ∙ w.1,
)
  where
    down : (o : Option State) → step_of set r s ≡ o → and_then o (run_in set q) ≡ some t
        → (values_of (rule_at set r).condition s ≡ s) × (run_in set q (values_of (rule_at set r).effect s) ≡ some t)
    down none p h = absurd (none-ne-some t h)
    down (some u) p h =
        let w = (step_iff set r s u).0 p in (
          (applicable_iff (rule_at set r).condition s).0 w.0,
          ap (run_in set q) (sym w.1) ∙ h,
        )
