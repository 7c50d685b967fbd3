-- The writer's outcome: 7 exactly if the set is not valid, 8 exactly if it is and the buffer is shorter than its file,
-- and 0 else.
-- Assumes nothing.
use mathlib.Core.Path.{◌≡◌, refl, sym, ◌∙◌}
use mathlib.Core.Logic.{◌↔◌}
use mathlib.Core.Bool.{Bool, true, false, not, false≢true}
use mathlib.Core.List.{[], ◌∷◌}
use Prim.Native.Nat.{ℕ, ◌≤◌, ◌<◌}
use native.Mathlib.Omega.{arith}
use lib.Dec.{ltb}
use lib.ListN.{length}
use borrow.Author.Tests.{ltb-true, ltb-false}
use Rattle.model_spec.specs.Refusals.{first_refusal}
use Rattle.model_spec.specs.Validity.{valid, Valid}
use Rattle.model_spec.specs.declared.RuleSet.{RuleSet}
use Rattle.model_spec.proofs.ValidityLaws.{valid_iff}
use Rattle.files_spec.specs.File.{render}
use Rattle.files_spec.specs.Writing.{write_causes, written}

module _ (set : RuleSet) (room : ℕ) where
  -- a set is written exactly if it is valid and its file fits the buffer
  pub writes_iff : ((written set room).outcome ≡ 0) ↔ (Valid set × (length (render set) ≤ room))
  unfolding written write_causes
  writes_iff = go (valid set) refl (ltb room (length (render set))) refl
    where
      go : (v : Bool) → valid set ≡ v → (s : Bool) → ltb room (length (render set)) ≡ s
          → (first_refusal ((7, not v) ∷ (8, s) ∷ []) ≡ 0) ↔ (Valid set × (length (render set) ≤ room))
      go true e true k = (λ z. absurd (omega arith), λ w. absurd (omega (arith, ltb-true room (length (render set)) k)))
      go true e false k = (λ z. ((valid_iff set).0 e, ltb-false room (length (render set)) k), λ w. refl)
      go false e s k = (λ z. absurd (omega arith), λ w. absurd (false≢true (sym e ∙ (valid_iff set).1 w.0)))

  -- it is refused by 7 exactly if it is not valid
  pub invalid_iff : ((written set room).outcome ≡ 7) ↔ (Valid set → ⊥)
  unfolding written write_causes
  invalid_iff = go (valid set) refl (ltb room (length (render set)))
    where
      go : (v : Bool) → valid set ≡ v → (s : Bool) → (first_refusal ((7, not v) ∷ (8, s) ∷ []) ≡ 7) ↔ (Valid set → ⊥)
      go true e true = (λ z. absurd (omega arith), λ n. absurd (n ((valid_iff set).0 e)))
      go true e false = (λ z. absurd (omega arith), λ n. absurd (n ((valid_iff set).0 e)))
      go false e s = (λ z v. false≢true (sym e ∙ (valid_iff set).1 v), λ n. refl)

  -- and by 8 exactly if it is valid and the buffer is shorter than its file
  pub short_iff : ((written set room).outcome ≡ 8) ↔ (Valid set × (room < length (render set)))
  unfolding written write_causes
  short_iff = go (valid set) refl (ltb room (length (render set))) refl
    where
      go : (v : Bool) → valid set ≡ v → (s : Bool) → ltb room (length (render set)) ≡ s
          → (first_refusal ((7, not v) ∷ (8, s) ∷ []) ≡ 8) ↔ (Valid set × (room < length (render set)))
      go true e true k = (λ z. ((valid_iff set).0 e, ltb-true room (length (render set)) k), λ w. refl)
      go true e false k =
          (λ z. absurd (omega arith), λ w. absurd (omega (arith, ltb-false room (length (render set)) k)))
      go false e s k = (λ z. absurd (omega arith), λ w. absurd (false≢true (sym e ∙ (valid_iff set).1 w.0)))
