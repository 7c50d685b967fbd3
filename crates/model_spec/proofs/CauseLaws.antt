-- The first refusal of a list of causes with different numbers, told by statements: a number is the outcome exactly if
-- what is judged before it holds and what it refuses does not.
-- Assumes nothing.
use mathlib.Core.Path.{◌≡◌, refl, sym}
use mathlib.Core.Logic.Iff
use mathlib.Core.Logic.{◌↔◌, ◌≢◌}
use mathlib.Core.Bool.{Bool, true, false, ◌||◌, true≢false, false≢true}
use mathlib.Core.List.{List, [], ◌∷◌, ◌++◌}
use Prim.Native.Nat.{ℕ, ◌<◌}
use native.Mathlib.Omega.{arith}
use lib.Dec.{eqb}
use borrow.Author.Tests.{eq-eqb, ne_eqb}
use Rattle.theory_spec.specs.Lists.{any}
use Rattle.theory_spec.proofs.ListLaws.{not-both, never_true, or_left, or_right}
use Rattle.model_spec.specs.Refusals.{Cause, first_refusal, NoneHolds}
use Rattle.model_spec.proofs.RefusalLaws.{AtMost}

-- no cause of the list has the number k
abbrev pub Apart : ℕ → List Cause → Type 0
Apart k causes = any (λ (cause : Cause). eqb cause.0 k) causes ≡ false

apart-rest : (a b : Bool) → (a || b) ≡ false → b ≡ false
apart-rest a b h = never_true b (λ e. not-both (or_right a e) h)

-- so it is where each has a smaller one
pub larger_apart : (n k : ℕ) (causes : List Cause) → AtMost n causes → n < k → Apart k causes
larger_apart n k [] h l = refl
larger_apart n k ((m, b) ∷ causes) h l =
    let low = h.0 in rw (ne_eqb m k (λ e. omega arith)) (larger_apart n k causes h.1 l)

-- then k is not the outcome
pub other-number : (causes : List Cause) (k : ℕ) → k ≢ 0 → Apart k causes → first_refusal causes ≢ k
other-number [] k h a e = h (sym e)
other-number ((n, true) ∷ causes) k h a e =
    not-both (or_left (any (λ (cause : Cause). eqb cause.0 k) causes) (eq-eqb n k e)) a
other-number ((n, false) ∷ causes) k h a e =
    other-number causes k h (apart-rest (eqb n k) (any (λ (cause : Cause). eqb cause.0 k) causes) a) e

-- a number that no later cause has is the outcome exactly if it is the earlier causes' outcome
pub early_iff : (before after : List Cause) (k : ℕ) → k ≢ 0 → Apart k after → (first_refusal (before ++ after) ≡ k)
    ↔ (first_refusal before ≡ k)
early_iff [] after k h a = (λ e. absurd (other-number after k h a e), λ e. absurd (h (sym e)))
early_iff ((n, true) ∷ before) after k h a = Iff.rfl
early_iff ((n, false) ∷ before) after k h a = early_iff before after k h a

-- a cause's number is the outcome exactly if no cause before it holds, and it does
at_iff : (before after : List Cause) (k : ℕ) (b : Bool) → k ≢ 0 → Apart k before → Apart k after
    → (first_refusal (before ++ ((k, b) ∷ after)) ≡ k) ↔ (NoneHolds before × (b ≡ true))
at_iff [] after k true h _ _ = (λ _. (tt, refl), λ _. refl)
at_iff [] after k false h _ a = (λ e. absurd (other-number after k h a e), λ w. absurd (false≢true w.1))
at_iff ((n, true) ∷ before) after k b h d _ = (
  λ e. not-both (or_left (any (λ (cause : Cause). eqb cause.0 k) before) (eq-eqb n k e)) d,
  λ w. absurd (true≢false w.0.0),
)
at_iff ((n, false) ∷ before) after k b h d a =
    let i = at_iff before after k b h (apart-rest (eqb n k) (any (λ (cause : Cause). eqb cause.0 k) before) d) a in
    (λ e. let w = i.0 e in ((refl, w.0), w.1), λ w. i.1 (w.0.1, w.1))

-- no cause holds, and one more does not
none_more : (before : List Cause) (k : ℕ) (b : Bool) → NoneHolds (before ++ ((k, b) ∷ []))
    ↔ (NoneHolds before × (b ≡ false))
none_more [] k b = (λ w. (tt, w.0), λ w. (w.1, tt))
none_more ((n, a) ∷ before) k b =
    let i = none_more before k b in (
      λ w. let v = i.0 w.1 in
          ((w.0, v.0), v.1),
      λ w. (w.0.0, i.1 (w.0.1, w.1)),
    )

-- what holds if none of the causes up to a cause holds, and that cause's statement
module _ (before : List Cause) (k : ℕ) (b : Bool) {P Q : Type 0} (earlier : NoneHolds before ↔ P) where
  pub passed_iff : (b ≡ false) ↔ Q → NoneHolds (before ++ ((k, b) ∷ [])) ↔ (P × Q)
  passed_iff i =
      let m = none_more before k b in
      (λ h. let w = m.0 h in (earlier.0 w.0, i.0 w.1), λ w. m.1 (earlier.1 w.0, i.1 w.1))

  pub refused_iff : (after : List Cause) → k ≢ 0 → Apart k before → Apart k after → (b ≡ true) ↔ Q
      → (first_refusal (before ++ ((k, b) ∷ after)) ≡ k) ↔ (P × Q)
  refused_iff after h d a i =
      let m = at_iff before after k b h d a in
      (λ e. let w = m.0 e in (earlier.0 w.0, i.0 w.1), λ w. m.1 (earlier.1 w.0, i.1 w.1))
