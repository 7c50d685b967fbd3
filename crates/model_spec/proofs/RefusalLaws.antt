-- The first refusal: a number is the answer exactly if its cause holds and no cause before it does, and 0 exactly if no
-- cause holds.
-- Assumes nothing.
use mathlib.Core.Path.{◌≡◌, refl, sym, ap, ◌∙◌}
use mathlib.Core.Logic.{◌↔◌, ◌≢◌}
use mathlib.Core.Bool.{true, false, true≢false}
use mathlib.Core.List.{List, [], ◌∷◌, ◌++◌}
use Prim.Native.Nat.{ℕ, ◌≤◌, zero-le}
use Rattle.model_spec.specs.Refusals.{Cause, first_refusal, NoneHolds, First, NonZero}

to-first : (causes : List Cause) (n : ℕ) → n ≢ 0 → first_refusal causes ≡ n → First n causes
to-first [] n h e = absurd (h (sym e))
to-first ((m, true) ∷ causes) n h e = ([], causes, ap {B = List Cause} (λ k. (k, true) ∷ causes) e, tt)
to-first ((m, false) ∷ causes) n h e =
    let w = to-first causes n h e in
    ((m, false) ∷ w.0, w.1, ap {B = List Cause} (λ l. (m, false) ∷ l) w.2, (refl, w.3))

past : (before after : List Cause) (n : ℕ) → NoneHolds before → first_refusal (before ++ ((n, true) ∷ after)) ≡ n
past [] after n h = refl
past ((m, true) ∷ before) after n h = absurd (true≢false h.0)
past ((m, false) ∷ before) after n h = past before after n h.1

-- a number is given exactly if its cause holds and none before it does
pub refusal_iff : (causes : List Cause) (n : ℕ) → n ≢ 0 → (first_refusal causes ≡ n) ↔ First n causes
refusal_iff causes n h = (to-first causes n h, λ w. ap first_refusal w.2 ∙ past w.0 w.1 n w.3)

-- 0 is given exactly if no cause holds
pub no_refusal_iff : (causes : List Cause) → NonZero causes → (first_refusal causes ≡ 0) ↔ NoneHolds causes
no_refusal_iff [] z = (λ _. tt, λ _. refl)
no_refusal_iff ((n, true) ∷ causes) z = (λ e. absurd (z.0 e), λ h. absurd (true≢false h.0))
no_refusal_iff ((n, false) ∷ causes) z = let w = no_refusal_iff causes z.1 in (λ e. (refl, w.0 e), λ h. w.1 h.1)

-- causes of which none holds, before others
pub refusal-append : (before after : List Cause) → NonZero before → first_refusal before ≡ 0
    → first_refusal (before ++ after) ≡ first_refusal after
refusal-append [] after z e = refl
refusal-append ((n, true) ∷ before) after z e = absurd (z.0 e)
refusal-append ((n, false) ∷ before) after z e = refusal-append before after z.1 e

-- causes of which one holds, before others
pub refusal-before : (before after : List Cause) → first_refusal before ≢ 0
    → first_refusal (before ++ after) ≡ first_refusal before
refusal-before [] after h = absurd (h refl)
refusal-before ((n, true) ∷ before) after h = refl
refusal-before ((n, false) ∷ before) after h = refusal-before before after h

-- a cause that does not hold may be left out
pub refusal_skip : (before after : List Cause) (n : ℕ)
    → first_refusal (before ++ ((n, false) ∷ after)) ≡ first_refusal (before ++ after)
refusal_skip [] after n = refl
refusal_skip ((m, true) ∷ before) after n = refl
refusal_skip ((m, false) ∷ before) after n = refusal_skip before after n

-- no cause has a number above n
abbrev pub AtMost : ℕ → List Cause → Type 0
AtMost n [] = Unit {0}
AtMost n ((k, b) ∷ causes) = (k ≤ n) × AtMost n causes

pub refusal_at_most : (n : ℕ) (causes : List Cause) → AtMost n causes → first_refusal causes ≤ n
refusal_at_most n [] h = zero-le
refusal_at_most n ((k, true) ∷ causes) h = h.0
refusal_at_most n ((k, false) ∷ causes) h = refusal_at_most n causes h.1
