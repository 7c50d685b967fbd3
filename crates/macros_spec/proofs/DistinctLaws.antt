-- States tell entries apart, for a variable stands only where there are two values or more: vectors that stand for the
-- same in every state that meets a condition
-- in canonical form are equal.
-- And some state meets such a condition.
-- Assumes nothing.
use mathlib.Core.Path.{◌≡◌, refl, sym, ap, ◌∙◌}
use mathlib.Core.Logic.{⊎_elim}
use mathlib.Core.List.{List, [], ◌∷◌}
use Prim.Native.Nat.{ℕ, zero, suc, ◌-◌, ◌%◌, ◌≤◌, ◌<◌}
use native.Mathlib.Omega.{arith}
use lib.ListN.{length, get_or}
use lib.Seq.{ext_get_or}
use Rattle.theory_spec.proofs.TestLaws.{below?, equal?}
use Rattle.model_spec.specs.States.{State, value_of, values_of, width, IsState}
use Rattle.model_spec.proofs.StateLaws.{value-constant, values_at, values_length}
use Rattle.macros_spec.proofs.VectorLaws.{value-place, value_at, value_values, values_values}
use Rattle.macros_spec.proofs.CanonicalForm.{Fits, Canonical}

-- ── Values to read a vector in: 0, but for a 1 at one place ──────────────────────────────────────

one_at : ℕ → List ℕ
one_at zero = 1 ∷ []
one_at (suc k) = 0 ∷ one_at k

one_at_lem : (k : ℕ) → get_or (one_at k) k 0 ≡ 1
unfolding one_at
one_at_lem zero = refl
one_at_lem (suc k) = one_at_lem k

zero_elsewhere : (k j : ℕ) → (j ≡ k → ⊥) → get_or (one_at k) j 0 ≡ 0
unfolding one_at
zero_elsewhere zero zero h = absurd (h refl)
zero_elsewhere zero (suc j) h = refl
zero_elsewhere (suc k) zero h = refl
zero_elsewhere (suc k) (suc j) h = zero_elsewhere k j (λ e. h (ap suc e))

-- nothing above 1: a value wherever a variable may stand
abbrev Small : List ℕ → Type 0
Small t = (j : ℕ) → get_or t j 0 ≤ 1

none_small : Small []
none_small j = omega arith

one_small : (k : ℕ) → Small (one_at k)
one_small k j =
    ⊎_elim (λ (e : j ≡ k). rw e (omega (arith, one_at_lem k))) (λ d. omega (arith, zero_elsewhere k j d)) (equal? j k)

-- ── States that meet a condition in canonical form ───────────────────────────────────────────────

module _ (positions : ℕ) (sizes condition effect : List ℕ) (form : Canonical positions sizes condition effect) where
  -- the condition read in small values is a state that meets the condition
  meets : (t : List ℕ) → values_of condition (values_of condition t) ≡ values_of condition t
  meets t = sym (values_values condition condition t) ∙ ap (λ (l : List ℕ). values_of l t) form.keeps_itself

  is_state : (t : List ℕ) → Small t → IsState positions sizes (values_of condition t)
  is_state t small = (
    values_length condition t ∙ form.condition_length,
    λ i h. rw (values_at condition t i) (below i (get_or condition i 0) (form.condition_fits i)),
  )
    where
      below : (i e : ℕ) → Fits positions sizes (width positions sizes i) e → value_of e t < width positions sizes i
      below i e f =
          ⊎_elim (λ c. omega (arith, value-constant e t c, f.constant c))
          (λ c. omega (arith, value-place e t c, small (e % 16), f.several c)) (below? e 16)

  -- so some state meets the condition
  pub condition_met : (s : State) × IsState positions sizes s × (values_of condition s ≡ s)
  condition_met = (values_of condition [], is_state [] none_small, meets [])

  -- ── Entries and vectors that are read in the condition as they are ─────────────────────────────

  -- an entry that is read in the condition as it is
  abbrev Kept : ℕ → Type 0
  Kept e = value_of e condition ≡ e

  -- a variable among them stands for the value at its own place
  own-place : (e : ℕ) → Kept e → 16 ≤ e → e % 16 ≡ e - 16
  own-place e k h = omega (arith, value-place e condition h, form.not_later (e % 16))

  -- two entries stand for the same in every state that meets the condition
  abbrev Alike : ℕ → ℕ → Type 0
  Alike x y = (s : State) → IsState positions sizes s → values_of condition s ≡ s → value_of x s ≡ value_of y s

  -- so they do in small values
  alike_small : (x y : ℕ) → Kept x → Kept y → Alike x y → (t : List ℕ) → Small t → value_of x t ≡ value_of y t
  alike_small x y kx ky h t small =
      sym (reads x kx) ∙ h (values_of condition t) (is_state t small) (meets t) ∙ reads y ky
    where
      reads : (e : ℕ) → Kept e → value_of e (values_of condition t) ≡ value_of e t
      reads e k = value_values e condition t ∙ ap (λ z. value_of z t) k

  -- a variable is no other entry
  variable_apart : (x y : ℕ) → Kept x → Kept y → 16 ≤ x → (x ≡ y → ⊥) → Alike x y → ⊥
  variable_apart x y kx ky hx d h =
      let t = one_at (x - 16) in
      let zeros = alike_small x y kx ky h [] none_small in
      let ones = alike_small x y kx ky h t (one_small (x - 16)) in
      let px = own-place x kx hx in
      let one : value_of x t ≡ 1 = value-place x t hx ∙ ap (λ i. get_or t i 0) px ∙ one_at_lem (x - 16) in
      ⊎_elim (λ c. omega (arith, value-place x [] hx, value-constant y [] c, value-constant y t c))
      (λ c. let py = own-place y ky c in omega (
        arith,
        value-place y t c,
        zero_elsewhere (x - 16) (y % 16) (λ e. d (omega arith)),
      ))
      (below? y 16)

  pub entries_equal : (x y : ℕ) → Kept x → Kept y → Alike x y → x ≡ y
  entries_equal x y kx ky h =
      ⊎_elim (λ e. e)
      (λ d.
      ⊎_elim (λ cx. ⊎_elim (λ cy. omega (
        arith,
        alike_small x y kx ky h [] none_small,
        value-constant x [] cx,
        value-constant y [] cy,
      ))
      (λ cy. absurd (variable_apart y x ky kx cy (λ e. d (sym e)) (λ s v m. sym (h s v m)))) (below? y 16))
      (λ cx. absurd (variable_apart x y kx ky cx d h)) (below? x 16))
      (equal? x y)

  pub vectors_equal : (v w : List ℕ) → length v ≡ length w → values_of v condition ≡ v → values_of w condition ≡ w
      → ((s : State) → IsState positions sizes s → values_of condition s ≡ s → values_of v s ≡ values_of w s) → v ≡ w
  vectors_equal v w n kv kw h =
      ext_get_or 0 v w n (λ i _. entries_equal (get_or v i 0) (get_or w i 0) (kept v kv i) (kept w kw i) (alike i))
    where
      kept : (l : List ℕ) → values_of l condition ≡ l → (i : ℕ) → Kept (get_or l i 0)
      kept l k i = value_at l condition l i k

      alike : (i : ℕ) → Alike (get_or v i 0) (get_or w i 0)
      alike i s d m = value_at v s (values_of w s) i (h s d m) ∙ values_at w s i

  -- p, read in v, is w where in every such state it leads from v to w
  pub values_equal : (p v w : List ℕ) → length p ≡ length w → values_of v condition ≡ v → values_of w condition ≡ w
      → ((s : State) → IsState positions sizes s → values_of condition s ≡ s → values_of p (values_of v s) ≡ values_of w s)
      → values_of p v ≡ w
  values_equal p v w n kv kw h =
      vectors_equal (values_of p v) w (values_length p v ∙ n) (values_values p v condition ∙ ap (values_of p) kv) kw
      (λ s d m. values_values p v s ∙ h s d m)
