-- Two entries made equal throughout a macro's vectors: canonical form is kept, and of the states that met the condition
-- just those are left in which the two are equal.
-- Assumes nothing.
use mathlib.Core.Path.{◌≡◌, refl, sym, ap, ◌∙◌, subst}
use mathlib.Core.Logic.{◌↔◌, ◌⊎◌, inl, inr, ⊎_elim}
use mathlib.Core.Bool.{true, false}
use mathlib.Core.Option.{some}
use mathlib.Core.List.{List}
use Prim.Native.Nat.{ℕ, ◌≤◌, ◌<◌, min, max}
use native.Mathlib.Omega.{arith}
use lib.ListN.{get_or}
use Rattle.theory_spec.proofs.ListLaws.{not-both}
use Rattle.theory_spec.proofs.TestLaws.{below?, equal?, ltb_iff, eqb_iff, not_iff, and_iff}
use Rattle.model_spec.specs.States.{State, value_of, values_of, width}
use Rattle.macros_spec.specs.Composition.{Lines, replaced, clash, equated}
use Rattle.macros_spec.proofs.CanonicalForm.{Fits, Fitting, Canonical}
use Rattle.macros_spec.proofs.VectorLaws.{value_values, exchanged, exchanged_from, exchanged-other, exchanged_to}
use Rattle.macros_spec.proofs.VectorLaws.{exchanged_less}
use Rattle.macros_spec.proofs.VectorLaws.{values-replaced, replaced-length, replaced_at, value_in-replaced}
use Rattle.macros_spec.proofs.VectorLaws.{values_in-replaced, replaced-itself}
use Rattle.macros_spec.proofs.Descriptions.{Leads, Describes, describes_as}

-- ── A variable replaced ──────────────────────────────────────────────────────────────────────────

-- the vectors lead from s to t, and two entries are equal in s
abbrev LeadsEqual : Lines → ℕ → ℕ → State → State → Type 0
LeadsEqual m x y s t = Leads (some m) s t × (value_of x s ≡ value_of y s)

-- an entry that may stand at a place of n values, and is read in the condition as it is
abbrev Placeable : ℕ → List ℕ → List ℕ → ℕ → ℕ → Type 0
Placeable positions sizes condition n e = (value_of e condition ≡ e) × Fits positions sizes n e

abbrev replaced_lines : ℕ → ℕ → Lines → Lines
replaced_lines from to m = record { condition = replaced from to m.condition; effect = replaced from to m.effect }

-- the larger of two entries, a variable, is replaced by the smaller
module _ (positions : ℕ) (sizes : List ℕ) (m : Lines) (c : Canonical positions sizes m.condition m.effect)
    (n from to : ℕ) (variable : 16 ≤ from) (less : to ≤ from) where
  fits_replaced : Fits positions sizes n from → Fits positions sizes n to → (v : List ℕ) → Fitting positions sizes v
      → Fitting positions sizes (replaced from to v)
  fits_replaced f t v h i =
      rw (replaced_at from to v i variable)
      (⊎_elim
      (λ q.
      let e : exchanged from to (get_or v i 0) ≡ to = ap (exchanged from to) q ∙ exchanged_from from to in
      let k = subst (Fits positions sizes (width positions sizes i)) q (h i) in
      rw (e, ← k.equal_sizes variable, f.equal_sizes variable) t)
      (λ q. rw (exchanged-other from to (get_or v i 0) q) (h i)) (equal? (get_or v i 0) from))

  module _ (f : Placeable positions sizes m.condition n from)
      (t : Placeable positions sizes m.condition n to) where
    -- in the new condition both stand for the smaller
    from-replaced : value_of from (replaced from to m.condition) ≡ to
    from-replaced =
        value_in-replaced from to m.condition from variable ∙ ap (exchanged from to) f.0 ∙ exchanged_from from to

    to-replaced : value_of to (replaced from to m.condition) ≡ to
    to-replaced =
        value_in-replaced from to m.condition to variable ∙ ap (exchanged from to) t.0 ∙ exchanged_to from to

    keeps-replaced : (v : List ℕ) → values_of v m.condition ≡ v
        → values_of (replaced from to v) (replaced from to m.condition) ≡ replaced from to v
    keeps-replaced v h =
        values-replaced from to v (replaced from to m.condition) (from-replaced ∙ sym to-replaced)
        ∙ values_in-replaced from to v m.condition variable ∙ ap (replaced from to) h

    -- a state that meets the new condition does not tell the two apart
    equal_where_met : (s : State) → values_of (replaced from to m.condition) s ≡ s → value_of from s ≡ value_of to s
    equal_where_met s h =
        ap (value_of from) (sym h) ∙ value_values from (replaced from to m.condition) s
        ∙ ap (λ e. value_of e s) from-replaced

    variable-replaced : Describes positions sizes (LeadsEqual m from to) (some (replaced_lines from to m))
    variable-replaced = record {
      form = record {
        condition_length = replaced-length from to m.condition ∙ c.condition_length;
        effect_length = replaced-length from to m.effect ∙ c.effect_length;
        keeps_itself = keeps-replaced m.condition c.keeps_itself;
        not_later =
            λ i. omega (
              arith,
              replaced_at from to m.condition i variable,
              exchanged_less from to (get_or m.condition i 0) less,
              c.not_later i,
            );
        keeps_effect = keeps-replaced m.effect c.keeps_effect;
        condition_fits = fits_replaced f.1 t.1 m.condition c.condition_fits;
        effect_fits = fits_replaced f.1 t.1 m.effect c.effect_fits;
      };
      leads = λ s u. (
        λ h. let e =
            equal_where_met s h.0 in (
              (
                sym (values-replaced from to m.condition s e)
                    ∙ h.0,
                sym (values-replaced from to m.effect s e) ∙ h.1,
              ),
              e,
            ),
        λ h. (
          values-replaced from to m.condition s h.1 ∙ h.0.0,
          values-replaced from to m.effect s h.1
              ∙ h.0.1,
        ),
      );
    }

-- ── Two entries made equal ───────────────────────────────────────────────────────────────────────

pub clash_iff : (x y : ℕ) → (clash x y ≡ true) ↔ ((x < 16) × ((y < 16) × (x ≡ y → ⊥)))
unfolding clash
clash_iff x y = and_iff _ _ (ltb_iff x 16) (and_iff _ _ (ltb_iff y 16) (not_iff _ (eqb_iff x y)))

-- without a clash the two are equal, or the larger is a variable
no-clash : (x y : ℕ) → clash x y ≡ false → (x ≡ y) ⊎ (16 ≤ max x y)
no-clash x y h =
    ⊎_elim inl (λ ne. inr (⊎_elim (λ k. not-both ((clash_iff x y).1 (omega arith, (omega arith, ne))) h) (λ k. k)
    (below? (max x y) 16))) (equal? x y)

abbrev pub equated_lines : ℕ → ℕ → Lines → Lines
equated_lines x y m = record { condition = equated x y m.condition; effect = equated x y m.effect }

-- an entry made equal to itself
pub equated-same : (x : ℕ) (v : List ℕ) → equated x x v ≡ v
unfolding equated
equated-same x v =
    let most : max x x ≡ x = omega arith in
    let least : min x x ≡ x = omega arith in
    rw (most, least) (replaced-itself x v)

module _ (positions : ℕ) (sizes : List ℕ) (m : Lines) (c : Canonical positions sizes m.condition m.effect)
    (n x y : ℕ) where
  already_equal : x ≡ y → Describes positions sizes (LeadsEqual m x y) (some (equated_lines x y m))
  already_equal e =
      rw (e, equated-same y m.condition, equated-same y m.effect)
      (record { form = c; leads = λ s t. (λ h. (h, refl), λ h. h.0) })

  larger-replaced : 16 ≤ max x y → Placeable positions sizes m.condition n x
      → Placeable positions sizes m.condition n y
      → Describes positions sizes (LeadsEqual m x y) (some (equated_lines x y m))
  unfolding equated
  larger-replaced variable kx ky =
      ⊎_elim
      (λ l.
      let a : max x y ≡ x = omega arith in
      let b : min x y ≡ y = omega arith in
      rw (a, b) (variable-replaced positions sizes m c n x y (rw a at variable) (omega arith) kx ky))
      (λ l.
      let a : max x y ≡ y = omega arith in
      let b : min x y ≡ x = omega arith in
      rw (a, b) (describes_as (variable-replaced positions sizes m c n y x (rw a at variable) l ky kx)
      (λ s t. (λ w. (w.0, sym w.1), λ w. (w.0, sym w.1)))))
      (below? y x)

  pub equated_describes : clash x y ≡ false → Placeable positions sizes m.condition n x
      → Placeable positions sizes m.condition n y
      → Describes positions sizes (LeadsEqual m x y) (some (equated_lines x y m))
  equated_describes h kx ky = ⊎_elim already_equal (λ variable. larger-replaced variable kx ky) (no-clash x y h)
