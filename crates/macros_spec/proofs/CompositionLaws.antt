-- The law of composition: a rule after a macro runs exactly where the macro's condition is met and the rule's condition
-- is met after its effect, and leads where the two lead.
-- Canonical form is kept, and there are no vectors only where no state is left.
-- Assumes nothing.
use mathlib.Core.Path.{◌≡◌, refl, sym, ap, ◌∙◌}
use mathlib.Core.Logic.{◌↔◌, ⊎_elim}
use mathlib.Core.Bool.{Bool, true, false, cond}
use mathlib.Core.Option.{Option, some, none}
use mathlib.Core.List.{List, [], ◌∷◌}
use Prim.Native.Nat.{ℕ, suc, ◌+◌, ◌-◌, ◌≤◌, ◌<◌}
use native.Mathlib.Omega.{arith}
use lib.ListN.{length, get_or, drop, drop_of_length-le}
use lib.Seq.{drop-cons}
use Rattle.theory_spec.proofs.TestLaws.{below?}
use Rattle.model_spec.specs.States.{State, value_of, values_of, width}
use Rattle.model_spec.specs.declared.Rule.{Rule}
use Rattle.model_spec.proofs.StateLaws.{value-constant, value-variable, values_at, values_length}
use Rattle.macros_spec.specs.Composition.{Lines, clash, unified, followed, extended}
use Rattle.macros_spec.proofs.CanonicalForm.{Fits, Fitting, Canonical}
use Rattle.macros_spec.proofs.VectorLaws.{value_at, value_values, values_values}
use Rattle.macros_spec.proofs.Descriptions.{Leads, Form, Describes, describes_as}
use Rattle.macros_spec.proofs.EquatedLaws.{clash_iff, equated_lines, equated_describes}

module _ (positions : ℕ) (sizes : List ℕ) (few : positions ≤ 16) where
  -- what fits, read in a vector that fits
  fits_value : (v : List ℕ) → Fitting positions sizes v → (n e : ℕ) → Fits positions sizes n e
      → Fits positions sizes n (value_of e v)
  fits_value v h n e f =
      ⊎_elim (λ q. rw (value-constant e v q) f)
      (λ q. let k = f.position q in rw (value-variable e v q (omega arith), ← f.equal_sizes q) (h (e - 16)))
      (below? e 16)

  -- ── The effect made equal to what is asked ─────────────────────────────────────────────────────

  -- the entries of what is asked fit from place i on
  abbrev FitsFrom : ℕ → List ℕ → Type 0
  FitsFrom i asked = (j k : ℕ) → k ≡ i + j → Fits positions sizes (width positions sizes k) (get_or asked j 0)

  -- from s to t, where t holds what is asked from place i on
  abbrev Agreed : List ℕ → ℕ → Lines → State → State → Type 0
  Agreed asked i m s t = Leads (some m) s t × (values_of asked t ≡ drop i t)

  module _ (e : ℕ) (asked : List ℕ) (i : ℕ) (m : Lines) (c : Canonical positions sizes m.condition m.effect)
      (inside : i < 16) where
    abbrev have : ℕ
    have = get_or m.effect i 0

    abbrev want : ℕ
    want = value_of e m.effect

    -- the first of what is asked stands at i exactly where the two entries are equal
    asked_iff : (s t : State) → Leads (some m) s t → (values_of (e ∷ asked) t ≡ drop i t)
        ↔ ((value_of have s ≡ value_of want s) × (values_of asked t ≡ drop (suc i) t))
    unfolding values_of
    asked_iff s t l =
        let first = drop-cons t i 0 (omega (arith, values_length m.effect s, ap length l.1, c.effect_length)) in
        let a : value_of have s ≡ get_or t i 0 = value_at m.effect s t i l.1 in
        let b : value_of want s ≡ value_of e t = sym (value_values e m.effect s) ∙ ap (value_of e) l.1 in
        (λ q. (cc, cc), λ q. cc)

    -- one place, and the rest
    unified-first : Fits positions sizes (width positions sizes i) e → (b : Bool) → clash have want ≡ b
        → (Form positions sizes (some (equated_lines have want m))
        → Describes positions sizes (Agreed asked (suc i) (equated_lines have want m))
        (unified asked (suc i) (equated_lines have want m)))
        → Describes positions sizes (Agreed (e ∷ asked) i m)
        (cond b none (unified asked (suc i) (equated_lines have want m)))
    unified-first f true h rest =
        let k = (clash_iff have want).0 h in
        record {
          form = tt;
          leads = λ s t. (
            λ w. absurd w,
            λ w. k.1.1 (sym (value-constant have s k.0) ∙ ((asked_iff s t w.0).0 w.1).0
                ∙ value-constant want s k.1.0),
          );
        }
    unified-first f false h rest =
        let d =
        equated_describes positions sizes m c (width positions sizes i) have want h
        (value_at m.effect m.condition m.effect i c.keeps_effect, c.effect_fits i) (
          sym (value_values e m.effect m.condition)
              ∙ ap (value_of e) c.keeps_effect,
          fits_value m.effect c.effect_fits (width positions sizes i) e f,
        ) in
        describes_as (rest d.form) (λ s t. (
          λ w. let l = (d.leads s t).0 w.0 in (l.0, (asked_iff s t l.0).1 (l.1, w.1)),
          λ w. let k = (asked_iff s t w.0).0 w.1 in ((d.leads s t).1 (w.0, k.0), k.1),
        ))

  unified_describes : (asked : List ℕ) (i : ℕ) (m : Lines) → Canonical positions sizes m.condition m.effect
      → FitsFrom i asked → length asked + i ≡ 16
      → Describes positions sizes (Agreed asked i m) (unified asked i m)
  unfolding unified values_of
  unified_describes [] i m c f n =
      record {
        form = c;
        leads = λ s t. (
          λ l. (
            l,
            sym (drop_of_length-le t {i = i}
                (omega (arith, values_length m.effect s, ap length l.1, c.effect_length))),
          ),
          λ w. w.0,
        );
      }
  unified_describes (e ∷ asked) i m c f n =
      unified-first e asked i m c (omega arith) (f 0 i (omega arith))
      (clash (get_or m.effect i 0) (value_of e m.effect)) refl
      (λ d. unified_describes asked (suc i) (equated_lines (get_or m.effect i 0) (value_of e m.effect) m) d
      (λ j k h. f (suc j) k (omega arith)) (omega arith))

  -- ── A rule after a macro ───────────────────────────────────────────────────────────────────────

  module _ (rule : Rule) (r : Canonical positions sizes rule.condition rule.effect) where
    -- from s the vectors lead to some u, and the rule's effect leads from u to t
    followed-leads : (o : Option Lines) (s t : State) → Leads (followed rule o) s t
        ↔ ((u : State) × Leads o s u × (values_of rule.effect u ≡ t))
    unfolding followed
    followed-leads none s t = (λ w. absurd w, λ w. w.1)
    followed-leads (some m) s t = (
      λ w. (values_of m.effect s, (w.0, refl), sym (values_values rule.effect m.effect s) ∙ w.1),
      λ w. (w.1.0, values_values rule.effect m.effect s ∙ ap (values_of rule.effect) w.1.1 ∙ w.2),
    )

    followed-form : (o : Option Lines) → Form positions sizes o → Form positions sizes (followed rule o)
    unfolding followed
    followed-form none c = tt
    followed-form (some m) c = record {
      condition_length = c.condition_length;
      effect_length = values_length rule.effect m.effect ∙ r.effect_length;
      keeps_itself = c.keeps_itself;
      not_later = c.not_later;
      keeps_effect =
          values_values rule.effect m.effect m.condition ∙ ap (values_of rule.effect) c.keeps_effect;
      condition_fits = c.condition_fits;
      effect_fits = λ i.
          rw (values_at rule.effect m.effect i)
          (fits_value m.effect c.effect_fits (width positions sizes i) (get_or rule.effect i 0)
          (r.effect_fits i));
    }

    followed_describes : (R : State → State → Type 0) (o : Option Lines) → Describes positions sizes R o
        → Describes positions sizes (λ s t. (u : State) × R s u × (values_of rule.effect u ≡ t)) (followed rule o)
    followed_describes R o d = record {
      form = followed-form o d.form;
      leads = λ s t. (
        λ w. let l = (followed-leads o s t).0 w in (l.0, (d.leads s l.0).0 l.1, l.2),
        λ w. (followed-leads o s t).1 (w.0, (d.leads s w.0).1 w.1, w.2),
      );
    }

    pub extended_describes : (o : Option Lines) → Form positions sizes o
        → Describes positions sizes (λ s t. (u : State) × Leads o s u × (values_of rule.condition u ≡ u)
        × (values_of rule.effect u ≡ t)) (extended rule o)
    unfolding extended
    extended_describes none c = record { form = tt; leads = λ s t. (λ w. absurd w, λ w. w.1) }
    extended_describes (some m) c =
        describes_as
        (followed_describes (Agreed rule.condition 0 m) (unified rule.condition 0 m)
        (unified_describes rule.condition 0 m c (λ j k h. let e : k ≡ j = omega arith in rw e (r.condition_fits j))
        (omega (arith, r.condition_length))))
        (λ s t. (λ w. (w.0, w.1.0, w.1.1, w.2), λ w. (w.0, (w.1, w.2), w.3)))
