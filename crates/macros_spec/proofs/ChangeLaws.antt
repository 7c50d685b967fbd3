-- A sequence writes a position exactly if some state that admits it holds another value there afterwards. And the empty
-- sequence reads and writes nothing.
-- Assumes nothing.
use mathlib.Core.Path.{◌≡◌, sym, ap, ◌∙◌}
use mathlib.Core.Logic.{⊎_elim, inl, inr, ◌⊎◌, ◌↔◌, ◌≢◌}
use mathlib.Core.Bool.{Bool, true, false, not, ◌&&◌, false≢true}
use mathlib.Core.List.{List}
use Prim.Native.Nat.{ℕ, ◌≤◌, ◌<◌}
use native.Mathlib.Omega.{arith}
use lib.Dec.{eqb}
use lib.ListN.{get_or}
use Rattle.theory_spec.specs.Lists.{any}
use Rattle.theory_spec.specs.Sequences.{Sequence}
use Rattle.theory_spec.proofs.ListLaws.{passes?, true-any, any_true, and_split, and_join, not-both}
use Rattle.theory_spec.proofs.TestLaws.{below?, equal?, eqb_iff, not_iff}
use Rattle.theory_spec.proofs.SetLaws.{has_none}
use Rattle.model_spec.specs.States.{State, value_of, values_of, applicable, successor, width}
use Rattle.model_spec.specs.Rules.{StateOf, states_of}
use Rattle.model_spec.specs.Validity.{WellFormed}
use Rattle.model_spec.specs.declared.RuleSet.{RuleSet}
use Rattle.model_spec.proofs.StateLaws.{applicable_iff, values_at}
use Rattle.model_spec.proofs.RedundancyLaws.{states_of_iff}
use Rattle.macros_spec.specs.Composition.{own_variables, empty_lines}
use Rattle.macros_spec.specs.Touched.{touched_by, untouched, NamedElsewhere, Reads, Writes}
use Rattle.macros_spec.specs.Answers.{Means, Changes}
use Rattle.macros_spec.specs.declared.Macro.{Macro}
use Rattle.macros_spec.proofs.VectorLaws.{value_at}
use Rattle.macros_spec.proofs.CanonicalForm.{Fits, Canonical}
use Rattle.macros_spec.proofs.DistinctLaws.{entries_equal}
use Rattle.macros_spec.proofs.EmptyLaws.{own-many, own_single}
use Rattle.macros_spec.proofs.MeaningLaws.{means_canonical}
use Rattle.macros_spec.proofs.TouchedLaws.{touched_meaning, touched_unique}

-- ── Written and changed ──────────────────────────────────────────────────────────────────────────

-- two entries that differ stand only where there are two values or more
many_valued_lem : (positions : ℕ) (sizes : List ℕ) (n x y : ℕ) → Fits positions sizes n x → Fits positions sizes n y → y ≢ x
    → 2 ≤ n
many_valued_lem positions sizes n x y fx fy d =
    ⊎_elim (λ cx. ⊎_elim (λ cy. ⊎_elim (λ (few : n < 2). absurd (d (omega (arith, fx.constant cx, fy.constant cy))))
    (λ h. h) (below? n 2)) (λ cy. fy.several cy) (below? y 16))
    (λ cx. fx.several cx) (below? x 16)

module _ (set : RuleSet) (formed : WellFormed set) (q : Sequence) (m : Macro) (means : Means set q m) (i : ℕ) where
  form : Canonical set.positions set.sizes m.condition m.effect
  form = means_canonical set formed q m means

  before : State → ℕ
  before s = get_or s i 0

  after : State → ℕ
  after s = get_or (successor m.effect s) i 0

  -- a state that meets the condition holds before what the `if` entry stands for, and afterwards what the `then` entry
  -- does
  holds-before : (s : State) → values_of m.condition s ≡ s → value_of (get_or m.condition i 0) s ≡ before s
  unfolding before
  holds-before s e = value_at m.condition s s i e

  holds_after : (s : State) → value_of (get_or m.effect i 0) s ≡ after s
  unfolding after successor
  holds_after s = sym (values_at m.effect s i)

  changed : Changes set q i → Writes set m i
  unfolding after before
  changed w =
      let s = w.0 in
      let met = (applicable_iff m.condition s).0 ((means.runs_where s w.2).1 (w.1, w.3)) in
      let differ : get_or m.effect i 0 ≢ get_or m.condition i 0 =
      λ e. w.4 (ap (λ (t : State). get_or t i 0) (sym (means.leads_to s w.1 w.2 w.3))
      ∙ sym (holds_after s) ∙ ap (λ x. value_of x s) e ∙ holds-before s met) in
      (many_valued_lem set.positions set.sizes _ _ _ (form.condition_fits i) (form.effect_fits i) differ, differ)

  -- the state meets the condition, and the position changes
  test : State → Bool
  test s = applicable m.condition s && not (eqb (after s) (before s))

  written : Writes set m i → Changes set q i
  unfolding test before after
  written w = go (passes? (any test (states_of set)))
    where
      alike : any test (states_of set) ≡ false → (s : State) → StateOf set s → values_of m.condition s ≡ s
          → value_of (get_or m.effect i 0) s ≡ value_of (get_or m.condition i 0) s
      alike none s d met =
          ⊎_elim (λ e. holds_after s ∙ e ∙ sym (holds-before s met))
          (λ n. not-both (true-any test ((states_of_iff set s).1 d)
          (and_join ((applicable_iff m.condition s).1 met)
          ((not_iff (eqb (after s) (before s)) (eqb_iff (after s) (before s))).1 n))) none)
          (equal? (after s) (before s))

      go : (any test (states_of set) ≡ true) ⊎ (any test (states_of set) ≡ false) → Changes set q i
      go (inl some-state) =
          let v = any_true test (states_of set) some-state in
          let s = v.0 in
          let d = (states_of_iff set s).0 v.1 in
          let b = and_split (applicable m.condition s) (not (eqb (after s) (before s))) v.2 in
          let r = (means.runs_where s d).0 b.0 in
          let differ = (not_iff (eqb (after s) (before s)) (eqb_iff (after s) (before s))).0 b.1 in
          (s, r.0, d, r.1, λ e. differ (ap (λ (t : State). get_or t i 0) (means.leads_to s r.0 d r.1) ∙ e))
      go (inr none) =
          absurd (w.1 (entries_equal set.positions set.sizes m.condition m.effect form
          (get_or m.effect i 0) (get_or m.condition i 0)
          (value_at m.effect m.condition m.effect i form.keeps_effect)
          (value_at m.condition m.condition m.condition i form.keeps_itself) (alike none)))

  pub changes_iff : Writes set m i ↔ Changes set q i
  changes_iff = (written, changed)

-- ── The empty sequence ───────────────────────────────────────────────────────────────────────────

pub empty-untouched : (set : RuleSet) → set.positions ≤ 16 → touched_by set (empty_lines set) ≡ untouched
unfolding empty_lines
empty-untouched set few =
    touched_unique set macro (touched_by set (empty_lines set)) untouched (touched_meaning set (empty_lines set) 0)
    (record {
      reads = λ i h. (λ t. absurd (false≢true (sym (has_none i) ∙ t)), λ r. absurd (not-read i h r));
      writes = λ i h. (λ t. absurd (false≢true (sym (has_none i) ∙ t)), λ w. absurd (w.1 (λ _. get_or own i 0)));
      sixteen = (omega arith, omega arith);
    })
  where
    own : List ℕ
    own = own_variables set.positions set.sizes

    macro : Macro
    macro = record { condition = own; effect = own; cost = 0 }

    not_named : (i : ℕ) → NamedElsewhere own i → ⊥
    not_named i w =
        let k = w.0 in
        ⊎_elim (λ p. omega (arith, own_single set.positions set.sizes few k p, w.3.0))
        (λ p. w.2 (omega (arith, w.1, own-many set.positions set.sizes few k p, w.3.0, w.3.1)))
        (below? (width set.positions set.sizes k) 2)

    not-read : (i : ℕ) → i < 16 → Reads set macro i → ⊥
    not-read i h r =
        let e = own-many set.positions set.sizes few i r.0 in
        ⊎_elim (λ c. omega (arith, e))
        (λ o. ⊎_elim (λ a. a.1 (omega (arith, e, h))) (λ b. ⊎_elim (not_named i) (not_named i) b) o) r.1
