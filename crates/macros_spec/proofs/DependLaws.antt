-- A sequence reads a position exactly if another value there alone, in some state that admits the sequence, stops it or
-- leads to another value elsewhere.
-- Assumes nothing.
use mathlib.Core.Path.{◌≡◌, refl, sym, ap, ◌∙◌, subst}
use mathlib.Core.Logic.{⊎_elim, inl, inr, ◌⊎◌, ◌↔◌, ◌≢◌}
use mathlib.Core.Option.{Option, some, none, none-ne-some, some-injective}
use mathlib.Core.List.{List}
use Prim.Native.Nat.{ℕ, ◌%◌, ◌≤◌, ◌<◌}
use native.Mathlib.Omega.{arith}
use lib.ListN.{get_or, set, length-set}
use lib.Seq.{get_or-set_same, get_or-set_other, ext_get_or}
use Rattle.theory_spec.specs.Sequences.{Sequence}
use Rattle.theory_spec.proofs.TestLaws.{below?, equal?}
use Rattle.model_spec.specs.States.{State, value_of, values_of, successor, width, ManyValued}
use Rattle.model_spec.specs.Rules.{StateOf, run_in}
use Rattle.model_spec.specs.Validity.{WellFormed}
use Rattle.model_spec.specs.declared.RuleSet.{RuleSet}
use Rattle.model_spec.proofs.StateLaws.{applicable_iff, values_at, values_length, value-constant}
use Rattle.macros_spec.specs.Touched.{NamedElsewhere, Reads}
use Rattle.macros_spec.specs.Answers.{Means, Depends}
use Rattle.macros_spec.specs.declared.Macro.{Macro}
use Rattle.macros_spec.proofs.VectorLaws.{value_at, value-place}
use Rattle.macros_spec.proofs.CanonicalForm.{Canonical}
use Rattle.macros_spec.proofs.DistinctLaws.{condition_met}
use Rattle.macros_spec.proofs.MeaningLaws.{means_canonical}
use Rattle.macros_spec.proofs.TouchedLaws.{reads?}

module _ (rules : RuleSet) (formed : WellFormed rules) (q : Sequence) (m : Macro) (means : Means rules q m)
    (i : ℕ) (l : i < 16) where
  form : Canonical rules.positions rules.sizes m.condition m.effect
  form = means_canonical rules formed q m means

  abbrev Meets : State → Type 0
  Meets s = values_of m.condition s ≡ s

  -- a state that admits the sequence meets the condition, and is led where the effect says; one that meets it is
  -- admitted
  meets : (s t : State) → StateOf rules s → run_in rules q s ≡ some t → Meets s
  meets s t d r = (applicable_iff m.condition s).0 ((means.runs_where s d).1 (t, r))

  runs : (s : State) → StateOf rules s → Meets s → run_in rules q s ≡ some (successor m.effect s)
  runs s d e =
      let w = (means.runs_where s d).0 ((applicable_iff m.condition s).1 e) in
      w.1 ∙ ap some (sym (means.leads_to s w.0 d w.1))

  -- ── A position that is not read ────────────────────────────────────────────────────────────────

  module _ (unread : Reads rules m i → ⊥) (s u : State) (ds : StateOf rules s) (du : StateOf rules u)
      (alike : (k : ℕ) → k ≢ i → get_or s k 0 ≡ get_or u k 0) where
    -- a place with one value holds 0 in both
    same-state : (ManyValued rules.positions rules.sizes i → ⊥) → s ≡ u
    same-state one =
        ext_get_or 0 s u (ds.0 ∙ sym du.0)
        (λ k h. ⊎_elim (λ (e : k ≡ i). subst (λ j. get_or s j 0 ≡ get_or u j 0) (sym e)
        (omega (arith, ds.1 i l, du.1 i l, few))) (λ n. alike k n) (equal? k i))
      where
        few : width rules.positions rules.sizes i < 2
        few = ⊎_elim (λ h. h) (λ h. absurd (one h)) (below? (width rules.positions rules.sizes i) 2)

    -- an entry that does not name the position stands for the same in both
    same_value : (e : ℕ) → (16 ≤ e → e % 16 ≢ i) → value_of e s ≡ value_of e u
    same_value e other =
        ⊎_elim (λ c. value-constant e s c ∙ sym (value-constant e u c))
        (λ v. value-place e s v ∙ alike (e % 16) (other v) ∙ sym (value-place e u v)) (below? e 16)

    module _ (wide : ManyValued rules.positions rules.sizes i) where
      others : (line : List ℕ) → (NamedElsewhere line i → ⊥) → (k : ℕ) → k < 16 → k ≢ i
          → value_of (get_or line k 0) s ≡ value_of (get_or line k 0) u
      others line unnamed k h n = same_value (get_or line k 0) (λ v e. unnamed (k, h, n, (v, e)))

      -- the other state meets the condition too
      meets_too : Meets s → Meets u
      meets_too met =
          let wide_enough = values_length m.condition u ∙ form.condition_length in
          ext_get_or 0 (values_of m.condition u) u (wide_enough ∙ sym du.0)
          (λ k h. values_at m.condition u k ∙ at k (omega (arith, h, wide_enough)))
        where
          own : value_of (get_or m.condition i 0) u ≡ get_or u i 0
          own =
              ⊎_elim (λ c. absurd (unread (wide, inl c)))
              (λ v. ⊎_elim (λ (e : get_or m.condition i 0 % 16 ≡ i).
              value-place (get_or m.condition i 0) u v ∙ ap (λ j. get_or u j 0) e)
              (λ n. absurd (unread (wide, inr (inl (v, n))))) (equal? (get_or m.condition i 0 % 16) i))
              (below? (get_or m.condition i 0) 16)

          at : (k : ℕ) → k < 16 → value_of (get_or m.condition k 0) u ≡ get_or u k 0
          at k h =
              ⊎_elim (λ (e : k ≡ i). subst (λ j. value_of (get_or m.condition j 0) u ≡ get_or u j 0) (sym e) own)
              (λ n. sym (others m.condition (λ w. unread (wide, inr (inr (inl w)))) k h n)
              ∙ value_at m.condition s s k met ∙ alike k n) (equal? k i)

      -- and is led to the same values elsewhere
      ends-alike : (k : ℕ) → k < 16 → k ≢ i → get_or (successor m.effect s) k 0 ≡ get_or (successor m.effect u) k 0
      unfolding successor
      ends-alike k h n =
          values_at m.effect s k
          ∙ others m.effect (λ w. unread (wide, inr (inr (inr w)))) k h n
          ∙ sym (values_at m.effect u k)

  -- so two states that differ there alone are not told apart
  module _ (unread : Reads rules m i → ⊥) (d : Depends rules q i) where
    narrow : width rules.positions rules.sizes i < 2 → ⊥
    narrow few =
        let same = same-state unread d.state d.other d.is_state d.is_other d.alike
        (λ h. omega (arith, few, h)) in
        ⊎_elim (λ e. none-ne-some d.end (sym e ∙ ap (run_in rules q) (sym same) ∙ d.runs))
        (λ w. w.5 (ap (λ (t : State). get_or t w.1 0)
        (some-injective d.end w.0 (sym d.runs ∙ ap (run_in rules q) same ∙ w.2)))) d.differs

    wide : 2 ≤ width rules.positions rules.sizes i → ⊥
    wide many =
        let met = meets d.state d.end d.is_state d.runs in
        let too = meets_too unread d.state d.other d.is_state d.is_other d.alike many met in
        ⊎_elim (λ e. none-ne-some (successor m.effect d.other) (sym e ∙ runs d.other d.is_other too))
        (λ w. w.5
        (ap (λ (t : State). get_or t w.1 0) (sym (means.leads_to d.state d.end d.is_state d.runs))
        ∙ ends-alike unread d.state d.other d.is_state d.is_other d.alike many w.1 w.3 w.4
        ∙ ap (λ (t : State). get_or t w.1 0) (means.leads_to d.other w.0 d.is_other w.2))) d.differs

    not_apart : ⊥
    not_apart = ⊎_elim narrow wide (below? (width rules.positions rules.sizes i) 2)

  -- ── A position that is read ────────────────────────────────────────────────────────────────────

  module _ (read : Reads rules m i) (s : State) (ds : StateOf rules s) (met : Meets s) (v : ℕ) (small : v < 2)
      (new : v ≢ get_or s i 0) where
    -- the state with another value there
    abbrev changed : State
    changed = set s i v

    changed_there : get_or changed i 0 ≡ v
    changed_there = get_or-set_same s i v 0 (omega (arith, ds.0))

    changed_elsewhere : (k : ℕ) → k ≢ i → get_or changed k 0 ≡ get_or s k 0
    changed_elsewhere k n = get_or-set_other s i k v 0 n

    is_state : StateOf rules changed
    is_state = (
      length-set s i v ∙ ds.0,
      λ k h. ⊎_elim (λ (e : k ≡ i). subst (λ j. get_or changed j 0 < width rules.positions rules.sizes j) (sym e)
          (omega (arith, changed_there, read.0)))
          (λ n. omega (arith, changed_elsewhere k n, ds.1 k h)) (equal? k i),
    )

    -- where it meets the condition, it is led to another value at a place whose effect names the position
    told_apart : Meets changed
        → (k : ℕ) × (k < 16) × (k ≢ i)
        × (get_or (successor m.effect s) k 0 ≢ get_or (successor m.effect changed) k 0)
    unfolding successor
    told_apart too =
        let c = get_or m.condition i 0 in
        let here = value_at m.condition s s i met in
        let there = value_at m.condition changed changed i too ∙ changed_there in
        ⊎_elim
        (λ const. absurd (new (sym there ∙ value-constant c changed const ∙ sym (value-constant c s const) ∙ here)))
        (λ o. ⊎_elim
        (λ a. absurd (new (sym there ∙ value-place c changed a.0 ∙ changed_elsewhere (c % 16) a.1
        ∙ sym (value-place c s a.0) ∙ here)))
        (λ p. ⊎_elim
        (λ w. absurd (new (named-condition w)))
        (λ w. (w.0, w.1, w.2, named-effect w)) p) o)
        read.1
      where
        -- a variable of the position stands for what is there
        stands : (e : ℕ) (t : State) → 16 ≤ e → e % 16 ≡ i → value_of e t ≡ get_or t i 0
        stands e t h n = value-place e t h ∙ ap (λ j. get_or t j 0) n

        named-condition : (w : NamedElsewhere m.condition i) → v ≡ get_or s i 0
        named-condition w =
            let e = get_or m.condition w.0 0 in
            sym changed_there
            ∙ sym (stands e changed w.3.0 w.3.1)
            ∙ value_at m.condition changed changed w.0 too
            ∙ changed_elsewhere w.0 w.2
            ∙ sym (value_at m.condition s s w.0 met)
            ∙ stands e s w.3.0 w.3.1

        named-effect : (w : NamedElsewhere m.effect i)
            → get_or (values_of m.effect s) w.0 0 ≢ get_or (values_of m.effect changed) w.0 0
        named-effect w same =
            let e = get_or m.effect w.0 0 in
            new (sym changed_there
            ∙ sym (stands e changed w.3.0 w.3.1)
            ∙ sym (values_at m.effect changed w.0)
            ∙ sym same
            ∙ values_at m.effect s w.0
            ∙ stands e s w.3.0 w.3.1)

    apart : Depends rules q i
    apart = record {
      state = s;
      other = changed;
      is_state = ds;
      is_other = is_state;
      alike = λ k n. sym (changed_elsewhere k n);
      end = successor m.effect s;
      runs = runs s ds met;
      differs = go (run_in rules q changed) refl;
    }
      where
        go : (o : Option State) → run_in rules q changed ≡ o
            → (run_in rules q changed ≡ none)
            ⊎ ((t : State) × (k : ℕ) × (run_in rules q changed ≡ some t) × (k < 16) × (k ≢ i)
            × (get_or (successor m.effect s) k 0 ≢ get_or t k 0))
        go none e = inl e
        go (some t) e =
            let too = meets changed t is_state e in
            let w = told_apart too in
            inr (successor m.effect changed, w.0, runs changed is_state too, w.1, w.2, w.3)

  -- another value than n
  another : (n : ℕ) → (v : ℕ) × (v < 2) × (v ≢ n)
  another n = ⊎_elim (λ (e : n ≡ 0). (1, omega arith, λ f. omega (arith, e, f)))
      (λ d. (0, omega arith, λ f. d (sym f))) (equal? n 0)

  read_apart : Reads rules m i → Depends rules q i
  read_apart read =
      let w = condition_met rules.positions rules.sizes m.condition m.effect form in
      let v = another (get_or w.0 i 0) in
      apart read w.0 w.1 w.2 v.0 v.1 v.2

  pub depends_iff : Reads rules m i ↔ Depends rules q i
  depends_iff = (read_apart, λ d. ⊎_elim (λ r. r) (λ u. absurd (not_apart u d)) (reads? rules m i l))
