-- The macro of a sequence over a valid rule set, for every length: it means what the sequence's rules do in turn, and
-- there is none exactly where no state admits the sequence.
-- Assumes nothing.
use mathlib.Core.Path.{◌≡◌, refl, sym, ap, ◌∙◌, subst}
use mathlib.Core.Logic.{◌↔◌}
use mathlib.Core.Bool.{true, false, true≢false}
use mathlib.Core.Option.{Option, some, none, some-injective}
use mathlib.Core.List.{List, [], ◌∷◌}
use Prim.Native.Nat.{ℕ, ◌-◌, ◌≤◌}
use native.Mathlib.Omega.{arith}
use Rattle.theory_spec.specs.Lists.{is_some}
use Rattle.theory_spec.specs.Sequences.{Sequence, Numbered}
use Rattle.theory_spec.proofs.ListLaws.{same_test, of-is_some}
use Rattle.model_spec.specs.States.{State, values_of, successor}
use Rattle.model_spec.specs.Rules.{rule_at, StateOf, run_in, sequence_cost, admitted}
use Rattle.model_spec.specs.Validity.{LinesValid, WellFormed}
use Rattle.model_spec.specs.declared.RuleSet.{RuleSet}
use Rattle.model_spec.proofs.StateLaws.{applicable_iff}
use Rattle.model_spec.proofs.ValidityLaws.{valid-width}
use Rattle.model_spec.proofs.RedundancyLaws.{admitted_iff, not-admitted_iff}
use Rattle.macros_spec.specs.Composition.{Lines, empty_lines, extended, composed_from, composed}
use Rattle.macros_spec.specs.Answers.{macro_at, Means, Denied, Admitted}
use Rattle.macros_spec.specs.declared.Macro.{Macro}
use Rattle.macros_spec.proofs.CanonicalForm.{Canonical}
use Rattle.macros_spec.proofs.FormLaws.{canonical_iff}
use Rattle.macros_spec.proofs.DistinctLaws.{condition_met}
use Rattle.macros_spec.proofs.RunLaws.{run-first_iff}
use Rattle.macros_spec.proofs.Descriptions.{Leads, Form, Describes, describes_as}
use Rattle.macros_spec.proofs.EmptyLaws.{own-state, own_canonical}
use Rattle.macros_spec.proofs.CompositionLaws.{extended_describes}

module _ (set : RuleSet) (valid : WellFormed set) where
  abbrev few : set.positions ≤ 16
  few = valid.position_limits.1

  -- valid lines are canonical
  pub lines_canonical : (condition effect : List ℕ) → LinesValid set.positions set.sizes condition effect
      → Canonical set.positions set.sizes condition effect
  lines_canonical condition effect v = (canonical_iff set.positions set.sizes condition effect few).0 v

  -- the lines of each rule are canonical
  pub rule_canonical : (r : ℕ) → 1 ≤ r → r ≤ set.count
      → Canonical set.positions set.sizes (rule_at set r).condition (rule_at set r).effect
  unfolding rule_at
  rule_canonical r h k =
      lines_canonical (rule_at set r).condition (rule_at set r).effect (valid.lines (r - 1) (omega arith))

  -- ── The rules of a sequence after a macro ──────────────────────────────────────────────────────

  -- together they lead where the macro leads and the rules run in turn
  composed_from_describes : (q : Sequence) → Numbered set.count q → (o : Option Lines)
      → Form set.positions set.sizes o
      → Describes set.positions set.sizes (λ s t. (u : State) × Leads o s u × (run_in set q u ≡ some t))
      (composed_from set q o)
  unfolding composed_from run_in
  composed_from_describes [] h o c =
      record {
        form = c;
        leads = λ s t. (
          λ l. (t, l, refl),
          λ w. subst (Leads o s) (some-injective w.0 t w.2) w.1,
        );
      }
  composed_from_describes (r ∷ q) h o c =
      let d = extended_describes set.positions set.sizes few (rule_at set r)
      (rule_canonical r h.0 h.1) o c in
      describes_as (composed_from_describes q h.2 (extended (rule_at set r) o) d.form) (λ s t. (
        λ w. let l =
            (d.leads s w.0).0 w.1 in (
              l.0,
              l.1,
              (run-first_iff set r q l.0 t).1 (l.2, ap (run_in set q) l.3 ∙ w.2),
            ),
        λ w.
            let k = (run-first_iff set r q w.0 t).0 w.2 in
            let u = values_of (rule_at set r).effect w.0 in
            (u, (d.leads s u).1 (w.0, w.1, k.0, refl), k.1),
      ))

  -- ── The macro of a sequence ────────────────────────────────────────────────────────────────────

  -- its vectors are canonical
  pub means_canonical : (q : Sequence) (m : Macro) → Means set q m
      → Canonical set.positions set.sizes m.condition m.effect
  means_canonical q m means = lines_canonical m.condition m.effect means.form

  -- what has a macro is admitted: some state meets the macro's condition
  pub means-admitted : (q : Sequence) (m : Macro) → Means set q m → Admitted set q
  means-admitted q m means =
      let w = condition_met set.positions set.sizes m.condition m.effect (means_canonical q m means) in
      let r = (means.runs_where w.0 w.1).0 ((applicable_iff m.condition w.0).1 w.2) in
      (w.0, r.0, w.1, r.1)

  module _ (q : Sequence) (h : Numbered set.count q) where
    composed_describes : Describes set.positions set.sizes
        (λ s t. (u : State) × Leads (some (empty_lines set)) s u × (run_in set q u ≡ some t)) (composed set q)
    unfolding composed empty_lines
    composed_describes =
        composed_from_describes q h (some (empty_lines set))
        (own_canonical set.positions set.sizes few (λ i. (valid-width set valid i).0))

    -- the sequence's vectors lead from a state where its rules lead
    leads_iff : (s t : State) → StateOf set s → Leads (composed set q) s t ↔ (run_in set q s ≡ some t)
    unfolding empty_lines
    leads_iff s t d =
        let own = own-state set.positions set.sizes few s d in (
          λ l. let w = (composed_describes.leads s t).0 l in ap (run_in set q) (sym own ∙ w.1.1)
              ∙ w.2,
          λ e. (composed_describes.leads s t).1 (s, (own, own), e),
        )

    module _ (m : Lines) (e : composed set q ≡ some m) where
      pub composed_canonical : Canonical set.positions set.sizes m.condition m.effect
      composed_canonical = subst (Form set.positions set.sizes) e composed_describes.form

      lines_lead_iff : (s t : State) → StateOf set s → Leads (some m) s t ↔ (run_in set q s ≡ some t)
      lines_lead_iff s t d = subst (λ o. Leads o s t ↔ (run_in set q s ≡ some t)) e (leads_iff s t d)

      -- a sequence's vectors, at its summed cost, mean what its rules do in turn
      pub composed-means : Means set q (macro_at (sequence_cost set q) (some m))
      unfolding successor
      composed-means = record {
        form = (canonical_iff set.positions set.sizes m.condition m.effect few).1 composed_canonical;
        runs_where = λ s d. (
          λ a. (
            values_of m.effect s,
            (lines_lead_iff s (values_of m.effect s) d).0
                ((applicable_iff m.condition s).0 a, refl),
          ),
          λ w. (applicable_iff m.condition s).1 ((lines_lead_iff s w.0 d).1 w.1).0,
        );
        leads_to = λ s t d r. ((lines_lead_iff s t d).1 r).1;
        costs = refl;
      }

    -- the test over all states agrees with whether there are vectors
    pub admitted-composed : admitted set q ≡ is_some (composed set q)
    admitted-composed =
        same_test (admitted set q) (is_some (composed set q))
        (λ a. let w = (admitted_iff set q).0 a in leads_some (composed set q) w.0 w.1
        ((leads_iff w.0 w.1 w.2).1 w.3))
        (λ a. let w = of-is_some (composed set q) a in
        (admitted_iff set q).1 (means-admitted q _ (composed-means w.0 w.1)))
      where
        leads_some : (o : Option Lines) (s t : State) → Leads o s t → is_some o ≡ true
        leads_some none s t l = absurd l
        leads_some (some m) s t l = refl

    -- there are no vectors exactly if no state admits the sequence
    pub denied_iff : (composed set q ≡ none) ↔ Denied set q
    denied_iff = (
      λ e. (not-admitted_iff set q).0 (admitted-composed ∙ ap is_some e),
      λ d. not_some (composed set q) (sym admitted-composed ∙ (not-admitted_iff set q).1 d),
    )
      where
        not_some : (o : Option Lines) → is_some o ≡ false → o ≡ none
        not_some none e = refl
        not_some (some m) e = absurd (true≢false e)
