-- Canonical form is unique for a meaning: no two pairs of lines do the same, and a sequence has one macro.
-- Assumes nothing.
use mathlib.Core.Path.{◌≡◌, sym, ap, ◌∙◌}
use mathlib.Core.Logic.{⊎_elim, ◌↔◌}
use mathlib.Core.Bool.{true}
use mathlib.Core.List.{List}
use Prim.Native.Nat.{ℕ, ◌+◌, ◌%◌, ◌≤◌}
use native.Mathlib.Omega.{arith}
use lib.ListN.{length, get_or}
use lib.Seq.{ext_get_or}
use Rattle.theory_spec.specs.Sequences.{Sequence}
use Rattle.theory_spec.proofs.TestLaws.{below?}
use Rattle.model_spec.specs.States.{State, value_of, values_of, applicable, successor}
use Rattle.model_spec.specs.Rules.{StateOf}
use Rattle.model_spec.specs.Validity.{LinesValid, WellFormed}
use Rattle.model_spec.specs.declared.RuleSet.{RuleSet}
use Rattle.model_spec.proofs.StateLaws.{value-constant, applicable_iff}
use Rattle.macros_spec.specs.Answers.{Means}
use Rattle.macros_spec.specs.declared.Macro.{Macro}
use Rattle.macros_spec.proofs.VectorLaws.{value-place, value_at}
use Rattle.macros_spec.proofs.DistinctLaws.{vectors_equal, values_equal}
use Rattle.macros_spec.proofs.MeaningLaws.{lines_canonical}

-- ── Conditions ───────────────────────────────────────────────────────────────────────────────────

-- two vectors of which each meets the other, with no variable later than its place, are equal
conditions_equal : (p c : List ℕ) → length p ≡ length c → values_of p c ≡ c → values_of c p ≡ p
    → ((i : ℕ) → get_or p i 0 ≤ 16 + i) → ((i : ℕ) → get_or c i 0 ≤ 16 + i) → p ≡ c
conditions_equal p c n pc cp lp lc =
    ext_get_or 0 p c n (λ i _. at (get_or p i 0) (get_or c i 0) (value_at p c c i pc) (value_at c p p i cp))
  where
    at : (x y : ℕ) → value_of x c ≡ y → value_of y p ≡ x → x ≡ y
    at x y hx hy =
        ⊎_elim (λ k. omega (arith, value-constant x c k))
        (λ k. ⊎_elim (λ j. omega (arith, value-constant y p j))
        (λ j. omega (arith, value-place x c k, value-place y p j, lp (y % 16), lc (x % 16))) (below? y 16))
        (below? x 16)

-- ── Lines ────────────────────────────────────────────────────────────────────────────────────────

module _ (set : RuleSet) (valid : WellFormed set) where
  -- a condition that is met wherever another one is leaves that one, as a state of entries, as it is
  condition-kept : (c e : List ℕ) → LinesValid set.positions set.sizes c e → (d : List ℕ) → length d ≡ 16
      → ((s : State) → StateOf set s → applicable c s ≡ true → applicable d s ≡ true) → values_of d c ≡ c
  condition-kept c e v d n met =
      let form = lines_canonical set valid c e v in
      values_equal set.positions set.sizes c e form d c c (n ∙ sym form.condition_length) form.keeps_itself
      form.keeps_itself
      (λ s k h. ap (values_of d) h ∙ (applicable_iff d s).0 (met s k ((applicable_iff c s).1 h)) ∙ sym h)

  -- two pairs of lines that are met by the same states, and lead to the same state from each of these, are equal
  pub lines_unique : (c e d f : List ℕ) → LinesValid set.positions set.sizes c e
      → LinesValid set.positions set.sizes d f
      → ((s : State) → StateOf set s → (applicable c s ≡ true) ↔ (applicable d s ≡ true))
      → ((s : State) → StateOf set s → applicable c s ≡ true → successor e s ≡ successor f s) → (c ≡ d) × (e ≡ f)
  unfolding successor
  lines_unique c e d f v w met leads =
      let form = lines_canonical set valid c e v in
      let other = lines_canonical set valid d f w in
      let p : c ≡ d =
      conditions_equal c d (form.condition_length ∙ sym other.condition_length)
      (condition-kept d f w c form.condition_length (λ s k. (met s k).1))
      (condition-kept c e v d other.condition_length (λ s k. (met s k).0))
      form.not_later other.not_later in (
        p,
        vectors_equal set.positions set.sizes c e form e f (form.effect_length ∙ sym other.effect_length)
            form.keeps_effect (ap (values_of f) p ∙ other.keeps_effect)
            (λ s k h. leads s k ((applicable_iff c s).1 h)),
      )

-- ── Macros ───────────────────────────────────────────────────────────────────────────────────────

module _ (set : RuleSet) (valid : WellFormed set) (q : Sequence) where
  -- a state that meets the condition of the one meets that of the other
  also_meets : (m n : Macro) → Means set q m → Means set q n → (s : State) → StateOf set s
      → applicable m.condition s ≡ true → applicable n.condition s ≡ true
  also_meets m n hm hn s d e = (hn.runs_where s d).1 ((hm.runs_where s d).0 e)

  -- two macros that mean the same sequence are equal
  pub means_unique : (m n : Macro) → Means set q m → Means set q n → m ≡ n
  means_unique m n hm hn =
      let w =
      lines_unique set valid m.condition m.effect n.condition n.effect hm.form hn.form
      (λ s d. (also_meets m n hm hn s d, also_meets n m hn hm s d))
      (λ s d e. let t = (hm.runs_where s d).0 e in hm.leads_to s t.0 d t.1
      ∙ sym (hn.leads_to s t.0 d t.1)) in
      let c : m.cost ≡ n.cost = hm.costs ∙ sym hn.costs in
      λ i. record { condition = w.0 i; effect = w.1 i; cost = c i }
