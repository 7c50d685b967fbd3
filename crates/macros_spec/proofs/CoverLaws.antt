-- Redundancy decided on vectors agrees with redundancy over all states: a's rules run in turn on b's condition, as on a
-- state of entries, and end in b's effect,
-- exactly if from each state that admits b they lead where b leads.
-- Assumes nothing.
use mathlib.Core.Path.{◌≡◌, refl, sym, ap, ◌∙◌, subst}
use mathlib.Core.Logic.{◌↔◌}
use mathlib.Core.Bool.{true, false≢true}
use mathlib.Core.Option.{Option, some, none, some-injective, none-ne-some}
use mathlib.Core.List.{List, [], ◌∷◌}
use Prim.Native.Nat.{ℕ}
use native.Mathlib.Omega.{arith}
use lib.ListN.{length}
use Rattle.theory_spec.specs.Lists.{every, within}
use Rattle.theory_spec.specs.Sequences.{Sequence, Numbered}
use Rattle.theory_spec.proofs.ListLaws.{same_test}
use Rattle.theory_spec.proofs.TestLaws.{leb_iff, same_iff, and_iff}
use Rattle.model_spec.specs.States.{State, values_of, successor}
use Rattle.model_spec.specs.Rules.{rule_at, run_in, sequence_cost, StateOf, RedundantIn, redundant}
use Rattle.model_spec.specs.Validity.{WellFormed}
use Rattle.model_spec.specs.declared.RuleSet.{RuleSet}
use Rattle.model_spec.proofs.StateLaws.{values_length, applicable_iff}
use Rattle.model_spec.proofs.RedundancyLaws.{redundant_iff}
use Rattle.macros_spec.specs.Composition.{Lines, composed, lines_of}
use Rattle.macros_spec.specs.Redundancy.{ends_in, covers, last_number, redundant_by_lines, TellsRedundancy}
use Rattle.macros_spec.specs.declared.Vectors.{Vectors}
use Rattle.macros_spec.specs.Answers.{Means, macro_at}
use Rattle.model_spec.proofs.MoveLaws.{numbered_iff}
use Rattle.macros_spec.proofs.VectorLaws.{values_values}
use Rattle.macros_spec.proofs.CanonicalForm.{Canonical}
use Rattle.macros_spec.proofs.DistinctLaws.{vectors_equal, values_equal}
use Rattle.macros_spec.proofs.RunLaws.{run-first_iff}
use Rattle.macros_spec.proofs.MeaningLaws.{rule_canonical, composed_canonical, composed-means, denied_iff}
use Rattle.macros_spec.proofs.VectorMeaningLaws.{mean_vectors}

-- ── Runs on vectors ──────────────────────────────────────────────────────────────────────────────

-- what runs on a vector runs wherever the vector is read
run-read : (set : RuleSet) (a : Sequence) (v w : List ℕ) → run_in set a v ≡ some w → (s : State)
    → run_in set a (values_of v s) ≡ some (values_of w s)
unfolding run_in
run-read set [] v w e s = ap {B = Option State} (λ (l : List ℕ). some (values_of l s)) (some-injective v w e)
run-read set (r ∷ a) v w e s =
    let condition = (rule_at set r).condition in
    let effect = (rule_at set r).effect in
    let h = (run-first_iff set r a v w).0 e in
    (run-first_iff set r a (values_of v s) (values_of w s)).1 (
      sym (values_values condition v s) ∙ ap (λ (l : List ℕ). values_of l s) h.0,
      ap (run_in set a) (sym (values_values effect v s)) ∙ run-read set a (values_of effect v) w h.1 s,
    )

module _ (set : RuleSet) (valid : WellFormed set) (condition effect : List ℕ)
    (form : Canonical set.positions set.sizes condition effect) where
  -- what runs from v to w wherever they are read in a state that meets the condition, runs on v itself
  run_back : (a : Sequence) → Numbered set.count a → (v w : List ℕ) → length v ≡ 16 → length w ≡ 16
      → values_of v condition ≡ v → values_of w condition ≡ w
      → ((s : State) → StateOf set s → values_of condition s ≡ s → run_in set a (values_of v s) ≡ some (values_of w s))
      → run_in set a v ≡ some w
  unfolding run_in
  run_back [] _ v w lv lw kv kw h =
      ap {B = Option State} some
      (vectors_equal set.positions set.sizes condition effect form v w (lv ∙ sym lw) kv kw
      (λ s d m. some-injective (values_of v s) (values_of w s) (h s d m)))
  run_back (r ∷ a) n v w lv lw kv kw h =
      let e = (rule_at set r).effect in
      let lines = rule_canonical set valid r n.0 n.1 in
      (run-first_iff set r a v w).1 (
        values_equal set.positions set.sizes condition effect form (rule_at set r).condition v v
            (lines.condition_length ∙ sym lv) kv kv (λ s d m. (first s (h s d m)).0),
        run_back a n.2 (values_of e v) w (values_length e v ∙ lines.effect_length) lw
            (values_values e v condition ∙ ap (values_of e) kv) kw
            (λ s d m. ap (run_in set a) (values_values e v s) ∙ (first s (h s d m)).1),
      )
    where
      first : (s : State) → run_in set (r ∷ a) (values_of v s) ≡ some (values_of w s)
          → (values_of (rule_at set r).condition (values_of v s) ≡ values_of v s)
          × (run_in set a (values_of (rule_at set r).effect (values_of v s)) ≡ some (values_of w s))
      first s = (run-first_iff set r a (values_of v s) (values_of w s)).0

-- ── The test ─────────────────────────────────────────────────────────────────────────────────────

-- a run ends in the effect
ends_iff : (o : Option State) (effect : List ℕ) → (ends_in o effect ≡ true) ↔ (o ≡ some effect)
ends_iff none effect = (λ e. absurd (false≢true e), λ e. absurd (none-ne-some effect e))
ends_iff (some t) effect = (
  λ e. ap {B = Option State} some ((same_iff t effect).0 e),
  λ e. (same_iff t effect).1 (some-injective t effect e),
)

-- the test that each is the number of one of the set's rules passes
pub numbered_passes : (set : RuleSet) → WellFormed set → (a : Sequence) → Numbered set.count a
    → every (within 1 (last_number set)) a ≡ true
numbered_passes set valid a h =
    let last = last_number set in
    let k = valid.count_limits.1 in
    let e : set.count ≡ last = omega arith in
    (numbered_iff last a).1 (subst (λ n. Numbered n a) e h)

module _ (set : RuleSet) (valid : WellFormed set) (b a : Sequence) (nb : Numbered set.count b)
    (na : Numbered set.count a) where
  -- from each state that admits b, a leads where b leads
  covers_iff : (covers set a (composed set b) ≡ true)
      ↔ ((s t : State) → StateOf set s → run_in set b s ≡ some t → run_in set a s ≡ some t)
  unfolding covers successor
  covers_iff = go (composed set b) refl
    where
      go : (o : Option Lines) → composed set b ≡ o → (covers set a o ≡ true)
          ↔ ((s t : State) → StateOf set s → run_in set b s ≡ some t → run_in set a s ≡ some t)
      go none e =
          (λ _ s t d h. absurd (none-ne-some t (sym ((denied_iff set valid b nb).0 e s d) ∙ h)), λ _. refl)
      go (some m) e = (
        λ h s t d k.
            let met = (applicable_iff m.condition s).0 ((means.runs_where s d).1 (t, k)) in
            ap (run_in set a) (sym met) ∙ run-read set a m.condition m.effect
            ((ends_iff (run_in set a m.condition) m.effect).0 h) s
            ∙ ap {B = Option State} some (means.leads_to s t d k),
        λ h.
            (ends_iff (run_in set a m.condition) m.effect).1
            (run_back set valid m.condition m.effect form a na m.condition m.effect form.condition_length
            form.effect_length form.keeps_itself form.keeps_effect
            (λ s d met.
            let w = (means.runs_where s d).0 ((applicable_iff m.condition s).1 met) in
            ap (run_in set a) met ∙ h s w.0 d w.1 ∙ ap {B =
            Option State} some (sym (means.leads_to s w.0 d w.1)))),
      )
        where
          form : Canonical set.positions set.sizes m.condition m.effect
          form = composed_canonical set valid b nb m e

          means : Means set b (macro_at (sequence_cost set b) (some m))
          means = composed-means set valid b nb m e

  -- the test on vectors passes exactly if b is redundant with a over all states
  pub redundant_by-lines_iff : (redundant_by_lines set (composed set b) (sequence_cost set b) a ≡ true)
      ↔ RedundantIn set b a
  unfolding redundant_by_lines run_in sequence_cost
  redundant_by-lines_iff =
      rw (numbered_passes set valid a na) (and_iff _ _ (leb_iff (sequence_cost set a) (sequence_cost set b)) covers_iff)

  -- so it is the test over all states
  pub redundant_by-lines : redundant_by_lines set (composed set b) (sequence_cost set b) a ≡ redundant set b a
  redundant_by-lines =
      same_test (redundant_by_lines set (composed set b) (sequence_cost set b) a) (redundant set b a)
      (λ e. (redundant_iff set b a).1 (redundant_by-lines_iff.0 e))
      (λ e. redundant_by-lines_iff.1 ((redundant_iff set b a).0 e))

-- so the test tells of vectors that mean a sequence, and of its cost, as the code keeps them
pub test_tells : (set : RuleSet) (vectors : Vectors) (cost : ℕ) (a : Sequence)
    → TellsRedundancy set vectors cost a (redundant_by_lines set (lines_of vectors) cost a)
test_tells set vectors cost a b valid nb na mean ec =
    rw (mean_vectors set valid.formed b nb vectors mean, ec) (redundant_by-lines_iff set valid.formed b a nb na)
