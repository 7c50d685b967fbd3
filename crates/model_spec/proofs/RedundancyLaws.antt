-- Laws of redundancy over all states of a rule set: its test, the test of what some state admits, and that it is
-- transitive.
-- Assumes nothing.
use mathlib.Core.Path.{◌≡◌, refl, sym, ap, ◌∙◌}
use mathlib.Core.Logic.{◌↔◌, ◌⊎◌, inl, inr}
use mathlib.Core.Bool.{true, false, false≢true}
use mathlib.Core.Option.{Option, some, none, some-injective, none-ne-some}
use mathlib.Core.List.{[]}
use native.Mathlib.Omega.{arith}
use Rattle.theory_spec.specs.Lists.{◌∈◌, is_some}
use Rattle.theory_spec.specs.Sequences.{Sequence}
use Rattle.theory_spec.proofs.ListLaws.{passes?, not-both}
use Rattle.theory_spec.proofs.TestLaws.{same_iff, leb_iff, and_iff, every_iff, any_iff}
use Rattle.model_spec.specs.States.{State}
use Rattle.model_spec.specs.Rules.{StateOf, states_of, run_in, sequence_cost, admitted, RedundantIn, same_end}
use Rattle.model_spec.specs.Rules.{redundant}
use Rattle.model_spec.specs.declared.RuleSet.{RuleSet}
use Rattle.model_spec.proofs.StateLaws.{states_iff}

pub states_of_iff : (set : RuleSet) (s : State) → (s ∈ states_of set) ↔ StateOf set s
unfolding states_of
states_of_iff set s = states_iff set.positions set.sizes s

-- ── The test of redundancy ───────────────────────────────────────────────────────────────────────

same_end_iff : (x y : Option State) → (same_end x y ≡ true) ↔ ((t : State) → x ≡ some t → y ≡ some t)
same_end_iff none y = (λ _ t e. absurd (none-ne-some t e), λ _. refl)
same_end_iff (some t) none = (λ e. absurd (false≢true e), λ f. absurd (none-ne-some t (f t refl)))
same_end_iff (some t) (some u) = (
  λ e v h. ap {B = Option State} some (sym ((same_iff t u).0 e))
      ∙ h,
  λ f. (same_iff t u).1 (sym (some-injective u t (f t refl))),
)

-- the test of redundancy passes exactly if the statement over all states holds
pub redundant_iff : (set : RuleSet) (b a : Sequence) → (redundant set b a ≡ true) ↔ RedundantIn set b a
unfolding redundant run_in sequence_cost
redundant_iff set b a =
    let tests =
    and_iff _ _ (leb_iff (sequence_cost set a) (sequence_cost set b))
    (every_iff (λ s. same_end (run_in set b s) (run_in set a s)) _ (λ s. same_end_iff (run_in set b s) (run_in set a s))
    (states_of set)) in (
      λ e. let w = tests.0 e in (w.0, λ s t v. w.1 s ((states_of_iff set s).1 v) t),
      λ r. tests.1 (r.0, λ s d t. r.1 s t ((states_of_iff set s).0 d)),
    )

-- ── What some state admits ───────────────────────────────────────────────────────────────────────

is_some_iff : (o : Option State) → (is_some o ≡ true) ↔ ((t : State) × (o ≡ some t))
is_some_iff none = (λ e. absurd (false≢true e), λ w. absurd (none-ne-some w.0 w.1))
is_some_iff (some t) = (λ _. (t, refl), λ _. refl)

-- the test of admission passes exactly if the sequence can be run in some state of the set
pub admitted_iff : (set : RuleSet) (q : Sequence) → (admitted set q ≡ true)
    ↔ ((s : State) × (t : State) × StateOf set s × (run_in set q s ≡ some t))
unfolding admitted
admitted_iff set q =
    let test = any_iff (λ s. is_some (run_in set q s)) _ (λ s. is_some_iff (run_in set q s)) (states_of set) in (
      λ e. let w = test.0 e in (w.0, w.2.0, (states_of_iff set w.0).0 w.1, w.2.1),
      λ w. test.1 (w.0, (states_of_iff set w.0).1 w.2, (w.1, w.3)),
    )

pub not-admitted_iff : (set : RuleSet) (q : Sequence) → (admitted set q ≡ false)
    ↔ ((s : State) → StateOf set s → run_in set q s ≡ none)
not-admitted_iff set q = (λ e s v. down e s v (run_in set q s) refl, λ f. up f (passes? (admitted set q)))
  where
    down : admitted set q ≡ false → (s : State) → StateOf set s → (o : Option State) → run_in set q s ≡ o → o ≡ none
    down e s v none h = refl
    down e s v (some t) h = not-both ((admitted_iff set q).1 (s, t, v, h)) e

    up : ((s : State) → StateOf set s → run_in set q s ≡ none) → (admitted set q ≡ true) ⊎ (admitted set q ≡ false)
        → admitted set q ≡ false
    up f (inl e) = let w = (admitted_iff set q).0 e in absurd (none-ne-some w.1 (sym (f w.0 w.2) ∙ w.3))
    up f (inr e) = e

-- ── Redundancy ───────────────────────────────────────────────────────────────────────────────────

pub redundant_trans : (set : RuleSet) (c b a : Sequence) → RedundantIn set c b → RedundantIn set b a
    → RedundantIn set c a
redundant_trans set c b a p q = (omega arith, λ s t v e. q.1 s t v (p.1 s t v e))

-- what no state admits is redundant with the empty sequence
pub not-admitted-redundant : (set : RuleSet) (q : Sequence) → admitted set q ≡ false → RedundantIn set q []
unfolding run_in
not-admitted-redundant set q e =
    (omega arith, λ s t v h. absurd (none-ne-some t (sym ((not-admitted_iff set q).0 e s v) ∙ h)))
