-- Moves that are rules' numbers: one of them, its rule and cost, the tests of them all, and a wider range.
-- Assumes nothing.
use mathlib.Core.Path.{◌≡◌, refl, sym, ap, ◌∙◌}
use mathlib.Core.Logic.{◌↔◌}
use mathlib.Core.Bool.{Bool, true, false, not, ◌&&◌, ◌||◌}
use mathlib.Core.List.{[], ◌∷◌}
use Prim.Native.Nat.{ℕ, zero, suc, min, ◌≤◌, ◌<◌}
use native.Mathlib.Omega.{arith}
use lib.Dec.{leb}
use lib.ListN.{length, get_or, get_or-eq_default}
use borrow.Author.Tests.{not-true}
use Rattle.theory_spec.specs.Lists.{any, every, within}
use Rattle.theory_spec.specs.Sequences.{Sequence, Numbered}
use Rattle.theory_spec.proofs.ListLaws.{same_test}
use Rattle.theory_spec.proofs.TestLaws.{leb_iff, and_iff, within_iff}
use Rattle.model_spec.specs.Rules.{no_rule, rule_at}
use Rattle.model_spec.specs.declared.Rule.{Rule}
use Rattle.model_spec.specs.declared.RuleSet.{RuleSet}

-- the move at i is a rule's number
pub numbered_at : (n : ℕ) (q : Sequence) (i : ℕ) → Numbered n q → i < length q → (1 ≤ get_or q i 0) × (get_or q i 0 ≤ n)
numbered_at n [] i h l = absurd (omega arith)
numbered_at n (r ∷ q) zero h l = (h.0, h.1)
numbered_at n (r ∷ q) (suc i) h l = numbered_at n q i h.2 (omega arith)

-- a number up to 31 has its own rule, where numbers are limited by 31
pub rule_among : (set : RuleSet) (n : ℕ) → n ≤ 31 → rule_at set (min n 31) ≡ rule_at set n
rule_among set n h = ap (rule_at set) (omega arith)

-- a number above 31 has no rule, and costs nothing
pub no-rule_cost : (set : RuleSet) (n : ℕ) → length set.rules ≡ 31 → 31 < n → (rule_at set n).cost ≡ 0
unfolding rule_at
no-rule_cost set n full h = ap (λ (r : Rule). r.cost) (get_or-eq_default set.rules no_rule (omega arith))

-- a cost that was limited is compared with a number below the limit as the cost itself
pub limited_cost_test : (limit cost most : ℕ) → most < limit → leb (min cost limit) most ≡ leb cost most
limited_cost_test limit cost most h =
    same_test (leb (min cost limit) most) (leb cost most)
    (λ e. (leb_iff cost most).1 (omega (arith, (leb_iff (min cost limit) most).0 e)))
    (λ e. (leb_iff (min cost limit) most).1 (omega (arith, (leb_iff cost most).0 e)))

-- the test that each move is a rule's number
pub numbered_iff : (n : ℕ) (q : Sequence) → (every (within 1 n) q ≡ true) ↔ Numbered n q
numbered_iff n [] = (λ e. tt, λ h. refl)
numbered_iff n (r ∷ q) =
    let tests = and_iff _ _ (within_iff 1 n r) (numbered_iff n q) in
    (λ e. let w = tests.0 e in (w.0.0, w.0.1, w.1), λ h. tests.1 ((h.0, h.1), h.2))

-- the same test, as the code makes it: no move is another number
pub numbered_test : (n : ℕ) (q : Sequence) → every (within 1 n) q ≡ not (any (λ r. not (within 1 n r)) q)
numbered_test n [] = refl
numbered_test n (r ∷ q) = go (within 1 n r) (numbered_test n q)
  where
    go : (b : Bool) → every (within 1 n) q ≡ not (any (λ r. not (within 1 n r)) q)
        → (b && every (within 1 n) q) ≡ not (not b || any (λ r. not (within 1 n r)) q)
    go true e = e
    go false e = refl

pub no_unknown_iff : (n : ℕ) (q : Sequence) → (any (λ r. not (within 1 n r)) q ≡ false) ↔ Numbered n q
no_unknown_iff n q = (
  λ e. (numbered_iff n q).0 (numbered_test n q ∙ ap not e),
  λ h. not-true _ (sym (numbered_test n q) ∙ (numbered_iff n q).1 h),
)

-- a number among fewer rules is one among more
pub numbered_wider : (m n : ℕ) (q : Sequence) → m ≤ n → Numbered m q → Numbered n q
numbered_wider m n [] l h = tt
numbered_wider m n (r ∷ q) l h = (h.0, omega arith, numbered_wider m n q l h.2)
