-- `touched::asked` meets its contract: each call of its closure puts in a place whose entry is not its own variable.
use mathlib.Core.Path.{◌≡◌, refl, sym, subst}
use mathlib.Core.Bool.{cond, not}
use Prim.Native.Nat.{ℕ, ◌+◌, ◌^◌}
use native.Mathlib.Omega.{arith}
use lib.ListN.{get_or}
use borrow.Author.Rules.{rules}
use Rattle.std.specs.Prelude.{bit_or}
use Rattle.theory_spec.proofs.SetLaws.{filled_none}
use Rattle.macros_spec.specs.Touched.{names}
use Rattle.macros_spec.proofs.FoldLaws.{folded}
use Rattle.macros_spec.proofs.TouchedLoopLaws.{Filled, put_or_not, filled}
use Rattle.touched.proofs.asked.Goals as goal

pub returns : goal.returns
returns c =
    let entries = c.args.condition.now in
    let own = λ (k : ℕ). names (get_or entries k 0) k in
    let test = λ (k : ℕ). not (own k) in
    filled test _ 16 (folded _ _ 16 (Filled test) (λ a k b d call. search rules)
    (λ a k b d h so_far call.
    let same : b ≡ bit_or a (cond (own k) 0 (2 ^ k)) = search rules in
    subst (λ m. Filled test m (k + 1)) (sym same) (put_or_not test a k so_far h (own k) refl _ refl))
    _ _ _ (search rules) (search rules, search rules, filled_none _) c.fold.ensures.ran) (omega arith)
