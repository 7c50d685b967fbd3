-- `touched::changed` meets its contract: each call of its closure puts in a place whose entries differ.
use mathlib.Core.Path.{◌≡◌, refl, sym, subst}
use mathlib.Core.Bool.{cond, not}
use Prim.Native.Nat.{ℕ, ◌+◌, ◌^◌}
use native.Mathlib.Omega.{arith}
use lib.Dec.{eqb}
use lib.ListN.{get_or}
use borrow.Author.Rules.{rules}
use Rattle.std.specs.Prelude.{bit_or}
use Rattle.theory_spec.proofs.SetLaws.{filled_none}
use Rattle.macros_spec.proofs.FoldLaws.{folded}
use Rattle.macros_spec.proofs.TouchedLoopLaws.{Filled, put_or_not, filled}
use Rattle.touched.proofs.changed.Goals as goal

pub returns : goal.returns
returns c =
    let first = c.args.condition.now in
    let last = c.args.effect.now in
    let agree = λ (k : ℕ). eqb (get_or first k 0) (get_or last k 0) in
    let test = λ (k : ℕ). not (agree k) in
    filled test _ 16 (folded _ _ 16 (Filled test) (λ a k b d call. search rules)
    (λ a k b d h so_far call.
    let same : b ≡ bit_or a (cond (agree k) 0 (2 ^ k)) = search rules in
    subst (λ m. Filled test m (k + 1)) (sym same) (put_or_not test a k so_far h (agree k) refl _ refl))
    _ _ _ (search rules) (search rules, search rules, filled_none _) c.fold.ensures.ran) (omega arith)
