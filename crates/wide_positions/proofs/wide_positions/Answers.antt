-- `wide_positions::wide_positions` meets its contract: each call of its closure puts in a place with two values or more.
use mathlib.Core.Path.{◌≡◌, refl}
use mathlib.Core.Bool.{cond}
use Prim.Native.Nat.{ℕ, ◌*◌, ◌%◌, ◌^◌}
use native.Mathlib.Omega.{arith}
use borrow.Author.Rules.{rules}
use borrow.Author.Tests.{tests}
use Rattle.std.specs.Prelude.{bit_or}
use Rattle.theory_spec.proofs.SetLaws.{filled_none}
use Rattle.model_spec.specs.States.{many_valued}
use Rattle.macros_spec.specs.How.Touching.{wide_positions}
use Rattle.macros_spec.proofs.FoldLaws.{folded}
use Rattle.macros_spec.proofs.TouchedLoopLaws.{Filled, put_if, filled}
use Rattle.wide_positions.proofs.wide_positions.Goals as goal

pub returns : goal.returns
unfolding wide_positions
returns c =
    let set = c.args.set in
    let wide = λ (k : ℕ). many_valued set.positions set.sizes k in
    filled wide _ 16 (folded _ _ 16 (Filled wide) (λ a k b d call. search rules)
    (λ a k b d h so_far call.
    let found : b ≡ cond (wide k) (bit_or a ((1 * 2 ^ k) % 2 ^ 16)) a = search (rules, tests) in
    put_if wide a k so_far h (wide k) refl b found)
    _ _ _ (search rules) (search rules, search rules, filled_none _) c.fold.ensures.ran) (omega arith)
