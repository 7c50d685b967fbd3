-- `touched::named_elsewhere` meets its contract: each call of its closure adds what one entry names.
use mathlib.Core.Path.{◌≡◌, sym, subst}
use Prim.Native.Nat.{ℕ, ◌+◌}
use native.Mathlib.Omega.{arith}
use lib.ListN.{get_or}
use borrow.Author.Rules.{rules}
use Rattle.std.specs.Prelude.{bit_or}
use Rattle.macros_spec.proofs.FoldLaws.{folded}
use Rattle.macros_spec.proofs.TouchedLoopLaws.{Adds, Named, named_none, named_more, named_all}
use Rattle.touched.proofs.named_elsewhere.Goals as goal

pub returns : goal.returns
returns c =
    let line = c.args.line.now in
    named_all line _ 16 (folded _ _ 16 (Named line) (λ a k b d call. search rules)
    (λ a k b d h so_far call.
    let added : (r : ℕ) × Adds (get_or line k 0) k r × (b ≡ bit_or a r) = search rules in
    subst (λ m. Named line m (k + 1)) (sym added.2) (named_more line a k added.0 so_far h added.1))
    _ _ _ (search rules) (named_none line) c.fold.ensures.ran) (omega arith)
