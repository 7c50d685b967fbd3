-- A fold over the numbers below n, one after another: what each call of its closure keeps holds of the result.
-- Assumes nothing.
use mathlib.Core.Path.{◌≡◌, refl, sym, ◌∙◌, subst}
use mathlib.Core.List.{List, [], ◌∷◌, ◌++◌}
use Prim.Native.Nat.{ℕ, ◌+◌, ◌≤◌, ◌<◌}
use native.Mathlib.Omega.{arith}
use lib.ListN.{length, get_or}
use denote.Param.Members.{Mut, Called}
use Rattle.std.specs.Iterator.{FoldsItems}
use Rattle.std.specs.declared.ops.Range.{Range}
use Rattle.std.specs.List.{range_with_len}
use Rattle.std.proofs.Common.{zero-add}
use Rattle.std.proofs.iter.Yields.{nat_range_steps}
use Rattle.std.proofs.lemmas.Fn.{fold_over}
use Rattle.std.proofs.lemmas.Iterator.{YieldsList-from_range}
use Rattle.std.proofs.lemmas.List.{length_push, get_or_push, get_or_append_left}
use Rattle.std.proofs.lemmas.List.FromFn.{length-range_with_len, get_or-range_with_len}

-- a list of the numbers from 0 on
abbrev Counts : List ℕ → Type 0
Counts ys = (i : ℕ) → i < length ys → get_or ys i 0 ≡ i

-- P, of the value before number k, is kept by each call at a number below n, and no call changes the closure
module _ {F : Type 0} (g : Mut F (ℕ × (ℕ × Unit {0})) ℕ) (c : F) (n : ℕ) (P : ℕ → ℕ → Type 0)
    (stays : (a k b : ℕ) (d : F) → Called g c (a, (k, tt)) b d → d ≡ c)
    (keeps : (a k b : ℕ) (d : F) → k < n → P a k → Called g c (a, (k, tt)) b d → P b (k + 1)) where
  abbrev Kept : List ℕ → ℕ → Type 0
  Kept ys a = Counts ys → length ys ≤ n → P a (length ys)

  one_more : (ys : List ℕ) (a x b : ℕ) (d : F) → Kept ys a → Called g c (a, (x, tt)) b d
      → Kept (ys ++ (x ∷ [])) b × (d ≡ c)
  one_more ys a x b d kept call =
      let more = length_push ys x in (
        λ counts h.
            let last : x ≡ length ys =
            sym (get_or_push ys x 0 (length ys) refl) ∙ counts (length ys) (omega (arith, more)) in
            let below = λ (i : ℕ) (l : i < length ys).
            sym (get_or_append_left ys (x ∷ []) 0 i l) ∙ counts i (omega (arith, more)) in
            rw more
            (keeps a (length ys) b d (omega (arith, more)) (kept below (omega (arith, more)))
            (subst (λ k. Called g c (a, (k, tt)) b d) last call)),
        stays a x b d call,
      )

  pub folded : (s : Range ℕ) (a r : ℕ) → s ≡ record { start = 0; end = n } → P a 0
      → FoldsItems nat_range_steps g s c a r → P r n
  folded s a r e start ran =
      let long = length-range_with_len 0 n in
      subst (P r) long
      (fold_over nat_range_steps (λ x. x) g Kept c one_more s (range_with_len 0 n) a r
      (YieldsList-from_range 0 n n e (omega arith)).runs (λ _ _. start) ran
      (λ i h. get_or-range_with_len 0 n i 0 (omega (arith, long)) ∙ zero-add i) (omega (arith, long)))
