-- Laws of a list that is made up to a length by one element: its front, and when a list is its front made up.
-- Assumes nothing.
use mathlib.Core.Path.{◌≡◌, sym, ap, ◌∙◌}
use mathlib.Core.Logic.{◌↔◌}
use mathlib.Core.List.{List, ◌++◌}
use Prim.Native.Nat.{ℕ, ◌+◌, ◌-◌, ◌≤◌, ◌<◌}
use native.Mathlib.Omega.{arith}
use lib.ListN.{length, get_or, take, drop, replicate, take-append-drop, length-take, length-drop, length-replicate}
use lib.ListN.{get_or-replicate}
use lib.Seq.{take_at, ext_get_or, get_or-drop, get_or-append-add}
use Rattle.theory_spec.specs.Lists.{padded}
use Rattle.theory_spec.proofs.ListLaws.{padded-length}

module _ {A : Type 0} (n : ℕ) (x : A) where
  -- the front is the list itself
  pub padded_front : (p : ℕ) (l : List A) → length l ≡ p → take p (padded n x l) ≡ l
  padded_front p l h = take_at l (replicate (n - length l) x) p h

  -- beyond it stands the element
  padded_beyond : (l : List A) (d : A) (i : ℕ) → length l ≤ i → i < n → get_or (padded n x l) i d ≡ x
  padded_beyond l d i h b =
      let at : i ≡ length l + (i - length l) = omega arith in
      ap (λ j. get_or (padded n x l) j d) at ∙ get_or-append-add l (replicate (n - length l) x) (i - length l) d
      ∙ get_or-replicate (n - length l) (i - length l) x d (omega arith)

  module _ (l : List A) (d : A) (p : ℕ) (b : p ≤ n) where
    -- what stands behind the first p elements, where it is the element alone
    behind : length l ≡ n → ((i : ℕ) → p ≤ i → i < n → get_or l i d ≡ x) → drop p l ≡ replicate (n - length (take p l)) x
    behind h beyond =
        let size : length (drop p l) ≡ length (replicate (n - length (take p l)) x) =
        omega (arith, length-drop p l, length-take p l, length-replicate (n - length (take p l)) x) in
        ext_get_or d (drop p l) (replicate (n - length (take p l)) x) size (λ i k.
        let room : p + i < n = omega (arith, length-drop p l) in
        get_or-drop p l i d ∙ beyond (p + i) (omega arith) room
        ∙ sym (get_or-replicate (n - length (take p l)) i x d (omega (arith, length-take p l))))

    -- a list is its first p elements made up to n exactly if it has n, and beyond the first p only that element
    pub padded_iff : ((length l ≡ n) × ((i : ℕ) → p ≤ i → i < n → get_or l i d ≡ x)) ↔ (l ≡ padded n x (take p l))
    padded_iff = (
      λ w. sym (take-append-drop p l) ∙ ap (λ r. take p l ++ r) (behind w.0 w.1),
      λ e. (
        ap length e ∙ padded-length n x (take p l) (omega (arith, length-take p l)),
        λ i a k. ap (λ s. get_or s i d) e ∙ padded_beyond (take p l) d i (omega (arith, length-take p l)) k,
      ),
    )
