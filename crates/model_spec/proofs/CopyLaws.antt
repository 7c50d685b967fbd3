-- The turns of a loop that copies one list over another, element by element: after i turns the first i places hold the
-- copy, and the others what they held.
-- Assumes nothing.
use mathlib.Core.Path.{◌≡◌, sym, ap, ◌∙◌}
use mathlib.Core.List.{List, ◌++◌}
use Prim.Native.Nat.{ℕ, suc, ◌+◌, ◌-◌, ◌≤◌, ◌<◌}
use native.Mathlib.Numerals.{add-one}
use native.Mathlib.Omega.{arith}
use lib.ListN.{length, get_or, set, take, drop, replicate, length-replicate, replicate-append-replicate}
use lib.Seq.{length-take-le, take-length, take-suc, drop-cons, drop_at, append_snoc, set_at}
use Rattle.theory_spec.specs.Lists.{padded}

-- after i turns
abbrev pub copied : {A : Type 0} → List A → List A → ℕ → List A
copied old new i = take i new ++ drop i old

-- one turn more
pub copied_more : {A : Type 0} (old new : List A) (i : ℕ) (l : List A) (x z : A) → i < length old → i < length new
    → l ≡ copied old new i → x ≡ get_or new i z
    → set l i x ≡ copied old new (i + 1)
copied_more old new i l x z h k e v =
    let store = set_at (take i new) (get_or old i z) (drop (suc i) old) (get_or new i z) i
    (length-take-le i new (omega arith)) in
    rw (e, v, add-one i, drop-cons old i z h, store, take-suc new i z k)
    (sym (append_snoc (take i new) (get_or new i z) (drop (suc i) old)))

-- a list copied over the front of n equal elements is made up to n by them
pub copied-padded : {A : Type 0} (n : ℕ) (x : A) (new : List A) (i : ℕ) (l : List A) → length new ≤ n → i ≡ length new
    → l ≡ copied (replicate n x) new i → l ≡ padded n x new
copied-padded n x new i l h e c = c ∙ rw (e, take-length new) (ap (λ r. new ++ r) rest)
  where
    rest : drop (length new) (replicate n x) ≡ replicate (n - length new) x
    rest =
        let size : n ≡ length new + (n - length new) = omega arith in
        ap (λ m. drop (length new) (replicate m x)) size
        ∙ ap (drop (length new)) (sym (replicate-append-replicate (length new) (n - length new) x))
        ∙ drop_at (replicate (length new) x) (replicate (n - length new) x) (length new)
        (length-replicate (length new) x)
