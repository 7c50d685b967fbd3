-- The turns of the loop that fills a table entry by entry. The invariant says of the bytes laid so far that with those
-- still to come they make the whole.
-- Assumes nothing.
use mathlib.Core.Path.{◌≡◌}
use mathlib.Core.List.{List, [], ◌∷◌, ◌++◌, append-nil}
use Prim.Native.Nat.{ℕ, ◌+◌, ◌-◌, ◌*◌, ◌/◌, ◌%◌, ◌≤◌, ◌<◌}
use native.Mathlib.Numerals.{add-one}
use native.Mathlib.Omega.{arith}
use lib.ListN.{length, take, set, length-set}
use lib.Seq.{take_all, take-suc-set, append_snoc}
use Rattle.theory_spec.specs.Lists.{flat, numbers_from}
use Rattle.model_spec.proofs.LoopLaws.{left_more, left_none}
use Rattle.tables_spec.specs.Table.{entry_bytes}

-- one byte more is laid
laid_more : (i b : ℕ) (table rest : List ℕ) → i < length table → take (i + 1) (set table i b) ++ rest ≡ take i table
    ++ (b ∷ rest)
laid_more i b table rest h = rw (add-one i, take-suc-set table i b h) (append_snoc (take i table) b rest)

-- all are laid
laid_all : (i : ℕ) (table rest : List ℕ) → length table ≤ i → rest ≡ [] → take i table ++ rest ≡ table
laid_all i table rest h e = rw (e, take_all i table h) (append-nil table)

-- the table after i of n entries, which f gives, with those still to come
module _ (f : ℕ → ℕ) (n : ℕ) where
  abbrev pub entered : ℕ → List ℕ → List ℕ
  entered i table = take (2 * i) table ++ flat (λ j. entry_bytes (f j)) (numbers_from i (n - i))

  pub entered-start : (table : List ℕ) → entered 0 table ≡ flat (λ j. entry_bytes (f j)) (numbers_from 0 n)
  entered-start table = let e : n - 0 ≡ n = omega arith in rw e

  pub entered_more : (i entry : ℕ) (table : List ℕ) → i < n → 2 * i + 1 < length table → entry ≡ f i
      → entered (i + 1) (set (set table (2 * i) (entry % 256)) (2 * i + 1) (entry / 256)) ≡ entered i table
  entered_more i entry table h k e =
      let next : 2 * (i + 1) ≡ 2 * i + 1 + 1 = omega arith in
      let low = entry % 256 in
      let high = entry / 256 in
      let rest : List ℕ = flat (λ j. entry_bytes (f j)) (numbers_from (i + 1) (n - (i + 1))) in
      rw (
        next,
        laid_more (2 * i + 1) high (set table (2 * i) low) rest (omega (arith, length-set table (2 * i) low)),
        laid_more (2 * i) low table (high ∷ rest) (omega arith),
        left_more i n h,
        e,
      )

  pub entered_all : (i : ℕ) (table : List ℕ) → n ≤ i → length table ≤ 2 * i → entered i table ≡ table
  entered_all i table h k = laid_all (2 * i) table _ k (rw (left_none i n h))
