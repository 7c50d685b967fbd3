-- A row that a loop writes, element by element, of what a function gives for each element of a list: the rules' lines
-- and costs, before a search lends them.
-- Assumes nothing.
use mathlib.Core.Path.{◌≡◌, sym, ◌∙◌}
use mathlib.Core.List.{List, map, append-nil}
use Prim.Native.Nat.{ℕ, ◌+◌, ◌≤◌, ◌<◌}
use native.Mathlib.Omega.{arith}
use lib.ListN.{length, get_or, set, length-map, drop_of_length-le, get_or-map}
use lib.Seq.{take_all}
use Rattle.model_spec.proofs.CopyLaws.{copied, copied_more}

module _ {A B : Type 0} (f : A → B) (old : List B) (all : List A) (i : ℕ) (l : List B)
    (e : l ≡ copied old (map f all) i) where
  -- one turn more
  pub row_more : (z : A) → i < length old → i < length all → set l i (f (get_or all i z)) ≡ copied old (map f all) (i + 1)
  row_more z h k =
      copied_more old (map f all) i l (f (get_or all i z)) (f z) h (omega (arith, length-map all f)) e
      (sym (get_or-map f all i z))

  -- after the last turn it is whole
  pub row-whole : length old ≤ i → length all ≤ i → l ≡ map f all
  row-whole h k =
      e ∙ rw (take_all i (map f all) (omega (arith, length-map all f)), drop_of_length-le old {i = i} h)
      (append-nil (map f all))
