-- Lists gone over one element after the other.
use Rattle.std.specs.Prelude.{List, [], ◌∷◌}

-- what the elements of a list make of b, one after the other
abbrev pub fold_over : {A B : Type 0} → (A → B → B) → B → List A → B
fold_over f b [] = b
fold_over f b (x ∷ xs) = fold_over f (f x b) xs
