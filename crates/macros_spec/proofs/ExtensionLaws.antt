-- Sequences extended by a rule: the vectors of the longer sequence are those of the shorter with the rule after them.
-- And vectors, as the code keeps them, are read back as they were.
-- Assumes nothing.
use mathlib.Core.Path.{◌≡◌, refl}
use mathlib.Core.Option.{Option, some, none}
use mathlib.Core.List.{[], ◌∷◌, ◌++◌}
use Prim.Native.Nat.{ℕ}
use Rattle.theory_spec.specs.Sequences.{Sequence}
use Rattle.model_spec.specs.Rules.{rule_at}
use Rattle.model_spec.specs.declared.RuleSet.{RuleSet}
use Rattle.macros_spec.specs.Composition.{Lines, empty_lines, extended, composed_from, composed, as_vectors, lines_of}

pub lines_vectors : (m : Option Lines) → lines_of (as_vectors m) ≡ m
lines_vectors none = refl
lines_vectors (some m) = refl

module _ (set : RuleSet) where
  composed_from-extended : (q : Sequence) (r : ℕ) (m : Option Lines)
      → composed_from set (q ++ r ∷ []) m ≡ extended (rule_at set r) (composed_from set q m)
  unfolding composed_from
  composed_from-extended [] r m = refl
  composed_from-extended (first ∷ q) r m = composed_from-extended q r (extended (rule_at set first) m)

  pub composed-extended : (q : Sequence) (r : ℕ) → composed set (q ++ r ∷ []) ≡ extended (rule_at set r) (composed set q)
  unfolding composed
  composed-extended q r = composed_from-extended q r (some (empty_lines set))
