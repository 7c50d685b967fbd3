-- Redundancy decided on vectors: b is redundant with a exactly if a costs no more, and either no state admits b, or a's
-- rules run in turn on b's condition, as on a state of entries, and end in b's effect. No macro of a is composed.
use Rattle.std.specs.Prelude.{◌≡◌, ◌↔◌, Bool, true, false, ◌&&◌, List, ℕ, min, leb}
use Rattle.std.proofs.Math.Option.{Option, some, none}
use Rattle.theory_spec.specs.Lists.{every, within, same}
use Rattle.theory_spec.specs.Sequences.{Sequence, Numbered}
use Rattle.model_spec.specs.Limits.{max_rules}
use Rattle.model_spec.specs.States.{State}
use Rattle.model_spec.specs.Rules.{run_in, sequence_cost, RedundantIn}
use Rattle.model_spec.specs.Validity.{Valid}
use Rattle.model_spec.specs.declared.RuleSet.{RuleSet}
use Rattle.macros_spec.specs.Composition.{Lines}
use Rattle.macros_spec.specs.VectorMeaning.{VectorsMean}
use Rattle.macros_spec.specs.declared.Vectors.{Vectors}

-- a run ended, and in this vector
abbrev pub ends_in : Option State → List ℕ → Bool
ends_in none effect = false
ends_in (some t) effect = same t effect

-- there are no vectors of b, or a's rules run in turn on its condition, as on a state of entries, and end in its effect
unfoldable pub covers : RuleSet → Sequence → Option Lines → Bool
covers set a none = true
covers set a (some b) = ends_in (run_in set a b.condition) b.effect

-- the number of a set's last rule; a set has places for 31
abbrev pub last_number : RuleSet → ℕ
last_number set = min set.count max_rules

-- b, with these vectors and this cost, is redundant with a, a sequence of the set's rules
unfoldable pub redundant_by_lines : RuleSet → Option Lines → ℕ → Sequence → Bool
redundant_by_lines set b cost a =
    every (within 1 (last_number set)) a && (leb (sequence_cost set a) cost && covers set a b)

-- what the test tells of vectors that mean a sequence b of a valid set's rules, and of b's cost: it passes exactly if b
-- is redundant with a, over all states (source document 000, Definition 1)
abbrev pub TellsRedundancy : RuleSet → Vectors → ℕ → Sequence → Bool → Type 0
TellsRedundancy set vectors cost a answer =
    (b : Sequence) → Valid set → Numbered set.count b → Numbered set.count a
    → VectorsMean set b vectors → cost ≡ sequence_cost set b
    → (answer ≡ true) ↔ RedundantIn set b a
