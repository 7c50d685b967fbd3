-- What the vectors of a sequence mean, over all states of the sizes, and what the calls that compose them tell.
use Rattle.std.specs.Prelude.{◌≡◌, ◌↔◌, true, false, [], ◌∷◌, ◌++◌, ℕ}
use Rattle.theory_spec.specs.Sequences.{Sequence, Numbered}
use Rattle.model_spec.specs.States.{State, applicable, successor}
use Rattle.model_spec.specs.Rules.{rule_at, StateOf, sequence_cost}
use Rattle.model_spec.specs.Validity.{Valid}
use Rattle.model_spec.specs.declared.Rule.{Rule}
use Rattle.model_spec.specs.declared.RuleSet.{RuleSet}
use Rattle.macros_spec.specs.Answers.{Means, Denied}
use Rattle.macros_spec.specs.declared.Vectors.{Vectors}

-- vectors mean a sequence: they are marked as not admitted exactly if no state admits it; else, at the sequence's
-- summed cost, they are its macro: they run from exactly the states where its rules run in turn, and lead to the same
-- state
pub record VectorsMean (set : RuleSet) (q : Sequence) (vectors : Vectors) : Type 0 where
  pub denied : (vectors.admitted ≡ false) ↔ Denied set q
  pub means : vectors.admitted ≡ true
      → Means set q (record { condition = vectors.condition; effect = vectors.effect; cost = sequence_cost set q })

-- what the vectors of the empty sequence tell of a valid set: every state admits them, they lead each state to itself,
-- and so they mean the empty sequence
pub record EmptyMeaning (set : RuleSet) (vectors : Vectors) : Type 0 where
  pub admitted : vectors.admitted ≡ true
  pub runs_everywhere : (s : State) → StateOf set s → applicable vectors.condition s ≡ true
  pub leads_to_itself : (s : State) → StateOf set s → successor vectors.effect s ≡ s
  pub means : VectorsMean set [] vectors

-- what a rule after vectors tells: where these mean a sequence of a valid set's rules and the rule is the set's r, the
-- longer vectors mean that sequence with r after it
abbrev pub ExtendedMeaning : Vectors → Rule → Vectors → Type 0
ExtendedMeaning vectors rule longer =
    (set : RuleSet) (q : Sequence) (r : ℕ) → Valid set → Numbered set.count (q ++ r ∷ []) → rule ≡ rule_at set r
    → VectorsMean set q vectors → VectorsMean set (q ++ r ∷ []) longer
