-- How the builder looks for a witness. No promise of a call of the library needs this file: the laws in proofs/ equate
-- it with `built_entry`.
use Rattle.std.specs.Prelude.{Bool, cond, ◌&&◌, List, [], ◌∷◌, ℕ, leb}
use Rattle.std.proofs.Math.Option.{Option}
use Rattle.theory_spec.specs.Sequences.{Sequence}
use Rattle.theory_spec.specs.How.Indices.{index_from}
use Rattle.model_spec.specs.Rules.{sequence_cost}
use Rattle.model_spec.specs.declared.RuleSet.{RuleSet}
use Rattle.macros_spec.specs.Composition.{Lines}
use Rattle.macros_spec.specs.Redundancy.{covers}
use Rattle.tables_spec.specs.Table.{kept}

-- the first sequence of a list that passes the test, by the index that it has, in a set of m rules, behind a sequence
-- of index i; 65535 if none passes
abbrev pub first_behind : ℕ → ℕ → (Sequence → Bool) → List Sequence → ℕ
first_behind m i test [] = kept
first_behind m i test (q ∷ later) = cond (test q) (index_from m i q) (first_behind m i test later)

-- a is a witness of a sequence with these vectors and this cost: it costs no more, and there are no vectors, or its
-- rules run in turn on the condition, as on a state of entries, and end in the effect
unfoldable pub serves : RuleSet → Option Lines → ℕ → Sequence → Bool
serves set b cost a = leb (sequence_cost set a) cost && covers set a b
