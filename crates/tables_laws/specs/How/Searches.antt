-- What the builder's search for a witness gives: the first that serves, by its index, or none.
use Rattle.std.specs.Prelude.{Bool, cond, List, [], ◌∷◌, ℕ, leb, Option, None, Some}
use Rattle.std.proofs.Math.Option as Math
use Rattle.theory_spec.specs.Sequences.{Sequence}
use Rattle.theory_spec.specs.How.Indices.{index_from}
use Rattle.model_spec.specs.Limits.{max_rules}
use Rattle.model_spec.specs.declared.RuleSet.{RuleSet}
use Rattle.macros_spec.specs.Composition.{Lines}
use Rattle.tables_laws.specs.How.Witnesses.{serves}

-- the first sequence of a list that passes the test, by the index that it has, in a set of m rules, behind a sequence
-- of index i
abbrev pub find_behind : ℕ → ℕ → (Sequence → Bool) → List Sequence → Option ℕ
find_behind m i test [] = None
find_behind m i test (q ∷ later) = cond (test q) (Some (index_from m i q)) (find_behind m i test later)

-- the first witness of a sequence with these vectors and this cost, among sequences behind one of index i, by its
-- index. A set of more than 31 rules is not searched
unfoldable pub find_witness : RuleSet → ℕ → Math.Option Lines → ℕ → List Sequence → Option ℕ
find_witness set i b cost among =
    cond (leb set.count max_rules) (find_behind set.count i (serves set b cost) among) None
