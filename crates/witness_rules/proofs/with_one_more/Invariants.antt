-- `witness_rules::with_one_more` meets its contract. The invariant: what is found from place k of the rules on is what
-- is found of all.
use mathlib.Core.Path.{◌≡◌}
use mathlib.Core.Option.{Option, some}
use Rattle.theory_spec.specs.Sequences.{level}
use Rattle.macros_spec.specs.Composition.{Lines}
use Rattle.tables_laws.specs.How.Searches.{find_witness}
use Rattle.tables_laws.proofs.WitnessLaws.{from_rule}
use Rattle.witness_rules.proofs.with_one_more.Given as goal

abbrev pub invariant-loop-k : goal.invariant-loop-k
invariant-loop-k l =
    let lines : Option Lines = some (record { condition = l.entries; effect = l.target }) in
    from_rule l.set l.entries l.target l.left l.index 0 l.k
    ≡ find_witness l.set l.index lines l.left (level l.set.count 1)
