-- `witnesses::with_more` meets its contract, by a measure: each call of itself has one rule less to come.
-- The invariant: the first witness that begins with the rule at place k or a later one is the first of all.
use mathlib.Core.Path.{◌≡◌}
use mathlib.Core.Option.{Option, some}
use Prim.Native.Nat.{◌-◌}
use Rattle.theory_spec.specs.Sequences.{level}
use Rattle.macros_spec.specs.Composition.{Lines}
use Rattle.tables_laws.specs.How.Witnesses.{serves}
use Rattle.tables_laws.specs.How.Searches.{find_behind}
use Rattle.tables_laws.proofs.WitnessLaws.{from_rule}
use Rattle.witnesses.proofs.+with_more.Given as goal

-- the measure: how many rules are to come
abbrev pub decreases-with_more : goal.decreases-with_more
decreases-with_more l = l.more

abbrev pub invariant-loop-k : goal.invariant-loop-k
invariant-loop-k l =
    let lines : Option Lines = some (record { condition = l.entries; effect = l.target }) in
    from_rule l.set l.entries l.target l.left l.index (l.more - 1) l.k
    ≡ find_behind l.set.count l.index (serves l.set lines l.left) (level l.set.count l.more)
