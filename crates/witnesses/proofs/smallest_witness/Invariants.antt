-- `witnesses::smallest_witness` meets its contract. The invariant: no sequence of fewer than `more` rules is a witness.
use mathlib.Core.Path.{◌≡◌}
use mathlib.Core.Option.{Option, some}
use Prim.Native.Nat.{◌-◌}
use Rattle.macros_spec.specs.Composition.{Lines}
use Rattle.std.specs.Prelude.{None}
use Rattle.tables_laws.specs.How.Witnesses.{serves}
use Rattle.tables_laws.proofs.WitnessLaws.{up_to}
use Rattle.witnesses.proofs.smallest_witness.Given as goal

abbrev pub invariant-loop-more : goal.invariant-loop-more
invariant-loop-more l =
    let lines : Option Lines = some (record { condition = l.fn.sequence.condition; effect = l.fn.sequence.effect }) in
    up_to l.set.count (serves l.set lines l.cost) (l.more - 1) ≡ None
