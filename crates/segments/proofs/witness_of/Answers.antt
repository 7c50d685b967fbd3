-- `segments::witness_of` meets its contract: the rules that it lends are the sequence that the entry names.
use mathlib.Core.Path.{ap, ◌∙◌}
use Prim.Native.Nat.{◌≤◌, ◌-◌}
use native.Mathlib.Omega.{arith}
use lib.ListN.{length, take, drop, length-drop}
use lib.Seq.{take_all}
use Rattle.theory_spec.specs.Lists.{padded}
use Rattle.tables_spec.specs.Table.{entry_at}
use Rattle.tables_laws.specs.How.ShortSequences.{short_sequence}
use Rattle.segments.proofs.witness_of.Goals as goal

pub returns : goal.returns
returns c =
    let s = c.args in
    let at = c.sequence_at-witness in
    let entry = c.entry_at.ensures.0 ∙ ap (entry_at s.table.now) c.index_of-index.ensures in
    let rules = drop at.result.start at.result.rules in
    let lent = take_all (length at.result.rules - at.result.start) rules
    (omega (arith, length-drop at.result.start at.result.rules)) in
    let short : length rules ≤ 3 = omega (arith, length-drop at.result.start at.result.rules) in
    let whole = ap (take 3) lent ∙ take_all 3 rules short ∙ at.ensures.1 ∙ ap (short_sequence s.count) entry in
    (c.three_of.ensures.0 ∙ ap length whole, c.three_of.ensures.1 ∙ ap (padded 3 0) whole)
