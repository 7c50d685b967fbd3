-- `segments::is_marked` meets its contract: a sequence longer than the reach is not in the table, of any other the
-- entry at its index tells.
use mathlib.Core.Path.{sym, ap, ◌∙◌}
use mathlib.Core.Bool.{not}
use native.Mathlib.Omega.{arith}
use lib.Dec.{eqb}
use lib.ListN.{length}
use lib.Seq.{take_all}
use borrow.Author.Tests.{lt-leb}
use Rattle.theory_spec.specs.How.Indices.{index_of}
use Rattle.tables_spec.specs.Table.{kept, entry_at}
use Rattle.explain_laws.proofs.SegmentLoopLaws.{long_fails, short_passes}
use Rattle.segments.proofs.is_marked.Goals as goal

pub returns-then-sequence-min : goal.returns-then-sequence-min
returns-then-sequence-min c =
    let s = c.args in
    let b = s.sequence.now in
    let bound = c.min.ensures in
    let whole = take_all 3 b (omega arith) in
    let index = c.index_of.ensures ∙ ap (index_of s.count) whole in
    ap (λ e. not (eqb e kept)) (c.entry_at.ensures.0 ∙ ap (entry_at s.table.now) index)
    ∙ sym (short_passes s.count s.reach s.table.now b (omega arith))

pub returns-else-sequence-min : goal.returns-else-sequence-min
returns-else-sequence-min c =
    let s = c.args in
    let bound = c.min.ensures in
    lt-leb (length s.sequence.now) _ (omega arith)
    ∙ sym (long_fails s.count s.reach s.table.now s.sequence.now (omega arith))
