-- `table_output::count_marks` meets its contract: the indices that the chain keeps are the marks.
use mathlib.Core.Path.{refl, ap, ◌∙◌}
use Prim.Native.Nat.{◌/◌}
use native.Mathlib.Omega.{arith}
use lib.ListN.{length}
use borrow.Author.Rules.{rules}
use Rattle.std.proofs.Common.{tests}
use Rattle.std.proofs.lemmas.Iterator.{YieldsList-from_range}
use Rattle.std.proofs.lemmas.Iterator.Consumers.{YieldsList-at, YieldsList-from_filter, count_from_yields_List}
use Rattle.report_laws.specs.How.Marks.{marks}
use Rattle.report_laws.proofs.MarkLoopLaws.{marks-filtered}
use Rattle.table_output.proofs.count_marks.Goals as goal

pub returns : goal.returns
returns c =
    let table = c.args.table.now in
    let entries = length table / 2 in
    count_from_yields_List c.filter.result _ c.count.ensures.ran
    (YieldsList-from_filter _ (marks table)
    (YieldsList-at c.filter.ensures.source (YieldsList-from_range 0 entries entries refl (omega arith)))
    c.filter.ensures.closure (λ x r q k. search (rules, tests)))
    ∙ ap length (marks-filtered table)
