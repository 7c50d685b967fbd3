-- `table_output::put_table` meets its contract: the listing is the pieces that are laid, one after the other.
use mathlib.Core.Path.{◌≡◌}
use mathlib.Core.List.{List, [], ◌∷◌, ◌++◌}
use Prim.Native.Nat.{ℕ, ◌≤◌}
use native.Mathlib.Omega.{arith}
use lib.ListN.{length}
use Rattle.model_spec.specs.declared.RuleSet.{RuleSet}
use Rattle.files_spec.specs.Text.{bytes, line_feed, line}
use Rattle.output_laws.specs.How.Overlay.{shown_numeral}
use Rattle.output_laws.proofs.OverlayLaws.{shown-number}
use Rattle.output_laws.proofs.PageLaws.{page-append}
use Rattle.report_laws.specs.How.Marks.{table_marks, marks_text, table_text}
use Rattle.table_output.proofs.put_table.Goals as goal

-- the pieces of the listing, as they are laid
pieces : (set : RuleSet) (table : List ℕ) (number : ℕ) → set.count ≤ 255 → number ≡ length (table_marks table)
    → table_text set table
    ≡ bytes "reach=" ++ shown_numeral 2 ++ (line_feed ∷ [])
    ++ (bytes "rules=" ++ shown_numeral set.count ++ (line_feed ∷ []))
    ++ (bytes "marks=" ++ shown_numeral number ++ (line_feed ∷ []))
    ++ marks_text set table
unfolding table_text line
pieces set table number byte e = rw (shown-number set.count (omega arith), e)

pub returns : goal.returns
returns c =
    let byte : c.args.set.count ≤ 255 = omega arith in
    let found = c.count_marks in
    rw (pieces c.args.set c.args.table.now found.result byte found.ensures)
    (page-append
    (page-append
    (page-append c.put_number_line.ensures c.put_number_line-2.ensures)
    c.put_number_line-3.ensures)
    c.put_marks.ensures)
