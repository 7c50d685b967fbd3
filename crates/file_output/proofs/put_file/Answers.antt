-- `file_output::put_file` meets its contract: the file is the pieces that are laid, one after the other.
use mathlib.Core.Path.{◌≡◌}
use mathlib.Core.List.{[], ◌∷◌, ◌++◌}
use Prim.Native.Nat.{◌≤◌}
use native.Mathlib.Omega.{arith}
use lib.ListN.{take}
use Rattle.theory_spec.specs.Lists.{flat}
use Rattle.model_spec.specs.declared.RuleSet.{RuleSet}
use Rattle.files_spec.specs.Text.{bytes, line_feed, numeral, line}
use Rattle.files_spec.specs.File.{rule_text, render}
use Rattle.output_laws.specs.How.Overlay.{shown_numeral, list_text}
use Rattle.output_laws.proofs.OverlayLaws.{shown-number}
use Rattle.output_laws.proofs.PageLaws.{page-append}
use Rattle.output_laws.proofs.WriteLoopLaws.{list-line}
use Rattle.file_output.proofs.put_file.Goals as goal

-- the pieces of the file, as they are laid
pieces : (set : RuleSet) → set.positions ≤ 255 → set.count ≤ 255 → render set
    ≡ bytes "positions=" ++ shown_numeral set.positions ++ (line_feed ∷ [])
    ++ (bytes "sizes=" ++ list_text numeral set.positions set.sizes)
    ++ (bytes "rules=" ++ shown_numeral set.count ++ (line_feed ∷ []))
    ++ flat (rule_text set.positions) (take set.count set.rules)
unfolding render line
pieces set positions count =
    rw (
      list-line numeral "sizes=" set.positions set.sizes,
      shown-number set.positions (omega arith),
      shown-number set.count (omega arith),
    )

pub returns : goal.returns
returns c =
    let set = c.args.set in
    let positions : set.positions ≤ 255 = omega arith in
    let count : set.count ≤ 255 = omega arith in
    rw (pieces set positions count)
    (page-append
    (page-append
    (page-append c.put_number_line.ensures
    (page-append c.put_word.ensures c.put_numbers.ensures))
    c.put_number_line-2.ensures)
    c.put_rules.ensures)
