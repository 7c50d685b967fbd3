-- `rule_output::put_rule` meets its contract: the rule's text is the pieces that are laid, one after the other.
use mathlib.Core.Path.{◌≡◌}
use mathlib.Core.List.{[], ◌∷◌, ◌++◌}
use Prim.Native.Nat.{ℕ, ◌≤◌}
use native.Mathlib.Omega.{arith}
use Rattle.model_spec.specs.declared.Rule.{Rule}
use Rattle.files_spec.specs.Text.{bytes, line_feed, line}
use Rattle.files_spec.specs.File.{entry_text, rule_text}
use Rattle.output_laws.specs.How.Overlay.{shown_numeral, list_text}
use Rattle.output_laws.proofs.OverlayLaws.{shown-number}
use Rattle.output_laws.proofs.PageLaws.{page-append}
use Rattle.output_laws.proofs.WriteLoopLaws.{list-line}
use Rattle.rule_output.proofs.put_rule.Goals as goal

-- the pieces of a rule's lines, as they are laid
pieces : (positions : ℕ) (rule : Rule) → rule.cost ≤ 255 → rule_text positions rule
    ≡ bytes "cost=" ++ shown_numeral rule.cost ++ (line_feed ∷ [])
    ++ (bytes "if=" ++ list_text entry_text positions rule.condition)
    ++ (bytes "then=" ++ list_text entry_text positions rule.effect)
unfolding rule_text line
pieces positions rule byte =
    rw (
      list-line entry_text "if=" positions rule.condition,
      list-line entry_text "then=" positions rule.effect,
      shown-number rule.cost (omega arith),
    )

pub returns : goal.returns
returns c =
    let rule = c.args.rule in
    let byte : rule.cost ≤ 255 = omega arith in
    rw (pieces c.args.positions rule byte)
    (page-append
    (page-append c.put_number_line.ensures c.put_entries_line.ensures)
    c.put_entries_line-2.ensures)
