-- `file_output::put_rules` meets its contract. The invariant: the lines of the rules from the index on remain.
use mathlib.Core.Path.{◌≡◌, sym, ap, ◌∙◌}
use Prim.Native.Nat.{min}
use native.Mathlib.Omega.{arith}
use lib.ListN.{length, take}
use Rattle.theory_spec.specs.Lists.{flat}
use Rattle.files_spec.specs.File.{rule_text}
use Rattle.output_laws.proofs.PageLaws.{page_all, page-rest, page-done}
use Rattle.output_laws.proofs.WriteLoopLaws.{take-least, items_more, items_end}
use Rattle.model_spec.specs.Rules.{no_rule}
use Rattle.file_output.proofs.put_rules.Goals as goal

pub loop-rule-init : goal.loop-rule-init
loop-rule-init c = page_all _ _ _

pub loop-rule-preserved : goal.loop-rule-preserved
loop-rule-preserved c =
    let l = c.loop-rule in
    let set = c.args.set in
    let more = items_more (take c.min-count.result set.rules) (rule_text set.positions) l.rule-index no_rule
    c.loop-rule-test.true in
    page-rest l.invariant _ _ more c.put_rule.ensures

pub returns : goal.returns
returns c =
    let l = c.loop-rule in
    let set = c.args.set in
    let shown = take c.min-count.result set.rules in
    let long : length set.rules ≡ 31 = omega arith in
    let least : c.min-count.result ≡ min set.count (length set.rules) = omega arith in
    let all : shown ≡ take set.count set.rules = ap (λ n. take n set.rules) least ∙ take-least set.rules set.count in
    rw (sym (ap (flat (rule_text set.positions)) all))
    (page-done l.invariant (items_end shown (rule_text set.positions) l.rule-index c.loop-rule-test.false))
