-- `read_file::rule_list` meets its contract.
-- The invariant: the first k rules stand in the array, and what is left of the text decides the list.
use mathlib.Core.Path.{◌≡◌, refl}
use Prim.Native.Nat.{min}
use native.Mathlib.Omega.{arith}
use Rattle.files_spec.specs.Reading.{rule_list}
use Rattle.reader_laws.proofs.FoundLaws.{passed_on}
use Rattle.reader_laws.proofs.ReadLoopLaws.{rules_list, fill_start, fill_go, fill_stop, fill_end}
use Rattle.read_file.proofs.rule_list.Goals as goal

pub loop-k-init : goal.loop-k-init
unfolding rule_list
loop-k-init c =
    let a = c.args in
    rw c.blank_rule-rules.ensures (fill_start (rules_list a.positions a.sizes) _ c.requires.1 refl)

pub returns-in_err-rule : goal.returns-in_err-rule
returns-in_err-rule c =
    let m : min c.args.positions 16 ≡ c.args.positions = omega arith in
    passed_on _ _
    (fill_stop (rules_list _ _) c.loop-k.invariant c.loop-k-test.true (rw m at c.in_err-rule.ensures))
    c.from_residual.ensures.1

pub loop-k-preserved : goal.loop-k-preserved
loop-k-preserved c =
    let m : min c.args.positions 16 ≡ c.args.positions = omega arith in
    fill_go (rules_list _ _) c.loop-k.invariant _ _ c.loop-k-test.true (rw m at c.in_ok-rule.ensures)

pub returns : goal.returns
returns c = fill_end (rules_list _ _) c.loop-k.invariant c.loop-k-test.false
