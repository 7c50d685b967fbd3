-- `text_macros::fitted` meets its contract, by the tests on the way.
use mathlib.Core.Path.{sym}
use native.Mathlib.Omega.{arith}
use Rattle.planner_spec.proofs.TextMacroLaws.{fitted-refused, fitted_short, fitted-whole}
use Rattle.text_macros.proofs.fitted.Goals as goal

pub returns-then-room-ge-MACRO_SIZE : goal.returns-then-room-ge-MACRO_SIZE
returns-then-room-ge-MACRO_SIZE c =
    let s = c.args in
    sym (fitted-whole s.outcome s.room (omega (arith, c.if-room-ge-MACRO_SIZE.true)))

pub returns-then-outcome-eq0 : goal.returns-then-outcome-eq0
returns-then-outcome-eq0 c =
    let s = c.args in
    sym (fitted_short s.outcome s.room c.if-outcome-eq0.true (omega (arith, c.if-room-ge-MACRO_SIZE.false)))

pub returns : goal.returns
returns c =
    let s = c.args in
    sym (fitted-refused s.outcome s.room c.if-outcome-eq0.false)
