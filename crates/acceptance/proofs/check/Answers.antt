-- `acceptance::check` meets its contract: each way out has the outcome of its cause.
use mathlib.Core.Path.{sym, ◌∙◌}
use Rattle.refusals_spec.proofs.NumberLaws.{number_positive, passed-on}
use Rattle.tables_laws.proofs.OutcomeLaws.{check-invalid, check-misfit, check-decided}
use Rattle.acceptance.proofs.check.Goals as goal

pub returns-then-not-is_valid : goal.returns-then-not-is_valid
returns-then-not-is_valid c =
    let s = c.args in
    check-invalid s.set s.reach s.table.now (sym c.is_valid.ensures.0 ∙ c.if-not-is_valid.true)

pub returns-in_err-shape_refusal : goal.returns-in_err-shape_refusal
returns-in_err-shape_refusal c =
    let s = c.args in
    let refusal = c.in_err-shape_refusal.field-0.0 in
    passed-on c.from_residual.result refusal c.from_residual.ensures.1
    ∙ check-misfit s.set s.reach s.table.now (sym c.is_valid.ensures.0 ∙ c.if-not-is_valid.false) _
    (number_positive refusal) c.in_err-shape_refusal.ensures

pub returns : goal.returns
returns c =
    let s = c.args in
    check-decided s.set s.reach s.table.now (sym c.is_valid.ensures.0 ∙ c.if-not-is_valid.false) _
    c.in_ok-shape_refusal.ensures c.check_marks.ensures
