-- `builder::build` meets its contract: each way out has the outcome of its cause.
use mathlib.Core.Path.{sym, ◌∙◌}
use lib.ListN.{length}
use Rattle.theory_spec.proofs.ListLaws.{not-both}
use Rattle.model_spec.proofs.ValidityLaws.{valid_iff}
use Rattle.tables_spec.proofs.AnswerLaws.{build-judged, build_meaning}
use Rattle.refusals_spec.proofs.NumberLaws.{passed-on}
use Rattle.builder.proofs.build.Goals as goal

pub returns-then-not-is_valid-clause-outcome : goal.returns-then-not-is_valid-clause-outcome
returns-then-not-is_valid-clause-outcome c =
    let s = c.args in
    let invalid = sym c.is_valid.ensures.0 ∙ c.if-not-is_valid.true in
    sym ((build_meaning s.set s.reach (length s.table.now)).not_valid.1 (λ v. not-both ((valid_iff s.set).1 v) invalid))

pub returns-in_err-shape_refusal-clause-outcome : goal.returns-in_err-shape_refusal-clause-outcome
returns-in_err-shape_refusal-clause-outcome c =
    let s = c.args in
    passed-on c.from_residual.result c.in_err-shape_refusal.field-0.0 c.from_residual.ensures.1
    ∙ c.in_err-shape_refusal.ensures
    ∙ sym (build-judged s.set s.reach (length s.table.now) (sym c.is_valid.ensures.0 ∙ c.if-not-is_valid.false)).0

pub returns-clause-outcome : goal.returns-clause-outcome
returns-clause-outcome c =
    let s = c.args in
    c.in_ok-shape_refusal.ensures
    ∙ sym (build-judged s.set s.reach (length s.table.now) (sym c.is_valid.ensures.0 ∙ c.if-not-is_valid.false)).0
