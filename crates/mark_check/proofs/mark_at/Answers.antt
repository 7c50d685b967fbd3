-- `mark_check::mark_at` meets its contract: each way out tells whether the entry is justified.
use mathlib.Core.Path.{sym, ◌∙◌}
use native.Mathlib.Omega.{arith}
use Rattle.tables_laws.proofs.MarkLaws.{mark_tested, kept-justified}
use Rattle.mark_check.proofs.mark_at.Goals as goal

pub returns-then-entry-eq-KEPT-clause-outcome : goal.returns-then-entry-eq-KEPT-clause-outcome
returns-then-entry-eq-KEPT-clause-outcome c valid h =
    let s = c.args in
    sym (rw (kept-justified s.set 3 s.table.now s.index (sym c.entry_at-entry.ensures.0 ∙ c.if-entry-eq-KEPT.true)))

pub returns-then-not-witness_serves-clause-outcome : goal.returns-then-not-witness_serves-clause-outcome
returns-then-not-witness_serves-clause-outcome c valid h =
    let s = c.args in
    let tested =
    mark_tested s.set valid 3 (omega arith) s.index h c.profile_at-own.result.vectors c.profile_at-own.ensures.0
    s.table.now c.entry_at-entry.result c.entry_at-entry.ensures.0 c.if-entry-eq-KEPT.false
    c.profile_at-own.result.cost c.profile_at-own.ensures.1 _ c.witness_serves.ensures in
    sym (rw (sym tested ∙ c.if-not-witness_serves.true))

pub returns-clause-outcome : goal.returns-clause-outcome
returns-clause-outcome c valid h =
    let s = c.args in
    let tested =
    mark_tested s.set valid 3 (omega arith) s.index h c.profile_at-own.result.vectors c.profile_at-own.ensures.0
    s.table.now c.entry_at-entry.result c.entry_at-entry.ensures.0 c.if-entry-eq-KEPT.false
    c.profile_at-own.result.cost c.profile_at-own.ensures.1 _ c.witness_serves.ensures in
    sym (rw (sym tested ∙ c.if-not-witness_serves.false))
