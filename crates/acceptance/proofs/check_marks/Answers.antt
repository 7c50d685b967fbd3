-- `acceptance::check_marks` meets its contract. The invariant: whether the entries left are justified decides it all.
use mathlib.Core.Path.{◌≡◌, sym, ap, ◌∙◌}
use mathlib.Core.Bool.{cond}
use mathlib.Core.List.{List}
use Prim.Native.Nat.{ℕ, ◌-◌, ◌<◌}
use native.Mathlib.Omega.{arith}
use Rattle.theory_spec.specs.Lists.{every, numbers_from}
use Rattle.model_spec.specs.declared.RuleSet.{RuleSet}
use Rattle.model_spec.proofs.LoopLaws.{every_go, every_stop, every-end}
use Rattle.tables_spec.specs.Table.{table_entries, entry_justified, accepted}
use Rattle.tables_spec.proofs.ReachLaws.{near_entries, near-justified}
use Rattle.tables_spec.proofs.TableLaws.{accepted_entries}
use Rattle.refusals_spec.proofs.NumberLaws.{passed-on}
use Rattle.tables_laws.proofs.OutcomeLaws.{mark-refused, mark-passed}
use Rattle.acceptance.proofs.check_marks.Goals as goal

-- all entries are left at first
whole : (set : RuleSet) (reach : ℕ) (table : List ℕ)
    → every (entry_justified set reach table) (numbers_from 0 (table_entries set reach - 0)) ≡ accepted set reach table
whole set reach table =
    let e : table_entries set reach - 0 ≡ table_entries set reach = omega arith in
    rw e (sym (accepted_entries set reach table))

pub loop-i-init : goal.loop-i-init
loop-i-init c = let a = c.args in whole a.set a.reach a.table.now

pub returns-in_err-mark_at : goal.returns-in_err-mark_at
returns-in_err-mark_at c =
    let a = c.args in
    let h : c.loop-i.i < table_entries a.set a.reach = omega arith in
    let refusal = c.in_err-mark_at.field-0.0 in
    let told = c.in_err-mark_at.ensures.outcome c.requires.0
    (omega (arith, near_entries a.set a.reach c.requires.1)) in
    let not_this = mark-refused refusal _ told in
    passed-on c.from_residual.result refusal c.from_residual.ensures.1
    ∙ told
    ∙ ap (λ b. cond b 0 14) (not_this
    ∙ every_stop (entry_justified a.set a.reach a.table.now) c.loop-i.i (table_entries a.set a.reach) _
    c.loop-i.invariant h (sym (near-justified a.set a.reach c.requires.1 a.table.now c.loop-i.i h) ∙ not_this))

pub loop-i-preserved : goal.loop-i-preserved
loop-i-preserved c =
    let a = c.args in
    let h : c.loop-i.i < table_entries a.set a.reach = omega arith in
    let told = c.in_ok-mark_at.ensures.outcome c.requires.0
    (omega (arith, near_entries a.set a.reach c.requires.1)) in
    every_go (entry_justified a.set a.reach a.table.now) c.loop-i.i (table_entries a.set a.reach) _
    c.loop-i.invariant h
    (sym (near-justified a.set a.reach c.requires.1 a.table.now c.loop-i.i h) ∙ mark-passed _ told)

pub returns : goal.returns
returns c =
    let a = c.args in
    rw (← every-end (entry_justified a.set a.reach a.table.now) c.loop-i.i (table_entries a.set a.reach) _
    c.loop-i.invariant (omega arith))
