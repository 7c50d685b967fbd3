-- `checker::check_marks` meets its contract. The invariant: whether the entries left are justified decides the whole,
-- and the sets are what the marks so far touch.
use mathlib.Core.Path.{◌≡◌, refl, sym, ap, ◌∙◌, subst}
use mathlib.Core.Logic.{◌≢◌}
use mathlib.Core.Bool.{cond}
use mathlib.Core.List.{List}
use Prim.Native.Nat.{ℕ, ◌+◌, ◌-◌, ◌<◌}
use native.Mathlib.Omega.{arith}
use borrow.Author.Tests.{eq-eqb, ne_eqb}
use Rattle.std.specs.Prelude.{Option, Some, None, MatchOption}
use Rattle.theory_spec.specs.Lists.{every, numbers_from}
use Rattle.model_spec.specs.declared.RuleSet.{RuleSet}
use Rattle.model_spec.proofs.LoopLaws.{every_go, every_stop}
use Rattle.macros_spec.specs.Answers.{touched_in}
use Rattle.macros_spec.specs.declared.Touched.{Touched}
use Rattle.macros_spec.specs.declared.Vectors.{Vectors}
use Rattle.tables_spec.specs.Table.{table_entries, sequence_at, kept, entry_at, entry_justified, accepted}
use Rattle.tables_spec.proofs.ReachLaws.{near_entries, near-justified}
use Rattle.tables_spec.proofs.TableLaws.{accepted_entries}
use Rattle.tables_laws.proofs.MarkLaws.{own_touched}
use Rattle.refusals_spec.proofs.NumberLaws.{passed-on}
use Rattle.tables_laws.proofs.OutcomeLaws.{mark-refused, mark-passed}
use Rattle.unions_spec.specs.How.United.{united, united_to}
use Rattle.unions_spec.proofs.UnionLaws.{united_next, united_all}
use Rattle.checker.proofs.check_marks.Invariants.{marks}
use Rattle.checker.proofs.check_marks.Goals as goal
use Rattle.checker.proofs.check_marks.Goals.{in-Some, in_default}

-- all entries are left at first
whole : (set : RuleSet) (reach : ℕ) (table : List ℕ)
    → every (entry_justified set reach table) (numbers_from 0 (table_entries set reach - 0)) ≡ accepted set reach table
whole set reach table =
    let e : table_entries set reach - 0 ≡ table_entries set reach = omega arith in
    rw e (sym (accepted_entries set reach table))

-- what is told of an entry that marks its sequence, and of one that keeps it
module _ (entry : ℕ) (own : Vectors) where
  abbrev Told : Option Vectors → Type 0
  Told mark = MatchOption mark (entry ≡ kept) (λ vectors. (entry ≢ kept) × (vectors ≡ own))

  of-some : (mark : Option Vectors) (vectors : Vectors) → mark ≡ Some vectors → Told mark
      → (entry ≢ kept) × (vectors ≡ own)
  of-some mark vectors e told = subst Told e told

  of-none : (mark : Option Vectors) → mark ≡ None → Told mark → entry ≡ kept
  of-none mark e told = subst Told e told

-- the unions with one entry more
module _ (set : RuleSet) (reach : ℕ) (table : List ℕ) (i : ℕ) (before : Touched)
    (b : before ≡ united_to set reach (marks table) i) where
  keeps : entry_at table i ≡ kept → before ≡ united_to set reach (marks table) (i + 1)
  keeps k =
      let own = touched_in set (sequence_at set reach i) in
      let same : cond (marks table i) (united before own) before ≡ before = rw (eq-eqb (entry_at table i) kept k) in
      sym same ∙ united_next set reach (marks table) i before own b refl

  adds : entry_at table i ≢ kept → (own : Touched) → own ≡ touched_in set (sequence_at set reach i) → (after : Touched)
      → after ≡ united before own → after ≡ united_to set reach (marks table) (i + 1)
  adds m own o after a =
      let more : cond (marks table i) (united before own) before ≡ united before own =
      rw (ne_eqb (entry_at table i) kept m) in
      a ∙ sym more ∙ united_next set reach (marks table) i before own b o

pub loop-i-init : goal.loop-i-init
unfolding united_to
loop-i-init c = let a = c.args in (whole a.set a.reach a.table.now, refl)

pub returns-in_err-vectors-clause-outcome : goal.returns-in_err-vectors-clause-outcome
returns-in_err-vectors-clause-outcome c =
    let a = c.args in
    let h : c.loop-i.i < table_entries a.set a.reach = omega arith in
    let refusal = c.in_err-vectors.field-0.0 in
    let told = c.in_err-vectors.ensures.outcome c.requires.0
    (omega (arith, near_entries a.set a.reach c.requires.1)) in
    let not_this = mark-refused refusal _ told in
    passed-on c.from_residual.result refusal c.from_residual.ensures.1
    ∙ told
    ∙ ap (λ b. cond b 0 14) (not_this
    ∙ every_stop (entry_justified a.set a.reach a.table.now) c.loop-i.i (table_entries a.set a.reach) _
    c.loop-i.invariant.0 h (sym (near-justified a.set a.reach c.requires.1 a.table.now c.loop-i.i h) ∙ not_this))

pub loop-i-preserved : goal.loop-i-preserved
loop-i-preserved c =
    let a = c.args in
    let l = c.loop-i in
    let h : l.i < table_entries a.set a.reach = omega arith in
    let told = c.in_ok-vectors.ensures.outcome c.requires.0
    (omega (arith, near_entries a.set a.reach c.requires.1)) in (
      every_go (entry_justified a.set a.reach a.table.now) l.i (table_entries a.set a.reach) _ l.invariant.0 h
          (sym (near-justified a.set a.reach c.requires.1 a.table.now l.i h) ∙ mark-passed _ told),
      elim c.match-branch-2.branch [
        | in-Some w ↦
            let marked = of-some _ _ c.in_ok-vectors.field-0 w.in-Some.vectors w.in-Some.is c.in_ok-vectors.ensures.mark in
            w.touched-is
            ∙ adds a.set a.reach a.table.now l.i l.touched l.invariant.1 marked.0 _
            (own_touched a.set c.requires.0 a.reach c.requires.1 l.i h w.in-Some.vectors marked.1 _
            c.wide_positions-wide.ensures)
            _ w.with_mark-touched.ensures
        | in_default w ↦
            w.touched-is
            ∙ keeps a.set a.reach a.table.now l.i l.touched l.invariant.1
            (of-none _ _ c.in_ok-vectors.field-0 w.in_default.is c.in_ok-vectors.ensures.mark)
      ],
    )

pub returns-clause-touched : goal.returns-clause-touched
returns-clause-touched c =
    let a = c.args in
    let e : c.loop-i.i ≡ table_entries a.set a.reach = omega arith in
    c.loop-i.invariant.1
    ∙ ap (united_to a.set a.reach (marks a.table.now)) e
    ∙ united_all a.set a.reach (marks a.table.now) a.table.now (λ k h. refl)
