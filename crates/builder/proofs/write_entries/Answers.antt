-- `builder::write_entries` meets its contract. The invariant: the entries so far, with those still to come, are the
-- built table, and the sets are what the marks so far touch.
use mathlib.Core.Path.{◌≡◌, refl, sym, ap, ◌∙◌}
use mathlib.Core.Bool.{not, cond}
use mathlib.Core.Logic.{◌≢◌}
use borrow.Author.Tests.{eq-eqb, ne_eqb}
use Prim.Native.Nat.{ℕ, ◌+◌, ◌<◌}
use native.Mathlib.Omega.{arith}
use lib.Dec.{eqb}
use Rattle.model_spec.specs.declared.RuleSet.{RuleSet}
use Rattle.macros_spec.specs.Answers.{touched_in}
use Rattle.macros_spec.specs.declared.Touched.{Touched}
use Rattle.tables_spec.specs.Table.{table_entries, sequence_at, kept, built_entry, built_table}
use Rattle.tables_spec.proofs.ReachLaws.{near_entries, near-built}
use Rattle.tables_spec.proofs.TableLaws.{built-entry}
use Rattle.tables_laws.proofs.MarkLaws.{own_touched}
use Rattle.tables_laws.proofs.TableLoopLaws.{entered-start, entered_more, entered_all}
use Rattle.unions_spec.specs.Unions.{table_touched}
use Rattle.unions_spec.specs.How.United.{united, united_to}
use Rattle.unions_spec.proofs.UnionLaws.{united_next, united_all}
use Rattle.builder.proofs.write_entries.Invariants.{marks}
use Rattle.builder.proofs.write_entries.Goals as goal
use Rattle.builder.proofs.write_entries.Goals.{then-entry-ne-KEPT, else-entry-ne-KEPT}

-- ── The unions ───────────────────────────────────────────────────────────────────────────────────

-- with one entry more
module _ (set : RuleSet) (reach i entry : ℕ) (e : entry ≡ built_entry set reach i) (before : Touched)
    (b : before ≡ united_to set reach (marks set reach) i) where
  keeps : entry ≡ kept → before ≡ united_to set reach (marks set reach) (i + 1)
  keeps k =
      let own = touched_in set (sequence_at set reach i) in
      let same : cond (marks set reach i) (united before own) before ≡ before =
      rw (eq-eqb (built_entry set reach i) kept (sym e ∙ k)) in
      sym same ∙ united_next set reach (marks set reach) i before own b refl

  adds : entry ≢ kept → (own : Touched) → own ≡ touched_in set (sequence_at set reach i) → (after : Touched)
      → after ≡ united before own → after ≡ united_to set reach (marks set reach) (i + 1)
  adds m own o after a =
      let more : cond (marks set reach i) (united before own) before ≡ united before own =
      rw (ne_eqb (built_entry set reach i) kept (λ k. m (e ∙ k))) in
      a ∙ sym more ∙ united_next set reach (marks set reach) i before own b o

-- with all of them
all-united : (set : RuleSet) (reach i : ℕ) → i ≡ table_entries set reach
    → united_to set reach (marks set reach) i ≡ table_touched set reach (built_table set reach)
all-united set reach i e =
    ap (united_to set reach (marks set reach)) e
    ∙ united_all set reach (marks set reach) (built_table set reach)
    (λ k h. ap (λ n. not (eqb n kept)) (sym (built-entry set reach k h)))

-- ── The proof ────────────────────────────────────────────────────────────────────────────────────

pub loop-i-init : goal.loop-i-init
unfolding built_table united_to
loop-i-init c =
    let s = c.args in (
      entered-start (built_entry s.set s.reach) (table_entries s.set s.reach) s.table.now,
      refl,
    )

pub entry_for-entry-requires : goal.entry_for-entry-requires
entry_for-entry-requires c =
    let own = c.profile_at-own.ensures in (
      c.requires.0,
      omega (arith, near_entries c.args.set c.args.reach c.requires.1),
      own.0,
      own.1,
    )

pub loop-i-preserved : goal.loop-i-preserved
loop-i-preserved c =
    let l = c.loop-i in
    let s = c.args in
    let h : l.i < table_entries s.set s.reach = omega arith in
    let entry = c.entry_for-entry in
    let e = entry.ensures.0 ∙ near-built s.set s.reach c.requires.1 l.i h in (
      entered_more (built_entry s.set s.reach) (table_entries s.set s.reach) l.i entry.result l.table
          h (omega arith) e
          ∙ l.invariant.0,
      elim c.if-entry-ne-KEPT.branch [
        | then-entry-ne-KEPT w ↦
            w.touched-is
            ∙ adds s.set s.reach l.i entry.result e l.touched l.invariant.1 w.if-entry-ne-KEPT.true _
            (own_touched s.set c.requires.0 s.reach c.requires.1 l.i h c.profile_at-own.result.vectors
            c.profile_at-own.ensures.0 _ c.wide_positions-wide.ensures)
            _ w.with_mark-touched.ensures
        | else-entry-ne-KEPT w ↦
            w.touched-is
            ∙ keeps s.set s.reach l.i entry.result e l.touched l.invariant.1 w.if-entry-ne-KEPT.false
      ],
    )

pub returns : goal.returns
returns c =
    let l = c.loop-i in
    let s = c.args in (
      sym (entered_all (built_entry s.set s.reach) (table_entries s.set s.reach) l.i l.table
          (omega arith) (omega arith))
          ∙ l.invariant.0,
      l.invariant.1 ∙ all-united s.set s.reach l.i (omega arith),
    )
