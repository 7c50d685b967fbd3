-- `tally::tallied` meets its contract: the outcome tells which count is raised.
use mathlib.Core.Path.{◌≡◌, sym, subst}
use mathlib.Core.Logic.{inl, inr}
use mathlib.Core.Bool.{false}
use Prim.Native.Nat.{ℕ}
use native.Mathlib.Omega.{arith}
use lib.Dec.{eqb}
use borrow.Author.Tests.{ne_eqb}
use Rattle.search_spec.specs.Tallies.{tallied_of, TallyMeaning}
use Rattle.search_spec.specs.declared.Tally.{Tally}
use Rattle.search_spec.proofs.TallyLaws.{tally_meaning}
use Rattle.tally.proofs.tallied.Goals as goal

-- the meaning follows from the equation
told : (tally : Tally) (outcome steps : ℕ) (r : Tally) → r ≡ tallied_of tally outcome steps
    → (r ≡ tallied_of tally outcome steps) × TallyMeaning outcome steps tally r
told tally outcome steps r e = (e, subst (TallyMeaning outcome steps tally) (sym e) (tally_meaning tally outcome steps))

pub returns-in-0 : goal.returns-in-0
unfolding tallied_of
returns-in-0 c =
    let a = c.args in
    told a.tally a.outcome a.steps _
    (simp (c.in-0.is, c.raised.ensures, c.raised-in-0.ensures, c.from.ensures))

pub returns-in-15 : goal.returns-in-15
unfolding tallied_of
returns-in-15 c =
    let a = c.args in
    told a.tally a.outcome a.steps _
    (simp (c.in-15.is, c.raised.ensures, c.raised-in-15.ensures, c.from.ensures))

pub returns-in-16 : goal.returns-in-16
unfolding tallied_of
returns-in-16 c =
    let a = c.args in
    told a.tally a.outcome a.steps _
    (elim c.in-16.is [
      | inl e ↦ simp (e, c.raised.ensures, c.raised-in-16.ensures, c.from.ensures)
      | inr e ↦ simp (e, c.raised.ensures, c.raised-in-16.ensures, c.from.ensures)
    ])

pub returns-in_default : goal.returns-in_default
unfolding tallied_of
returns-in_default c =
    let a = c.args in
    let tests : (eqb a.outcome 0 ≡ false) × (eqb a.outcome 15 ≡ false) × (eqb a.outcome 16 ≡ false)
    × (eqb a.outcome 18 ≡ false) = (
      ne_eqb a.outcome 0 (λ e. omega arith),
      ne_eqb a.outcome 15 (λ e. omega arith),
      ne_eqb a.outcome 16 (λ e. grind arith),
      ne_eqb a.outcome 18 (λ e. grind arith),
    ) in
    told a.tally a.outcome a.steps _
    (simp (
      tests.0,
      tests.1,
      tests.2,
      tests.3,
      c.raised.ensures,
      c.raised-in_default.ensures,
      c.from.ensures,
    ))
