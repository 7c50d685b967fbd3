-- `placement::effect_placed` meets its contract: each return by the tests on the way to it.
use mathlib.Core.Path.{◌≡◌}
use mathlib.Core.Logic.{◌≢◌}
use mathlib.Core.Bool.{false}
use mathlib.Core.List.{List}
use Prim.Native.Nat.{ℕ, ◌-◌, ◌≤◌, ◌<◌}
use native.Mathlib.Omega.{arith}
use lib.Dec.{eqb}
use lib.ListN.{get_or}
use borrow.Author.Tests.{lt-ltb, le-ltb, eq-eqb, ne_eqb}
use Rattle.model_spec.specs.States.{width}
use Rattle.model_spec.specs.Validity.{effect_placed}
use Rattle.placement.proofs.effect_placed.Goals as goal

-- a variable, by the width y at place i
module _ (positions : ℕ) (sizes condition : List ℕ) (i e y : ℕ) (variable : 16 ≤ e)
    (there : y ≡ width positions sizes i) where
  single-value : y < 2 → false ≡ effect_placed positions sizes condition i e
  unfolding effect_placed
  single-value few = rw (le-ltb e 16 variable, ← there, le-ltb 1 y (omega arith))

  -- by the width x at its own place too, and the entry z at its own place of the condition
  module _ (x : ℕ) (many : 2 ≤ y) (own : x ≡ width positions sizes (e - 16)) where
    unequal-sizes : x ≢ y → false ≡ effect_placed positions sizes condition i e
    unfolding effect_placed
    unequal-sizes n = rw (le-ltb e 16 variable, ← own, ← there, lt-ltb 1 y many, ne_eqb x y n)

    equal-sizes : (z : ℕ) → x ≡ y → z ≡ get_or condition (e - 16) 0
        → eqb z e ≡ effect_placed positions sizes condition i e
    unfolding effect_placed
    equal-sizes z s f = rw (le-ltb e 16 variable, ← own, ← there, lt-ltb 1 y many, eq-eqb x y s, f)

pub returns-then-entry-lt-FIRST_VARIABLE : goal.returns-then-entry-lt-FIRST_VARIABLE
unfolding effect_placed
returns-then-entry-lt-FIRST_VARIABLE c = rw (lt-ltb _ _ c.if-entry-lt-FIRST_VARIABLE.true)

pub returns-then-width-lt2 : goal.returns-then-width-lt2
returns-then-width-lt2 c =
    single-value _ _ _ _ _ _ c.if-entry-lt-FIRST_VARIABLE.false c.width_at-width.ensures
    (omega (arith, c.if-width-lt2.true))

pub returns-then-width_at-width : goal.returns-then-width_at-width
returns-then-width_at-width c =
    unequal-sizes _ _ _ _ _ _ c.if-entry-lt-FIRST_VARIABLE.false c.width_at-width.ensures _
    (omega (arith, c.if-width-lt2.false)) c.width_at.ensures c.if-width_at-width.true

pub returns : goal.returns
returns c =
    equal-sizes _ _ _ _ _ _ c.if-entry-lt-FIRST_VARIABLE.false c.width_at-width.ensures _
    (omega (arith, c.if-width-lt2.false)) c.width_at.ensures _ c.if-width_at-width.false c.entry_at.ensures
