-- `placement::condition_placed` meets its contract: each return by the tests on the way to it.
use mathlib.Core.Path.{◌≡◌}
use mathlib.Core.Bool.{false, and-false}
use mathlib.Core.List.{List}
use Prim.Native.Nat.{ℕ, ◌-◌, ◌≤◌, ◌<◌}
use borrow.Author.Tests.{lt-ltb, le-ltb, lt-leb, le-leb}
use Rattle.model_spec.specs.Validity.{condition_placed, effect_placed}
use Rattle.placement.proofs.condition_placed.Goals as goal

-- a variable of a later place
later : (positions : ℕ) (sizes condition : List ℕ) (i e : ℕ) → 16 ≤ e → i < e - 16
    → false ≡ condition_placed positions sizes condition i e
unfolding condition_placed
later positions sizes condition i e v h = rw (le-ltb e 16 v, lt-leb (e - 16) i h, and-false, and-false)

pub returns-then-entry-lt-FIRST_VARIABLE : goal.returns-then-entry-lt-FIRST_VARIABLE
unfolding condition_placed
returns-then-entry-lt-FIRST_VARIABLE c = rw (lt-ltb _ _ c.if-entry-lt-FIRST_VARIABLE.true)

pub returns-then-i-place : goal.returns-then-i-place
returns-then-i-place c = later _ _ _ _ _ c.if-entry-lt-FIRST_VARIABLE.false c.if-i-place.true

pub returns : goal.returns
unfolding condition_placed effect_placed
returns c = rw (le-leb _ _ c.if-i-place.false) c.effect_placed.ensures
