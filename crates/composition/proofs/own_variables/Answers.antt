-- `composition::own_variables` meets its contract. The invariant: the first i places, and what the others are to hold,
-- are the whole; the others still hold 0.
use mathlib.Core.Path.{◌≡◌, refl, sym, ap, ◌∙◌}
use mathlib.Core.Bool.{cond}
use mathlib.Core.List.{List}
use Prim.Native.Nat.{ℕ, ◌+◌, ◌≤◌, ◌<◌}
use native.Mathlib.Omega.{arith}
use lib.Dec.{ltb}
use lib.ListN.{get_or}
use borrow.Author.Rules.{rules}
use Rattle.model_spec.specs.States.{many_valued}
use Rattle.model_spec.proofs.StateLaws.{width-position, width_beyond}
use Rattle.macros_spec.specs.Composition.{own_variables}
use Rattle.macros_spec.proofs.CompositionLoopLaws.{fill_go, fill-zeros, zeros-behind}
use Rattle.composition.proofs.own_variables.Goals as goal

-- a position's width is its size
entry-due : (positions : ℕ) (sizes : List ℕ) (i v : ℕ) → i < positions → v ≡ cond (ltb 1 (get_or sizes i 0)) (16 + i) 0
    → v ≡ cond (many_valued positions sizes i) (16 + i) 0
entry-due positions sizes i v h e = e ∙ ap (λ n. cond (ltb 1 n) (16 + i) 0) (sym (width-position positions sizes i h))

-- beyond the positions there is a single value
zero-due : (positions : ℕ) (sizes : List ℕ) (k : ℕ) → positions ≤ k
    → cond (many_valued positions sizes k) (16 + k) 0 ≡ 0
zero-due positions sizes k h = rw (width_beyond positions sizes k h)

pub loop-i-init : goal.loop-i-init
unfolding own_variables
loop-i-init c = (search rules, search rules, refl, refl)

pub bounds-sizes-i : goal.bounds-sizes-i
bounds-sizes-i c = omega (arith, c.min-i-end.ensures)

pub overflow_add-i : goal.overflow_add-i
overflow_add-i c = omega (arith, c.min-i-end.ensures)

pub bounds-entries-i : goal.bounds-entries-i
bounds-entries-i c = omega (arith, c.min-i-end.ensures)

pub loop-i-preserved : goal.loop-i-preserved
loop-i-preserved c =
    let l = c.loop-i in
    let count = c.min-i-end.ensures in
    let within : l.i < 16 = omega (arith, count) in (
      search rules,
      search rules,
      fill_go _ l.i 16 l.entries _ l.invariant.2 _ (entry-due _ _ _ _ (omega (arith, count)) c.own_entry.ensures)
          within (omega (arith, within)),
      zeros-behind l.i 16 l.entries _ l.invariant.3 within,
    )

pub returns : goal.returns
returns c =
    let l = c.loop-i in
    let positions = c.args.positions in
    let count = c.min-i-end.ensures in
    fill-zeros _ l.i 16 l.entries _ l.invariant.2 (omega (arith, count))
    (λ k hk hn. zero-due positions _ k (omega (arith, count))) l.invariant.3
