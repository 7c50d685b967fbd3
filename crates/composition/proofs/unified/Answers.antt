-- `composition::unified` meets its contract. The invariant: what is left to unify from place i on, in the vectors as
-- they stand, decides the whole.
use mathlib.Core.Path.{◌≡◌, refl, sym, ap, ◌∙◌}
use mathlib.Core.Option.{some}
use Prim.Native.Nat.{◌+◌, ◌≤◌, ◌<◌}
use native.Mathlib.Omega.{arith}
use lib.ListN.{length}
use borrow.Author.Rules.{rules}
use Rattle.model_spec.specs.States.{value_of}
use Rattle.macros_spec.specs.Composition.{as_vectors}
use Rattle.macros_spec.specs.declared.Vectors.{Vectors}
use Rattle.macros_spec.proofs.CompositionLoopLaws.{unify-same, unify-clash, unify_go, unify_own, unify-end}
use Rattle.composition.proofs.unified.Invariants.{lines_in}
use Rattle.composition.proofs.unified.Goals as goal
use Rattle.composition.proofs.unified.Goals.{then-asks+then-have-want+else-from-lt-FIRST_VARIABLE}
use Rattle.composition.proofs.unified.Goals.{then-asks+else-have-want, else-asks}

pub loop-i-init : goal.loop-i-init
loop-i-init c = (search rules, c.requires, refl)

pub returns-then-from-lt-FIRST_VARIABLE : goal.returns-then-from-lt-FIRST_VARIABLE
unfolding value_of
returns-then-from-lt-FIRST_VARIABLE c =
    let l = c.loop-i in
    let m = lines_in l.sequence in
    c.denied.ensures
    ∙ ap as_vectors (unify-clash c.args.asked l.i m _ l.invariant.2 (omega arith) _ _ refl
    c.stands_for-want.ensures _ c.max-from.ensures c.if-from-lt-FIRST_VARIABLE.true c.if-have-want.true)

pub loop-i-preserved : goal.loop-i-preserved
unfolding value_of
loop-i-preserved c =
    let l = c.loop-i in
    let asked = c.args.asked in
    let within : l.i < length asked = omega arith in
    let next : l.i + 1 ≤ 16 = omega arith in
    let m = lines_in l.sequence in
    elim c.if-asks.branch [
      | then-asks+then-have-want+else-from-lt-FIRST_VARIABLE w ↦ rw w.sequence-is (
        next,
        w.replaced-sequence.ensures.0 ∙ l.invariant.1,
        unify_go asked l.i m _ l.invariant.2 within _ _ refl w.stands_for-want.ensures _ _ _ _ w.max-from.ensures
            w.min-to.ensures w.if-from-lt-FIRST_VARIABLE.false w.replaced-sequence.ensures.1
            w.replaced-sequence.ensures.2,
      )
      | then-asks+else-have-want w ↦ rw w.sequence-is (
        next,
        l.invariant.1,
        unify-same asked l.i m _ l.invariant.2 within _ _ refl w.stands_for-want.ensures w.if-have-want.false,
      )
      | else-asks w ↦ rw w.sequence-is (
        next,
        l.invariant.1,
        unify_own asked l.i m _ l.invariant.2 within (omega (arith, next)) (sym c.asks.ensures ∙ w.if-asks.false),
      )
    ]

pub returns : goal.returns
returns c =
    let l = c.loop-i in
    let v : Vectors = l.sequence in
    let own : v ≡ as_vectors (some (lines_in v)) =
    λ i. record { admitted = l.invariant.1 i; condition = v.condition; effect = v.effect } in
    own ∙ ap as_vectors (unify-end c.args.asked l.i (lines_in v) _ l.invariant.2 (omega arith))
