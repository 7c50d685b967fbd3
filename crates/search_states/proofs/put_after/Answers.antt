-- `search_states::put_after` meets its contract: each turn writes the value of one entry more.
use mathlib.Core.Path.{sym, ◌∙◌}
use Prim.Native.Nat.{◌<◌}
use native.Mathlib.Omega.{arith}
use lib.ListN.{length}
use Rattle.model_spec.specs.States.{successor}
use Rattle.model_spec.proofs.StateLaws.{successor_at, successor-length}
use Rattle.search_laws.proofs.StateLoopLaws.{laid_none, laid_more}
use Rattle.search_states.proofs.put_after.Goals as goal

pub loop-i-init : goal.loop-i-init
loop-i-init c = laid_none _ _

pub loop-i-preserved : goal.loop-i-preserved
loop-i-preserved c =
    let effect = c.args.effect.now in
    let state = c.args.state.now in
    let long : c.loop-i.i < length (successor effect state) =
    omega (arith, c.loop-i-test.true, c.min-i-end.ensures, successor-length effect state) in
    laid_more c.loop-i.i (successor effect state) c.args.next.now _ _ long c.loop-i.invariant
    (c.value.ensures ∙ sym (successor_at effect state c.loop-i.i))
