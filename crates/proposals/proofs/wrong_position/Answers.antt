-- `proposals::wrong_position` meets its contract: the first pair of the goal's byte and the state's value that does not
-- agree.
use mathlib.Core.Path.{◌≡◌, ◌∙◌}
use mathlib.Core.Bool.{true, false}
use Prim.Native.Nat.{◌+◌}
use Rattle.std.proofs.Common.{arith, rules, tests}
use Rattle.std.specs.Option.{option_map}
use Rattle.std.specs.Slice.Iter.{iter_rest}
use Rattle.std.proofs.lemmas.Iterator.{IsFirst-from_position, YieldsList-from_slice, YieldsList-from_zip}
use Rattle.explain_laws.proofs.PositionLaws.{wrong_pair, wrong-place}
use Rattle.proposals.proofs.wrong_position.Goals as goal

pub returns : goal.returns
returns c =
    let asked : iter_rest c.zip.result.a ≡ c.args.goal.now = cc in
    let held : iter_rest c.zip.result.b ≡ c.args.state.now = cc in
    let pairs = YieldsList-from_zip {s = c.zip.result} (YieldsList-from_slice _ asked) (YieldsList-from_slice _ held) in
    let first = IsFirst-from_position c.position.new.self _ c.position.result
    (λ p. wrong_pair p ≡ true) (λ p. wrong_pair p ≡ false)
    c.position.ensures.ran pairs (λ x q k. search (rules, tests)) (λ x q k. search (rules, tests)) in
    let from_one : c.map.result ≡ option_map (λ i. i + 1) c.position.result = search rules in
    from_one ∙ wrong-place c.args.goal.now c.args.state.now (omega arith) c.position.result first
