-- `buffers::fill_from` meets its contract: the part from the place on is filled.
use Rattle.std.proofs.Common.{rules, arith, length-take, length-drop, length, take, drop, ◌≡◌, ◌-◌}
use Rattle.model_spec.proofs.BufferLaws.{filled_part}
use Rattle.buffers.proofs.fill_from.Goals as goal

pub returns : goal.returns
returns c =
    let buffer = c.args.buffer.now in
    let start = c.min-start.result in
    let part : length (take (length buffer - start) (drop start buffer)) ≡ length buffer - start =
    omega (arith, length-take (length buffer - start) (drop start buffer), length-drop start buffer) in
    let whole = c.fill.ensures.after (λ y k. search rules) in
    filled_part _ _ c.args.from _ _ c.min-start.ensures (rw part at whole)
