-- `cases_common::decode` meets its contract: one byte more is put at each turn.
use Rattle.std.proofs.Common.{◌<◌, length, arith, length-set}
use Rattle.cases_laws.proofs.TextLaws.{decoded_more}
use Rattle.cases_common.proofs.decode.Goals as goal

pub loop-i-preserved : goal.loop-i-preserved
loop-i-preserved c =
    let l = c.loop-i in
    let text = c.args.text.now in
    let input = c.args.input.now in
    let more : l.i < length input = omega arith in
    let room : l.i < length text = omega arith in
    decoded_more text input l.i l.text _ room more l.invariant c.line_fed.ensures
