-- The first 120 bytes of a line.
use Rattle.std.proofs.Common.{sym, arith}
use Rattle.std.proofs.lemmas.List.{length-take-le, take_all}
use Rattle.cases_common.proofs.shown.Goals as goal

pub returns-then-line-le120-clause-front : goal.returns-then-line-le120-clause-front
returns-then-line-le120-clause-front c = sym (take_all 120 c.args.line.now (omega arith))

pub slice_bounds-result-end-2 : goal.slice_bounds-result-end-2
slice_bounds-result-end-2 c = sym (length-take-le 120 c.args.line.now (omega arith))
