-- `touched::touched` meets its contract: both sets from their parts.
use mathlib.Core.Path.{ap₂}
use lib.Bits.{bit_or}
use Rattle.macros_spec.proofs.TouchedLoopLaws.{touched_none, touched_parts}
use Rattle.touched.proofs.touched.Goals as goal

pub returns-then-not-vectors : goal.returns-then-not-vectors
returns-then-not-vectors c = touched_none _ c.args.vectors c.if-not-vectors.true

pub returns : goal.returns
returns c =
    touched_parts _ c.args.vectors c.if-not-vectors.false _ _ _
    c.asked.ensures
    (ap₂ bit_or c.named_elsewhere.ensures c.named_elsewhere-2.ensures)
    c.changed-written.ensures
