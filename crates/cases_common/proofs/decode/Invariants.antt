-- The first bytes are put, the others are what they were.
use Rattle.std.proofs.Common.{◌≡◌, map}
use Rattle.std.proofs.Math.Seq.{paste}
use Rattle.cases_laws.specs.How.Texts.{line_fed}
use Rattle.cases_common.proofs.decode.Given as goal

abbrev pub invariant-loop-i : goal.invariant-loop-i
invariant-loop-i l = l.text ≡ paste l.initial.text 0 (map line_fed l.input) l.i
