-- The place is one of the moves.
use Rattle.std.proofs.Common.{◌<◌, length}
use Rattle.bench_macros.proofs.rotations_of.Given as goal

abbrev pub invariant-loop : goal.invariant-loop
invariant-loop l = l.first < length l.moves
