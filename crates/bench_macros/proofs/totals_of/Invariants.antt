-- Both places are of rules.
use Rattle.std.proofs.Common.{◌<◌}
use Rattle.bench_macros.proofs.totals_of.Given as goal

abbrev pub invariant-loop : goal.invariant-loop
invariant-loop l = record { first : l.first < 31; second : l.second < 31 }
