-- At most 30784 sequences have at most three of 31 rules.
use Rattle.std.proofs.Common.{min, arith}
use Rattle.tables_spec.proofs.CountLaws.{count_bound}
use Rattle.bench_tables.proofs.entries_of.Goals as goal

pub returns : goal.returns
returns c =
    let bound = count_bound c.args.count (min 3 3) (omega (arith, c.if-count-gt-MAX_RULES.false)) (omega arith) in
    omega (arith, c.sequence_count.ensures, bound)
