-- At most 30784 sequences have at most three of 31 rules.
use Rattle.std.proofs.Common.{min, arith}
use Rattle.tables_spec.proofs.CountLaws.{count_bound}
use Rattle.bench_search.proofs.entries_of.Goals as goal

pub returns : goal.returns
returns c =
    let few = c.if-count-gt-MAX_RULES.false in
    let bound = count_bound c.args.count (min c.args.reach 3) (omega (arith, few)) (omega arith) in
    omega (arith, c.sequence_count.ensures, bound)
