-- `redundancy::costs_at_most` meets its contract: a `u16` is below the limit of `cost_of`.
use borrow.Author.Rules.{rules}
use Rattle.model_spec.specs.Rules.{sequence_cost}
use Rattle.model_spec.proofs.MoveLaws.{limited_cost_test}
use Rattle.redundancy.proofs.costs_at_most.Goals as goal

pub returns : goal.returns
returns c =
    let s = c.args in
    rw (c.cost_of.ensures, c.from.ensures) (limited_cost_test 65536 (sequence_cost s.set s.moves.now) s.most (search rules))
