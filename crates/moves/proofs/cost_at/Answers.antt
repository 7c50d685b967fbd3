-- `moves::cost_at` meets its contract: past the last of the 31 rules the definition reads a cost of 0.
use Rattle.std.proofs.Common.{rules, sym}
use Rattle.model_spec.proofs.MoveLaws.{no-rule_cost}
use Rattle.moves.proofs.cost_at.Goals as goal

pub returns-else-number-le-MAX_RULES : goal.returns-else-number-le-MAX_RULES
returns-else-number-le-MAX_RULES c =
    let s = c.args in
    sym (no-rule_cost s.set s.number (search rules) c.if-number-le-MAX_RULES.false)
