-- `rule_validity::rule_valid` meets its contract. A cost is a byte, so it is at most 255.
use Rattle.std.proofs.Common.{rules, ◌≡◌, ℕ, ◌≤◌, Bool, ◌&&◌, List, refl}
use borrow.Author.Tests.{le-leb}
use Rattle.model_spec.specs.Validity.{condition_valid, effect_valid, rule_valid}
use Rattle.model_spec.specs.declared.Rule.{Rule}
use Rattle.model_spec.proofs.ChainLaws.{and_passed, and_failed}
use Rattle.rule_validity.proofs.rule_valid.Goals as goal

-- the answer by the two lines
by_lines : (positions : ℕ) (sizes : List ℕ) (rule : Rule) → rule.cost ≤ 255 → (r : Bool)
    → r ≡ (condition_valid positions sizes rule.condition && effect_valid positions sizes rule.condition rule.effect)
    → r ≡ rule_valid positions sizes rule
unfolding rule_valid
by_lines positions sizes rule low r e = rw (le-leb rule.cost 255 low) e

pub returns-then-condition_valid : goal.returns-then-condition_valid
returns-then-condition_valid c =
    let s = c.args in
    by_lines s.positions s.sizes.now s.rule (search rules) _
    (and_passed refl c.effect_valid.ensures c.condition_valid.ensures c.if-condition_valid.true)

pub returns-else-condition_valid : goal.returns-else-condition_valid
returns-else-condition_valid c =
    let s = c.args in
    by_lines s.positions s.sizes.now s.rule (search rules) _
    (and_failed _ refl c.condition_valid.ensures c.if-condition_valid.false)
