-- `rule_validity::condition_valid` meets its contract: the closure tests the entry at each place.
use Rattle.std.proofs.Common.{rules, arith, tests, ℕ, ◌&&◌, get_or, ◌∙◌}
use Rattle.model_spec.specs.Validity.{entry_limited, condition_placed, condition_valid}
use Rattle.model_spec.proofs.ChainLaws.{all_below}
use Rattle.model_spec.proofs.LoopLaws.{sized}
use Rattle.rule_validity.proofs.condition_valid.Goals as goal

pub returns : goal.returns
unfolding condition_valid
returns c =
    let s = c.args in
    let condition = s.condition.now in
    let test = λ (i : ℕ).
    entry_limited s.positions s.sizes.now i (get_or condition i 0)
    && condition_placed s.positions s.sizes.now s.condition.now i (get_or condition i 0) in
    all_below _ test 16 c.all.new.self _ _ (cc) c.all.ensures.ran (λ x b q h. search (rules, tests))
    ∙ sized condition 16 _ (omega arith)
