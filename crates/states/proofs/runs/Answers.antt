-- `states::runs` meets its contract: the closure compares what each entry stands for with what its place holds.
use Rattle.std.proofs.Common.{rules, arith, ◌∙◌, eqb, tests, ℕ}
use Rattle.std.proofs.lemmas.Iterator.{YieldsList-from_slice, YieldsList-from_zip}
use Rattle.std.proofs.lemmas.Iterator.Search.{all_from_yields_List}
use Rattle.model_spec.specs.States.{value_of, values_of, applicable}
use Rattle.model_spec.proofs.ChainLaws.{same_zip}
use Rattle.states.proofs.runs.Goals as goal

pub returns : goal.returns
unfolding applicable values_of
returns c =
    let condition = c.args.condition.now in
    let state = c.args.state.now in
    all_from_yields_List (λ (q : ℕ × ℕ). eqb (value_of q.0 state) q.1) c.all.new.self _ _ c.all.ensures.ran
    (YieldsList-from_zip (YieldsList-from_slice condition cc) (YieldsList-from_slice state cc))
    (λ x b q k. search (rules, tests))
    ∙ same_zip (λ e. value_of e state) condition state (omega arith)
