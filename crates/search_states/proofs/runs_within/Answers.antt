-- `search_states::runs_within` meets its contract: the closure compares what each entry stands for with what its place
-- holds.
use Rattle.std.proofs.Common.{rules, arith, tests, ◌∙◌, ap, ℕ, eqb, take}
use lib.ListN.{length-take}
use Rattle.std.proofs.lemmas.Iterator.{YieldsList-from_slice, YieldsList-from_zip}
use Rattle.std.proofs.lemmas.Iterator.Search.{all_from_yields_List}
use Rattle.model_spec.specs.States.{value_of, values_of}
use Rattle.search_laws.specs.How.Visits.{meets_within}
use Rattle.model_spec.proofs.ChainLaws.{same_zip}
use Rattle.search_states.proofs.runs_within.Goals as goal

pub returns : goal.returns
unfolding meets_within values_of
returns c =
    let state = c.args.state.now in
    let condition = take c.min-end.result c.args.condition.now in
    let held = take c.min-end.result state in
    all_from_yields_List (λ (q : ℕ × ℕ). eqb (value_of q.0 state) q.1) c.all.new.self _ _ c.all.ensures.ran
    (YieldsList-from_zip (YieldsList-from_slice condition cc) (YieldsList-from_slice held cc))
    (λ x b q k. search (rules, tests))
    ∙ same_zip (λ e. value_of e state) condition held
    (omega (arith, length-take c.min-end.result c.args.condition.now, length-take c.min-end.result state))
    ∙ ap (λ n. meets_within n c.args.condition.now state) c.min-end.ensures
