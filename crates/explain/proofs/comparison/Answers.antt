-- `explain::comparison` meets its contract: costs that were limited compare as the costs themselves.
use mathlib.Core.Path.{◌≡◌, sym, ap₂, ◌∙◌}
use Prim.Native.Nat.{ℕ, ◌≤◌, ◌<◌}
use native.Mathlib.Omega.{arith}
use Rattle.model_spec.specs.Rules.{sequence_cost}
use Rattle.explain_laws.specs.How.Proposals.{Told}
use Rattle.explain_laws.proofs.ReasonOfLaws.{dearer_of, later_of, plan_of_lem}
use Rattle.explain.proofs.comparison.Goals as goal

-- a reason with both costs
abbrev with_costs : ℕ → ℕ → Told
with_costs cost plan_cost = record { number = 5; place = 0; cost = cost; plan_cost = plan_cost }

pub returns-then-plan_cost-cost : goal.returns-then-plan_cost-cost
returns-then-plan_cost-cost c =
    let s = c.args in
    let told = c.cost_of-plan_cost.ensures in
    let mine : c.cost_of-cost.result ≡ sequence_cost s.set s.moves.now =
    omega (arith, c.cost_of-cost.ensures, c.requires) in
    let bound = c.requires in
    let dearer : sequence_cost s.set s.plan.now < sequence_cost s.set s.moves.now = omega arith in
    let theirs : c.cost_of-plan_cost.result ≡ sequence_cost s.set s.plan.now = omega arith in
    ap₂ with_costs mine theirs ∙ dearer_of s.set s.moves.now s.plan.now dearer

pub returns-then-is_plan : goal.returns-then-is_plan
returns-then-is_plan c =
    let s = c.args in
    let cheap : sequence_cost s.set s.moves.now ≤ sequence_cost s.set s.plan.now =
    omega (arith, c.cost_of-cost.ensures, c.cost_of-plan_cost.ensures, c.if-plan_cost-cost.false, c.requires) in
    plan_of_lem s.set s.moves.now s.plan.now cheap (sym c.is_plan.ensures ∙ c.if-is_plan.true)

pub returns-else-is_plan : goal.returns-else-is_plan
returns-else-is_plan c =
    let s = c.args in
    let cheap : sequence_cost s.set s.moves.now ≤ sequence_cost s.set s.plan.now =
    omega (arith, c.cost_of-cost.ensures, c.cost_of-plan_cost.ensures, c.if-plan_cost-cost.false, c.requires) in
    later_of s.set s.moves.now s.plan.now cheap (sym c.is_plan.ensures ∙ c.if-is_plan.false)
