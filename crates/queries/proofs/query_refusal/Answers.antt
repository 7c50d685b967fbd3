-- `queries::query_refusal` meets its contract: a refusal that the check and the query share is the answer at once; else
-- the query's own causes decide in turn.
use mathlib.Core.Path.{◌≡◌, sym, ◌∙◌}
use mathlib.Core.Logic.{◌≢◌, ⊎_elim}
use Prim.Native.Nat.{ℕ}
use native.Mathlib.Omega.{arith}
use Rattle.model_spec.specs.declared.RuleSet.{RuleSet}
use Rattle.model_spec.specs.Refusals.{first_refusal}
use Rattle.tables_spec.specs.Answers.{check_outcome}
use Rattle.search_spec.specs.Query.{Query, asked}
use Rattle.search_spec.specs.declared.Query.{Query as PassedQuery}
use Rattle.search_spec.specs.Searched.{query_causes}
use Rattle.search_spec.proofs.OutcomeLaws.{checked_ready, start_refusal, goal_refusal, moves_refusal, room_refusal}
use Rattle.search_spec.proofs.OutcomeLaws.{last_refusal, shared_refusal}
use Rattle.queries.proofs.query_refusal.Goals as goal

-- the query of a call with another cost bound and another step limit
abbrev of : PassedQuery → ℕ → ℕ → Query
of q cost limit = asked q.reach q.table.now q.start.now q.goal.now q.max_moves cost limit

-- a number of the check that is told at once is the query's
told : (set : RuleSet) (query : Query) (room checked n : ℕ) → checked ≡ check_outcome set query.reach query.table
    → checked ≡ n → n ≢ 0 → n ≢ 14 → n ≡ first_refusal (query_causes set query room)
told set query room checked n e is h₀ h₁₄ =
    let same = sym is ∙ e in
    same ∙ shared_refusal set query room (λ k. h₀ (same ∙ k)) (λ k. h₁₄ (same ∙ k))

pub returns-in-5 : goal.returns-in-5
returns-in-5 c cost limit =
    told c.args.set (of c.args.query cost limit) c.args.plan_size _ 5 c.check_outcome-checked.ensures.0 c.in-5.is
    (λ k. omega arith) (λ k. omega arith)

pub returns-in-6 : goal.returns-in-6
returns-in-6 c cost limit =
    told c.args.set (of c.args.query cost limit) c.args.plan_size _ 6 c.check_outcome-checked.ensures.0 c.in-6.is
    (λ k. omega arith) (λ k. omega arith)

pub returns-in-7 : goal.returns-in-7
returns-in-7 c cost limit =
    told c.args.set (of c.args.query cost limit) c.args.plan_size _ 7 c.check_outcome-checked.ensures.0 c.in-7.is
    (λ k. omega arith) (λ k. omega arith)

pub returns-then-not-start_fits : goal.returns-then-not-start_fits
returns-then-not-start_fits c cost limit =
    let a = c.args in
    let query = of a.query cost limit in
    let passed = checked_ready a.set query.reach query.table _ c.check_outcome-checked.ensures.0
    (λ k. omega (arith, c.in_default)) in
    start_refusal a.set query a.plan_size passed.0
    (sym c.start_fits.ensures ∙ c.if-not-start_fits.true)

pub returns-then-not-goal_fits : goal.returns-then-not-goal_fits
returns-then-not-goal_fits c cost limit =
    let a = c.args in
    let query = of a.query cost limit in
    let passed = checked_ready a.set query.reach query.table _ c.check_outcome-checked.ensures.0
    (λ k. omega (arith, c.in_default)) in
    goal_refusal a.set query a.plan_size passed.0
    (sym c.start_fits.ensures ∙ c.if-not-start_fits.false)
    (sym c.goal_fits.ensures ∙ c.if-not-goal_fits.true)

pub returns-then-query-gt-MOVE_LIMIT : goal.returns-then-query-gt-MOVE_LIMIT
returns-then-query-gt-MOVE_LIMIT c cost limit =
    let a = c.args in
    let query = of a.query cost limit in
    let passed = checked_ready a.set query.reach query.table _ c.check_outcome-checked.ensures.0
    (λ k. omega (arith, c.in_default)) in
    moves_refusal a.set query a.plan_size passed.0
    (sym c.start_fits.ensures ∙ c.if-not-start_fits.false)
    (sym c.goal_fits.ensures ∙ c.if-not-goal_fits.false)
    c.if-query-gt-MOVE_LIMIT.true

pub returns-then-query-plan_size : goal.returns-then-query-plan_size
returns-then-query-plan_size c cost limit =
    let a = c.args in
    let query = of a.query cost limit in
    let passed = checked_ready a.set query.reach query.table _ c.check_outcome-checked.ensures.0
    (λ k. omega (arith, c.in_default)) in
    room_refusal a.set query a.plan_size passed.0
    (sym c.start_fits.ensures ∙ c.if-not-start_fits.false)
    (sym c.goal_fits.ensures ∙ c.if-not-goal_fits.false)
    c.if-query-gt-MOVE_LIMIT.false c.if-query-plan_size.true

pub returns-then-checked-eq14 : goal.returns-then-checked-eq14
returns-then-checked-eq14 c cost limit =
    let a = c.args in
    let query = of a.query cost limit in
    let passed = checked_ready a.set query.reach query.table _ c.check_outcome-checked.ensures.0
    (λ k. omega (arith, c.in_default)) in
    sym c.if-checked-eq14.true ∙ c.check_outcome-checked.ensures.0 ∙ last_refusal a.set query a.plan_size passed.0
    (sym c.start_fits.ensures ∙ c.if-not-start_fits.false)
    (sym c.goal_fits.ensures ∙ c.if-not-goal_fits.false)
    c.if-query-gt-MOVE_LIMIT.false c.if-query-plan_size.false

pub returns : goal.returns
returns c cost limit =
    let a = c.args in
    let query = of a.query cost limit in
    let passed = checked_ready a.set query.reach query.table _ c.check_outcome-checked.ensures.0
    (λ k. omega (arith, c.in_default)) in
    let none = ⊎_elim (λ k. absurd (c.if-checked-eq14.false k)) sym passed.1 in
    none ∙ c.check_outcome-checked.ensures.0 ∙ last_refusal a.set query a.plan_size passed.0
    (sym c.start_fits.ensures ∙ c.if-not-start_fits.false)
    (sym c.goal_fits.ensures ∙ c.if-not-goal_fits.false)
    c.if-query-gt-MOVE_LIMIT.false c.if-query-plan_size.false
