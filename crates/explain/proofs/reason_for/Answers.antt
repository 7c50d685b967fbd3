-- `explain::reason_for` meets its contract: the reasons one after the other.
use mathlib.Core.Path.{◌≡◌, sym, ap, ap₂, ◌∙◌}
use mathlib.Core.List.{List}
use Prim.Native.Nat.{ℕ, ◌≤◌}
use native.Mathlib.Omega.{arith}
use lib.ListN.{length, take}
use lib.Seq.{take_all}
use Rattle.theory_spec.specs.Lists.{padded}
use Rattle.theory_spec.specs.Sequences.{Sequence, Numbered}
use Rattle.model_spec.specs.Rules.{run_in}
use Rattle.model_spec.specs.States.{State}
use Rattle.model_spec.specs.declared.RuleSet.{RuleSet}
use Rattle.search_spec.specs.Query.{query_of}
use Rattle.explain_spec.specs.Reasons.{failing_move, wrong_position}
use Rattle.explain_spec.proofs.ReasonLaws.{costly_iff}
use Rattle.explain_laws.specs.How.Proposals.{held_moves, plain}
use Rattle.explain_laws.proofs.PlaceLaws.{place_is, no_place}
use Rattle.explain_laws.proofs.ProposalLoopLaws.{known-moves}
use Rattle.explain_laws.proofs.ReasonOfLaws.{long_of, failing_of, costly_of, end_of, off_of, compared_of}
use Rattle.explain.proofs.reason_for.Goals as goal

-- the start state is the query's, and the moves are all known
module _ (set : RuleSet) (state : State) (start : List ℕ) (q : Sequence) (e : state ≡ padded 16 0 (take 16 start))
    (short : length start ≤ 16) (rules : Numbered 31 q) where
  began : state ≡ padded 16 0 start
  began = e ∙ ap (padded 16 0) (take_all 16 start short)

  failing_is : failing_move set state (held_moves q) ≡ failing_move set (padded 16 0 start) q
  failing_is = ap₂ (failing_move set) began (known-moves q rules)

  run_is : run_in set (held_moves q) state ≡ run_in set q (padded 16 0 start)
  run_is = ap₂ (run_in set) (known-moves q rules) began

pub returns-then-query-moves : goal.returns-then-query-moves
returns-then-query-moves c =
    let s = c.args in
    let query = query_of s.query in
    long_of s.set query s.moves.now s.plan.now c.if-query-moves.true

pub returns-in-Err : goal.returns-in-Err
returns-in-Err c =
    let s = c.args in
    let query = query_of s.query in
    let failing = c.in-Err.ensures.0
    ∙ failing_is s.set _ s.query.start.now s.moves.now c.start_state.ensures c.requires.1 c.requires.0 in
    ap (plain 2) failing
    ∙ failing_of s.set query s.moves.now s.plan.now c.if-query-moves.false (λ z. c.in-Err.ensures.1 (failing ∙ z))

pub returns-in-Some : goal.returns-in-Some
returns-in-Some c =
    let s = c.args in
    let query = query_of s.query in
    let runs = sym (failing_is s.set _ s.query.start.now s.moves.now c.start_state.ensures c.requires.1 c.requires.0)
    ∙ c.in-Ok.ensures.0 in
    let costly = place_is _ _ c.in-Some.ensures in
    ap (plain 3) costly.0
    ∙ costly_of s.set query s.moves.now s.plan.now c.if-query-moves.false runs costly.1

pub returns-in-Some-wrong_position : goal.returns-in-Some-wrong_position
returns-in-Some-wrong_position c =
    let s = c.args in
    let query = query_of s.query in
    let runs = sym (failing_is s.set _ s.query.start.now s.moves.now c.start_state.ensures c.requires.1 c.requires.0)
    ∙ c.in-Ok.ensures.0 in
    let ended = sym (run_is s.set _ s.query.start.now s.moves.now c.start_state.ensures c.requires.1 c.requires.0)
    ∙ c.in-Ok.ensures.1 in
    let cheap = no_place _ c.in_default.ensures in
    let end = c.in-Ok.end in
    let wrong = place_is _ _ c.in-Some-wrong_position.ensures in
    let position = end_of s.set query s.moves.now s.plan.now c.if-query-moves.false runs cheap end
    c.in-Some-wrong_position.wrong ended
    (wrong.0 ∙ ap (λ g. wrong_position g end) (take_all 16 s.query.goal.now c.requires.2)) in
    off_of s.set query s.moves.now s.plan.now c.if-query-moves.false runs cheap _ position
    (λ z. wrong.1 (sym wrong.0 ∙ z))

-- a proposal that does not pass the cost bound costs at most that
pub comparison-requires : goal.comparison-requires
comparison-requires c =
    let s = c.args in
    let query = query_of s.query in
    let within = (costly_iff s.set query s.moves.now).0 (no_place _ c.in_default.ensures) in
    omega (arith, within, c.ranges.query)

pub returns : goal.returns
returns c =
    let s = c.args in
    let query = query_of s.query in
    let runs = sym (failing_is s.set _ s.query.start.now s.moves.now c.start_state.ensures c.requires.1 c.requires.0)
    ∙ c.in-Ok.ensures.0 in
    let ended = sym (run_is s.set _ s.query.start.now s.moves.now c.start_state.ensures c.requires.1 c.requires.0)
    ∙ c.in-Ok.ensures.1 in
    let cheap = no_place _ c.in_default.ensures in
    let end = c.in-Ok.end in
    let right = no_place _ c.in_default-wrong_position.ensures in
    let position = end_of s.set query s.moves.now s.plan.now c.if-query-moves.false runs cheap end 0 ended
    (sym right ∙ ap (λ g. wrong_position g end) (take_all 16 s.query.goal.now c.requires.2)) in
    c.comparison.ensures
    ∙ compared_of s.set query s.moves.now s.plan.now c.if-query-moves.false runs cheap (sym position)
