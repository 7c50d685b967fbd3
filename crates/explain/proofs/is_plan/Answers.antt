-- `explain::is_plan` meets its contract: lists of one length are the same where they agree place by place.
use Rattle.std.proofs.Common.{rules, tests, sym, ap, ◌∙◌, ℕ, eqb, length}
use Rattle.std.proofs.lemmas.Iterator.{YieldsList-from_slice, YieldsList-from_zip}
use Rattle.std.proofs.lemmas.Iterator.Search.{all_from_yields_List}
use borrow.Author.Tests.{ne_eqb}
use Rattle.theory_spec.specs.Lists.{same}
use Rattle.theory_spec.proofs.ListLaws.{map_id, never_true, same_true}
use Rattle.model_spec.proofs.ChainLaws.{same_zip}
use Rattle.explain.proofs.is_plan.Goals as goal

pub returns-then-moves-plan : goal.returns-then-moves-plan
returns-then-moves-plan c =
    let moves = c.args.moves.now in
    let plan = c.args.plan.now in
    all_from_yields_List (λ (q : ℕ × ℕ). eqb q.0 q.1) c.all.new.self _ _ c.all.ensures.ran
    (YieldsList-from_zip (YieldsList-from_slice moves cc) (YieldsList-from_slice plan cc))
    (λ x b q k. search (rules, tests))
    ∙ same_zip (λ n. n) moves plan c.if-moves-plan.true
    ∙ ap (λ l. same l plan) (map_id moves)

pub returns-else-moves-plan : goal.returns-else-moves-plan
returns-else-moves-plan c =
    let moves = c.args.moves.now in
    let plan = c.args.plan.now in
    let other = c.if-moves-plan.false in
    ne_eqb _ _ other ∙ sym (never_true (same moves plan) (λ e. other (ap length (same_true moves plan e))))
