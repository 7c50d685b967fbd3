-- `search::search` meets its contract: each way out leaves what the definition `searched` leaves, which has its
-- meaning.
use mathlib.Core.Path.{◌≡◌, refl, sym, ap, ◌∙◌}
use mathlib.Core.List.{List, ◌++◌}
use Prim.Native.Nat.{ℕ}
use lib.ListN.{length, drop, replicate, length-replicate}
use Rattle.std.proofs.lemmas.List.{length-take-le}
use borrow.Author.Rules.{rules}
use Rattle.model_spec.proofs.BufferLaws.{filled-whole}
use Rattle.model_spec.specs.How.Buffers.{filled_from}
use Rattle.model_spec.specs.Refusals.{first_refusal}
use Rattle.search_spec.specs.Query.{query_of}
use Rattle.search_spec.specs.Searched.{query_causes, no_move}
use Rattle.search_spec.proofs.Demand.{without_plan}
use Rattle.search_spec.proofs.OutcomeLaws.{searched-refused}
use Rattle.search_laws.proofs.AnswerLaws.{left_with, answers, explored_planless, explored-room, explored-shown}
use Rattle.search_laws.specs.How.Visits.{outcome_of}
use Rattle.refusals_spec.proofs.NumberLaws.{number_positive}
use Rattle.search.proofs.search.Goals as goal

-- the plan buffer once it is filled
module _ (plan filled : List ℕ) (e : filled ≡ filled_from no_move 0 plan) where
  blank : filled ≡ replicate (length plan) no_move
  blank = e ∙ filled-whole no_move plan

  blank-length : length filled ≡ length plan
  blank-length = ap length blank ∙ length-replicate (length plan) no_move

pub returns-in-Err : goal.returns-in-Err
returns-in-Err c =
    let set = c.args.set in
    let query = query_of c.args.query in
    let room = length c.args.plan.now in
    let told = c.in-Err.ensures.refusal
    ∙ ap (λ n. first_refusal (query_causes set query n)) (blank-length _ _ c.fill_from.ensures) in
    let refused = searched-refused set query room (λ k. number_positive c.in-Err.refusal (told ∙ k)) in
    answers set query room _ _ (without_plan room c.number_of.result 0) c.without_plan.ensures
    (blank _ _ c.fill_from.ensures) (ap (λ n. without_plan room n 0) (c.number_of.ensures ∙ told) ∙ sym refused)

pub returns-in-None : goal.returns-in-None
returns-in-None c =
    let set = c.args.set in
    let query = query_of c.args.query in
    let room = length c.args.plan.now in
    let told = c.in-Ok.ensures.refusal
    ∙ ap (λ n. first_refusal (query_causes set query n)) (blank-length _ _ c.fill_from.ensures) in
    let progress = c.in-Ok.progress in
    let left = explored_planless set query room (sym told) progress c.in-Ok.ensures.progress _
    (c.outcome_of-outcome.ensures ∙ ap (outcome_of progress.exceeded) c.is_some.ensures) c.in-None.is in
    answers set query room _ _ _ c.without_plan-in-None.ensures (blank _ _ c.fill_from.ensures) left

pub slice_bounds-copy_from_slice-end : goal.slice_bounds-copy_from_slice-end
slice_bounds-copy_from_slice-end c =
    let query = query_of c.args.query in
    let progress = c.in-Ok.progress in
    (explored-room c.args.set query _ (sym c.in-Ok.ensures.refusal) progress c.in-Ok.ensures.progress
    c.in-Some.best c.in-Some.is).1

pub slice_bounds-copy_from_slice-end-2 : goal.slice_bounds-copy_from_slice-end-2
slice_bounds-copy_from_slice-end-2 c =
    let query = query_of c.args.query in
    let progress = c.in-Ok.progress in
    let fits = explored-room c.args.set query _ (sym c.in-Ok.ensures.refusal) progress c.in-Ok.ensures.progress
    c.in-Some.best c.in-Some.is in
    sym (length-take-le _ _ fits.1)

pub shared_ref_as_front-copy_from_slice : goal.shared_ref_as_front-copy_from_slice
shared_ref_as_front-copy_from_slice c =
    let query = query_of c.args.query in
    let progress = c.in-Ok.progress in
    (explored-room c.args.set query _ (sym c.in-Ok.ensures.refusal) progress c.in-Ok.ensures.progress
    c.in-Some.best c.in-Some.is).0

pub copy_from_slice-requires : goal.copy_from_slice-requires
copy_from_slice-requires c =
    let query = query_of c.args.query in
    let progress = c.in-Ok.progress in
    let fits = explored-room c.args.set query _ (sym c.in-Ok.ensures.refusal) progress c.in-Ok.ensures.progress
    c.in-Some.best c.in-Some.is in
    length-take-le _ _ fits.1 ∙ sym (length-take-le _ _ (search rules))

pub returns : goal.returns
returns c =
    let set = c.args.set in
    let query = query_of c.args.query in
    let room = length c.args.plan.now in
    let told = c.in-Ok.ensures.refusal
    ∙ ap (λ n. first_refusal (query_causes set query n)) (blank-length _ _ c.fill_from.ensures) in
    let progress = c.in-Ok.progress in
    let left = explored-shown set query room (sym told) progress c.in-Ok.ensures.progress
    c.in-Some.best c.in-Some.is _ _
    (c.outcome_of-outcome.ensures ∙ ap (outcome_of progress.exceeded) c.is_some.ensures) c.floor_shown-floor.ensures
    c.fill_from.new.buffer (blank _ _ c.fill_from.ensures) in
    answers set query room _ _
    (left_with c.outcome_of-outcome.result c.in-Some.best progress.steps c.floor_shown-floor.result
    c.fill_from.new.buffer)
    refl (ap (λ l. l ++ drop c.in-Some.best.length c.fill_from.new.buffer) c.copy_from_slice.ensures.after) left
