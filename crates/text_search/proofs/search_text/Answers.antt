-- `text_search::search_text` meets its contract: a refused text leaves its refusal and a blank plan buffer, any other
-- what the search leaves.
use mathlib.Core.Path.{◌≡◌, sym, ap, ◌∙◌}
use mathlib.Core.Logic.{◌≢◌}
use mathlib.Core.List.{List}
use Prim.Native.Nat.{ℕ}
use lib.ListN.{length, replicate}
use Rattle.model_spec.proofs.BufferLaws.{filled-whole}
use Rattle.files_spec.specs.Reading.{reading}
use Rattle.files_spec.specs.declared.Reading.{Reading}
use Rattle.search_spec.specs.Query.{Query, query_of}
use Rattle.search_spec.specs.Searched.{Searched, searched, no_move}
use Rattle.planner_spec.specs.Packed.{text_refused, searched_text}
use Rattle.planner_spec.proofs.TextSearchLaws.{refused-text, read-text, text-found}
use Rattle.text_search.proofs.search_text.Goals as goal

-- by what the reader gave
module _ (text : List ℕ) (query : Query) (room : ℕ) (file : Reading) (e : file ≡ reading text) where
  refused : file.outcome ≢ 0 → (plan : List ℕ) → plan ≡ replicate room no_move
      → searched_text text query room
      ≡ record { answer = record { outcome = file.outcome; cost = 0; length = 0; steps = 0; floor = 0 }; plan = plan }
  unfolding text_refused
  refused n plan p =
      let o = ap (λ (f : Reading). f.outcome) e in
      refused-text text query room (λ z. n (o ∙ z))
      ∙ (λ i. record {
        answer = record { outcome = sym o i; cost = 0; length = 0; steps = 0; floor = 0 };
        plan = sym p i;
      })

  read : file.outcome ≡ 0 → (found : Searched) → searched file.set query room ≡ found
      → searched_text text query room ≡ found
  read z found f =
      read-text text query room (sym (ap (λ (f : Reading). f.outcome) e) ∙ z)
      ∙ ap (λ (f : Reading). searched f.set query room) (sym e)
      ∙ f

pub returns-then-refusal-ne0 : goal.returns-then-refusal-ne0
returns-then-refusal-ne0 c =
    let a = c.args in
    let query = query_of a.query in
    let room = length a.plan.now in
    let text = a.text.now in
    let blank = c.fill_from.ensures ∙ filled-whole no_move a.plan.now in
    text-found text query room _
    (refused text query room c.read-file.result c.read-file.ensures.0 c.if-refusal-ne0.true _ blank)

pub returns : goal.returns
returns c =
    let a = c.args in
    let query = query_of a.query in
    let room = length a.plan.now in
    let text = a.text.now in
    text-found text query room _
    (read text query room c.read-file.result c.read-file.ensures.0 c.if-refusal-ne0.false _ c.search.ensures.0)
