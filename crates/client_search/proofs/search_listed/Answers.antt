-- `client_search::search_listed` meets its contract: 19 and a blank plan where the client is not listed, else a search.
use Rattle.std.proofs.Common.{◌≡◌, ◌≢◌, ℕ, length, sym, ap, ◌∙◌}
use Rattle.search_spec.specs.Query.{Query, query_of}
use Rattle.search_spec.specs.Searched.{refused_search}
use Rattle.clients_spec.specs.Clients.{client_refusal, Listed}
use Rattle.clients_spec.proofs.ClientLaws.{refusal_0_iff, refusal_19_iff, searched-listed, searched_unlisted}
use Rattle.client_search.proofs.search_listed.Goals as goal

unlisted : (count client refusal : ℕ) → refusal ≡ client_refusal count client → refusal ≢ 0
    → Listed count client → ⊥
unlisted count client refusal e n l = n (e ∙ (refusal_0_iff count client).1 l)

pub returns-then-refusal-ne0 : goal.returns-then-refusal-ne0
returns-then-refusal-ne0 c =
    let a = c.args in
    let given = c.client_refusal-refusal.ensures in
    let room = length a.plan.now in
    let query : Query = query_of a.query in
    let out = unlisted a.count a.client c.client_refusal-refusal.result given c.if-refusal-ne0.true in
    searched_unlisted a.count a.client a.set query room out
    ∙ ap (λ n. refused_search n room) (sym (given ∙ (refusal_19_iff a.count a.client).1 out))
    ∙ c.refused_search.ensures

pub returns : goal.returns
returns c =
    let a = c.args in
    let room = length a.plan.now in
    let query : Query = query_of a.query in
    let l : Listed a.count a.client =
    (refusal_0_iff a.count a.client).0 (sym c.client_refusal-refusal.ensures ∙ c.if-refusal-ne0.false) in
    searched-listed a.count a.client a.set query room l ∙ c.search.ensures.0
