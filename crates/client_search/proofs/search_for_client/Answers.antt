-- `client_search::search_for_client` meets its contract: a search, and then the update of the client's tally.
use Rattle.std.proofs.Common.{length}
use Rattle.search_spec.specs.Query.{Query, query_of}
use Rattle.clients_spec.proofs.ClientLaws.{client-queried}
use Rattle.client_search.proofs.search_for_client.Goals as goal

pub returns : goal.returns
returns c =
    let a = c.args in
    let query : Query = query_of a.query in
    client-queried a.set query (length a.plan.now) a.client a.tallies.now _ _ c.search_listed-answer.ensures
    c.update_client.ensures.1
