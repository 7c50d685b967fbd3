-- What the clients' tallies show of many queries, one after the other: each client its own use, and all together what
-- one tally would have shown.
use Rattle.std.specs.Prelude.{◌≡◌, cond, List, [], ◌∷◌, ◌++◌, ℕ, ◌+◌, ◌<◌, eqb, length, get_or}
use Rattle.model_spec.specs.declared.RuleSet.{RuleSet}
use Rattle.search_spec.specs.Query.{Query}
use Rattle.search_spec.specs.Searched.{searched}
use Rattle.search_spec.specs.Tallies.{top, tallied_of, counts}
use Rattle.search_spec.specs.declared.Tally.{Tally}
use Rattle.clients_spec.specs.Clients.{is_listed, zero_tally, tally_of, client_tallied, client_queried, Listed}

-- the five counts of a tally, and the one at a place, from 0 on
abbrev pub five_counts : Tally → List ℕ
five_counts tally = counts tally ++ (tally.steps ∷ [])

abbrev pub five_at : Tally → ℕ → ℕ
five_at tally i = get_or (five_counts tally) i 0

-- the sum of one of them over the clients
unfoldable pub sum_at : ℕ → List Tally → ℕ
sum_at i [] = 0
sum_at i (tally ∷ tallies) = five_at tally i + sum_at i tallies

-- a query as it is counted: who asked, its outcome and its steps
pub record Counted : Type 0 where
  pub client : ℕ
  pub outcome : ℕ
  pub steps : ℕ

-- the clients' tallies after queries
unfoldable pub tallies_after : List Tally → List Counted → List Tally
tallies_after tallies [] = tallies
tallies_after tallies (q ∷ later) = tallies_after (client_tallied tallies q.client q.outcome q.steps) later

-- a single tally after the same queries: those of clients that are not among so many, which give 19, are left aside
unfoldable pub single_after : ℕ → Tally → List Counted → Tally
single_after count tally [] = tally
single_after count tally (q ∷ later) =
    single_after count (cond (is_listed count q.client) (tallied_of tally q.outcome q.steps) tally) later

-- a tally after the queries of one client
unfoldable pub own_after : ℕ → Tally → List Counted → Tally
own_after client tally [] = tally
own_after client tally (q ∷ later) =
    own_after client (cond (eqb q.client client) (tallied_of tally q.outcome q.steps) tally) later

-- what the tallies of so many clients, all begun at zero, show after queries
pub record SumMeaning (count : ℕ) (queries : List Counted) (after : List Tally) : Type 0 where
  -- "the sum over the desks of each count is what the single tally would have shown, 19 left aside, while that is below
  -- the top"
  pub sums : (i : ℕ) → i < 5 → five_at (single_after count zero_tally queries) i < top
      → sum_at i after ≡ five_at (single_after count zero_tally queries) i
  -- each client's tally is what its own queries alone would have shown
  pub own_use : (client : ℕ) → Listed count client → tally_of after client ≡ own_after client zero_tally queries
  -- there are as many tallies as clients
  pub all_there : length after ≡ count

-- ── Of searches ──────────────────────────────────────────────────────────────────────────────────

-- a search, and the client that asks for it
pub record ClientQuery : Type 0 where
  pub client : ℕ
  pub set : RuleSet
  pub query : Query
  pub room : ℕ

-- as it is counted
abbrev pub as_counted : ClientQuery → Counted
as_counted q =
    let answer = (searched q.set q.query q.room).answer in
    record { client = q.client; outcome = answer.outcome; steps = answer.steps }

-- the clients' tallies after searches
unfoldable pub searches_after : List Tally → List ClientQuery → List Tally
searches_after tallies [] = tallies
searches_after tallies (q ∷ later) =
    searches_after (client_queried q.set q.query q.room tallies q.client).tallies later
