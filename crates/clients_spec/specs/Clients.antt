-- A tally for each client (document 02: desk). The clients' tallies are one lent list of 1 to 16, and a query names its
-- client, counted from 1: it changes that client's tally and no other's.
use Rattle.std.specs.Prelude.{◌≡◌, ◌↔◌, ◌≢◌, Bool, ◌&&◌, cond, List, ℕ, ◌-◌, ◌≤◌, length, get_or, set as replace}
use Rattle.std.specs.Prelude.{replicate}
use Rattle.theory_spec.specs.Lists.{within}
use Rattle.model_spec.specs.declared.RuleSet.{RuleSet}
use Rattle.search_spec.specs.Query.{Query}
use Rattle.search_spec.specs.Searched.{no_move, Searched, searched, refused_search, SearchMeaning}
use Rattle.search_spec.specs.PlanPart.{PartMeaning}
use Rattle.search_spec.specs.Tallies.{tallied_of, TallyMeaning}
use Rattle.search_spec.specs.declared.Tally.{Tally}

-- a list has at most so many tallies
abbrev pub client_limit : ℕ
client_limit = 16

-- the list has 1 to 16 tallies, and the client is in it
unfoldable pub is_listed : ℕ → ℕ → Bool
is_listed count client = within 1 client_limit count && within 1 count client

-- 19: a list not of 1 to 16 tallies, or a client not in it
unfoldable pub client_refusal : ℕ → ℕ → ℕ
client_refusal count client = cond (is_listed count client) 0 19

-- the tally of no query
abbrev pub zero_tally : Tally
zero_tally = record { solved = 0; unsolvable = 0; limited = 0; refused = 0; steps = 0 }

-- the tally of a client, counted from 1
abbrev pub tally_of : List Tally → ℕ → Tally
tally_of tallies client = get_or tallies (client - 1) zero_tally

-- the tallies after a query of a client: its own is updated; with 19 none is
unfoldable pub client_tallied : List Tally → ℕ → ℕ → ℕ → List Tally
client_tallied tallies client outcome steps =
    cond (is_listed (length tallies) client)
    (replace tallies (client - 1) (tallied_of (tally_of tallies client) outcome steps))
    tallies

-- the search of a client among so many: 19 comes before all else
unfoldable pub client_searched : ℕ → ℕ → RuleSet → Query → ℕ → Searched
client_searched count client set query room =
    cond (is_listed count client) (searched set query room) (refused_search 19 room)

-- what a query of a client leaves
pub record ClientQueried : Type 0 where
  pub found : Searched
  pub tallies : List Tally

-- a search, and then the update of the client's tally
unfoldable pub client_queried : RuleSet → Query → ℕ → List Tally → ℕ → ClientQueried
client_queried set query room tallies client =
    let found = client_searched (length tallies) client set query room in
    record { found = found; tallies = client_tallied tallies client found.answer.outcome found.answer.steps }

-- ── As a statement ───────────────────────────────────────────────────────────────────────────────

-- a list of 1 to 16 tallies, and a client in it, counted from 1
pub record Listed (count client : ℕ) : Type 0 where
  pub not_empty : 1 ≤ count
  pub within_limit : count ≤ client_limit
  pub from_one : 1 ≤ client
  pub in_list : client ≤ count

-- what the update by a client's outcome and steps means: of the list, and of the number that is given
pub record UpdateMeaning (client outcome steps refusal : ℕ) (before after : List Tally) : Type 0 where
  -- 19 exactly if the client is not listed, and then no tally changes; 0 exactly if it is
  pub not_listed : (refusal ≡ 19) ↔ (Listed (length before) client → ⊥)
  pub listed : (refusal ≡ 0) ↔ Listed (length before) client
  pub all_stay : (Listed (length before) client → ⊥) → after ≡ before
  -- its own tally is updated, and each other is what it was
  pub own_updated : Listed (length before) client
      → TallyMeaning outcome steps (tally_of before client) (tally_of after client)
  pub others_stay : (other : ℕ) → 1 ≤ other → other ≢ client → tally_of after other ≡ tally_of before other
  -- the list is as long as before
  pub same_length : length after ≡ length before

-- what a client's query means: of the answer, the plan buffer and the list
pub record ClientMeaning (set : RuleSet) (query : Query) (room client : ℕ) (before : List Tally) (found : Searched)
    (after : List Tally) : Type 0 where
  -- 19 exactly if the client is not listed, whatever else holds; then there are no steps, no plan and no floor, the
  -- plan buffer is blank, and no tally changes
  pub not_listed : (found.answer.outcome ≡ 19) ↔ (Listed (length before) client → ⊥)
  pub no_steps : (Listed (length before) client → ⊥) → found.answer.steps ≡ 0
  pub no_plan_shown : (Listed (length before) client → ⊥)
      → (found.answer.cost ≡ 0)
      × (found.answer.length ≡ 0)
      × (found.answer.floor ≡ 0)
      × (found.plan ≡ replicate room no_move)
  pub all_stay : (Listed (length before) client → ⊥) → after ≡ before
  -- of a listed client it is a search, for every set and query
  pub searches : Listed (length before) client → SearchMeaning set query room found × PartMeaning set query room found
  -- its own tally is updated by the answer, and each other is what it was
  pub own_updated : Listed (length before) client
      → TallyMeaning found.answer.outcome found.answer.steps (tally_of before client) (tally_of after client)
  pub others_stay : (other : ℕ) → 1 ≤ other → other ≢ client → tally_of after other ≡ tally_of before other
  -- the list is as long as before
  pub same_length : length after ≡ length before
