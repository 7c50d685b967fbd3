-- What a client's update and a client's query mean, for every list, client and query; and that a list of one is the
-- single tally of document 01.
-- Assumes nothing.
use mathlib.Core.Path.{◌≡◌, refl, sym, ap, subst, ◌∙◌}
use mathlib.Core.Logic.{◌↔◌, ◌⊎◌, inl, inr, ◌≢◌}
use mathlib.Core.Bool.{Bool, true, false, cond}
use mathlib.Core.List.{List, [], ◌∷◌}
use Prim.Native.Nat.{ℕ, ◌-◌, ◌≤◌, ◌<◌}
use native.Mathlib.Omega.{arith}
use lib.ListN.{length, set as replace, length-set}
use lib.Seq.{get_or-set_same, get_or-set_other}
use Rattle.theory_spec.proofs.TestLaws.{and_iff, within_iff, fails_iff}
use Rattle.model_spec.specs.declared.RuleSet.{RuleSet}
use Rattle.search_spec.specs.Query.{Query}
use Rattle.search_spec.specs.Searched.{Searched, searched, refused_search, SearchMeaning}
use Rattle.search_spec.specs.Tallies.{tallied_of, TallyMeaning}
use Rattle.search_spec.specs.declared.Tally.{Tally}
use Rattle.search_spec.proofs.AnswerLaws.{outcome_bound}
use Rattle.search_spec.proofs.MeaningLaws.{search_meaning}
use Rattle.search_spec.proofs.PlanPartLaws.{part_meaning}
use Rattle.search_spec.proofs.TallyLaws.{tally_meaning}
use Rattle.clients_spec.specs.Clients.{
  client_limit,
  is_listed,
  client_refusal,
  zero_tally,
  tally_of,
  client_tallied,
  client_searched,
  client_queried,
  Listed,
  UpdateMeaning,
  ClientMeaning,
}

-- ── Who is listed ────────────────────────────────────────────────────────────────────────────────

module _ (count client : ℕ) where
  pub listed_iff : (is_listed count client ≡ true) ↔ Listed count client
  unfolding is_listed
  listed_iff =
      let tested = and_iff _ _ (within_iff 1 client_limit count) (within_iff 1 count client) in (
        λ e. let t = tested.0 e in
            record { not_empty = t.0.0; within_limit = t.0.1; from_one = t.1.0; in_list = t.1.1 },
        λ l. tested.1 ((l.not_empty, l.within_limit), (l.from_one, l.in_list)),
      )

  pub unlisted_iff : (is_listed count client ≡ false) ↔ (Listed count client → ⊥)
  unlisted_iff = fails_iff (is_listed count client) listed_iff

  -- a client is listed or not
  pub listed? : Listed count client ⊎ (Listed count client → ⊥)
  listed? = go (is_listed count client) refl
    where
      go : (b : Bool) → is_listed count client ≡ b → Listed count client ⊎ (Listed count client → ⊥)
      go true e = inl (listed_iff.0 e)
      go false e = inr (unlisted_iff.0 e)

  -- the number that is given
  given_0 : Listed count client → client_refusal count client ≡ 0
  unfolding client_refusal
  given_0 l = rw (listed_iff.1 l)

  given_19 : (Listed count client → ⊥) → client_refusal count client ≡ 19
  unfolding client_refusal
  given_19 n = rw (unlisted_iff.1 n)

  pub refusal_0_iff : (client_refusal count client ≡ 0) ↔ Listed count client
  refusal_0_iff = (λ e. go e listed?, given_0)
    where
      go : client_refusal count client ≡ 0 → Listed count client ⊎ (Listed count client → ⊥) → Listed count client
      go e (inl l) = l
      go e (inr n) = absurd (omega (arith, given_19 n))

  pub refusal_19_iff : (client_refusal count client ≡ 19) ↔ (Listed count client → ⊥)
  refusal_19_iff = (λ e l. omega (arith, given_0 l), given_19)

-- ── The update ───────────────────────────────────────────────────────────────────────────────────

module _ (tallies : List Tally) (client outcome steps : ℕ) where
  abbrev after : List Tally
  after = client_tallied tallies client outcome steps

  pub own-set : Listed (length tallies) client
      → after ≡ replace tallies (client - 1) (tallied_of (tally_of tallies client) outcome steps)
  unfolding client_tallied
  own-set l = rw ((listed_iff (length tallies) client).1 l)

  pub all_stay : (Listed (length tallies) client → ⊥) → after ≡ tallies
  unfolding client_tallied
  all_stay n = rw ((unlisted_iff (length tallies) client).1 n)

  pub own-tally : Listed (length tallies) client
      → tally_of after client ≡ tallied_of (tally_of tallies client) outcome steps
  own-tally l =
      let within : client - 1 < length tallies = omega (arith, l.from_one, l.in_list) in
      ap (λ ts. tally_of ts client) (own-set l) ∙ get_or-set_same tallies (client - 1) _ zero_tally within

  pub others_stay_lem : (other : ℕ) → 1 ≤ other → other ≢ client → tally_of after other ≡ tally_of tallies other
  others_stay_lem other h k = go (listed? (length tallies) client)
    where
      go : Listed (length tallies) client ⊎ (Listed (length tallies) client → ⊥)
          → tally_of after other ≡ tally_of tallies other
      go (inl l) =
          let apart : other - 1 ≢ client - 1 = λ e. k (omega (arith, h, l.from_one, e)) in
          ap (λ ts. tally_of ts other) (own-set l) ∙ get_or-set_other tallies (client - 1) (other - 1) _ zero_tally apart
      go (inr n) = ap (λ ts. tally_of ts other) (all_stay n)

  pub same_length : length after ≡ length tallies
  same_length = go (listed? (length tallies) client)
    where
      go : Listed (length tallies) client ⊎ (Listed (length tallies) client → ⊥) → length after ≡ length tallies
      go (inl l) = ap length (own-set l) ∙ length-set tallies (client - 1) _
      go (inr n) = ap length (all_stay n)

  own_updated_lem : Listed (length tallies) client
      → TallyMeaning outcome steps (tally_of tallies client) (tally_of after client)
  own_updated_lem l =
      subst (TallyMeaning outcome steps (tally_of tallies client)) (sym (own-tally l))
      (tally_meaning (tally_of tallies client) outcome steps)

  -- the update has its meaning, for every list, client, outcome and number of steps
  pub update_meaning : UpdateMeaning client outcome steps (client_refusal (length tallies) client) tallies after
  update_meaning =
      record {
        not_listed = refusal_19_iff (length tallies) client;
        listed = refusal_0_iff (length tallies) client;
        all_stay = all_stay;
        own_updated = own_updated_lem;
        others_stay = others_stay_lem;
        same_length = same_length;
      }

  -- what is given and left together
  pub client_updated : (refusal : ℕ) (left : List Tally) → refusal ≡ client_refusal (length tallies) client → left ≡ after
      → (refusal ≡ client_refusal (length tallies) client)
      × (left ≡ after)
      × UpdateMeaning client outcome steps refusal tallies left
  client_updated refusal left e d = (
    e,
    d,
    subst (λ n. UpdateMeaning client outcome steps n tallies left) (sym e)
        (subst (UpdateMeaning client outcome steps (client_refusal (length tallies) client) tallies) (sym d) update_meaning),
  )

-- ── The query ────────────────────────────────────────────────────────────────────────────────────

module _ (count client : ℕ) (set : RuleSet) (query : Query) (room : ℕ) where
  pub searched-listed : Listed count client → client_searched count client set query room ≡ searched set query room
  unfolding client_searched
  searched-listed l = rw ((listed_iff count client).1 l)

  pub searched_unlisted : (Listed count client → ⊥)
      → client_searched count client set query room ≡ refused_search 19 room
  unfolding client_searched
  searched_unlisted n = rw ((unlisted_iff count client).1 n)

  -- 19 exactly if the client is not listed: no search gives it
  pub searched_19_iff : ((client_searched count client set query room).answer.outcome ≡ 19)
      ↔ (Listed count client → ⊥)
  unfolding refused_search
  searched_19_iff = (
    λ e l. let same = ap (λ (f : Searched). f.answer.outcome) (searched-listed l) in
        omega (arith, e, same, outcome_bound set query room),
    λ n. ap (λ (f : Searched). f.answer.outcome) (searched_unlisted n),
  )

module _ (set : RuleSet) (query : Query) (room client : ℕ) (before : List Tally) where
  abbrev found : Searched
  found = client_searched (length before) client set query room

  abbrev updated : List Tally
  updated = client_tallied before client found.answer.outcome found.answer.steps

  -- what a client's query leaves has its meaning, for every set, query, list and client
  pub client_meaning : ClientMeaning set query room client before found updated
  unfolding refused_search
  client_meaning =
      let count = length before in
      let outcome = found.answer.outcome in
      let steps = found.answer.steps in
      record {
        not_listed = searched_19_iff count client set query room;
        no_steps = λ n. ap (λ (f : Searched). f.answer.steps) (unlisted n);
        no_plan_shown = λ n. (
          ap (λ (f : Searched). f.answer.cost) (unlisted n),
          ap (λ (f : Searched). f.answer.length) (unlisted n),
          ap (λ (f : Searched). f.answer.floor) (unlisted n),
          ap (λ (f : Searched). f.plan) (unlisted n),
        );
        all_stay = all_stay before client outcome steps;
        searches = λ l. let means = subst (λ f. SearchMeaning set query room f) (sym (listed l))
            (search_meaning set query room) in
            (means, part_meaning set query room found means);
        own_updated = own_updated_lem before client outcome steps;
        others_stay = others_stay_lem before client outcome steps;
        same_length = same_length before client outcome steps;
      }
    where
      listed : Listed (length before) client → found ≡ searched set query room
      listed = searched-listed (length before) client set query room

      unlisted : (Listed (length before) client → ⊥) → found ≡ refused_search 19 room
      unlisted = searched_unlisted (length before) client set query room

  -- a search and an update, one after the other
  pub client-queried : (answered : Searched) (after : List Tally)
      → found ≡ answered
      → after ≡ client_tallied before client answered.answer.outcome answered.answer.steps
      → (client_queried set query room before client ≡ record { found = answered; tallies = after })
      × ClientMeaning set query room client before answered after
  unfolding client_queried
  client-queried answered after e d =
      let tallied : Searched → List Tally =
      λ f. client_tallied before client f.answer.outcome f.answer.steps in
      let both = ap tallied e ∙ sym d in (
        (λ i. record { found = e i; tallies = both i }),
        subst (λ t. ClientMeaning set query room client before answered t) (sym d)
            (subst (λ f. ClientMeaning set query room client before f (tallied f)) e client_meaning),
      )

-- a single tally is a list of one
pub list_of_one : (set : RuleSet) (query : Query) (room : ℕ) (tally : Tally)
    → (let found = searched set query room in
    client_queried set query room (tally ∷ []) 1
    ≡ record { found = found; tallies = tallied_of tally found.answer.outcome found.answer.steps ∷ [] })
unfolding client_queried client_searched client_tallied is_listed
list_of_one set query room tally = refl
