-- What the clients' tallies show of many queries: the sum of each count over the clients is the single tally's, while
-- that is below the top, and each client's tally is that of its own queries.
-- Assumes nothing.
use mathlib.Core.Path.{◌≡◌, refl, sym, ap, subst, ◌∙◌}
use mathlib.Core.Logic.{◌⊎◌, inl, inr, ◌≢◌}
use mathlib.Core.Bool.{Bool, true, false, not, cond}
use mathlib.Core.List.{List, [], ◌∷◌, map}
use Prim.Native.Nat.{ℕ, zero, suc, ◌+◌, ◌-◌, ◌≤◌, ◌<◌}
use native.Mathlib.Omega.{arith}
use lib.Dec.{eqb}
use lib.ListN.{length, get_or, set as replace, replicate, length-replicate, get_or-replicate}
use borrow.Author.Tests.{eq-eqb, ne_eqb}
use Rattle.theory_spec.proofs.TestLaws.{equal?}
use Rattle.search_spec.specs.Searched.{is_limited, is_answer, Searched, searched}
use Rattle.search_spec.specs.Tallies.{top, raised, raised_if, tallied_of}
use Rattle.search_spec.specs.declared.Tally.{Tally}
use Rattle.clients_spec.specs.Clients.{is_listed, zero_tally, tally_of, client_tallied, Listed}
use Rattle.clients_spec.specs.Clients.{client_searched, client_queried}
use Rattle.clients_spec.specs.Sums.{five_at, sum_at, Counted, tallies_after, single_after, own_after, SumMeaning}
use Rattle.clients_spec.specs.Sums.{ClientQuery, as_counted, searches_after}
use Rattle.clients_spec.proofs.ClientLaws.{listed_iff, unlisted_iff, listed?, own-set, all_stay, own-tally}
use Rattle.clients_spec.proofs.ClientLaws.{others_stay_lem, same_length, searched-listed}

-- ── What a query adds to a count ─────────────────────────────────────────────────────────────────

-- a count grew by a number, as long as it stays below the top
abbrev Grew : ℕ → ℕ → ℕ → Type 0
Grew before by after = (after < top → after ≡ before + by) × (before + by < top → after ≡ before + by)

raised_grew : (before by : ℕ) → Grew before by (raised before by)
raised_grew before by = (λ h. omega arith, λ h. omega arith)

raised_if_grew : (hit : Bool) (before : ℕ) → Grew before (cond hit 1 0) (raised_if hit before)
raised_if_grew true before = raised_grew before 1
raised_if_grew false before = (λ h. omega arith, λ h. omega arith)

-- a query adds the same to whatever tally it is counted in
adds : (outcome steps i : ℕ) → i < 5
    → (by : ℕ) × ((tally : Tally) → Grew (five_at tally i) by (five_at (tallied_of tally outcome steps) i))
unfolding tallied_of
adds outcome steps zero h = (_, λ tally. raised_if_grew (eqb outcome 0) tally.solved)
adds outcome steps (suc zero) h = (_, λ tally. raised_if_grew (eqb outcome 15) tally.unsolvable)
adds outcome steps (suc (suc zero)) h = (_, λ tally. raised_if_grew (is_limited outcome) tally.limited)
adds outcome steps (suc (suc (suc zero))) h = (_, λ tally. raised_if_grew (not (is_answer outcome)) tally.refused)
adds outcome steps (suc (suc (suc (suc zero)))) h = (_, λ tally. raised_grew tally.steps steps)
adds outcome steps (suc (suc (suc (suc (suc i))))) h = absurd (omega arith)

-- ── Sums ─────────────────────────────────────────────────────────────────────────────────────────

module _ (i : ℕ) where
  -- a tally replaced in the list
  sum-replaced : (tallies : List Tally) (j : ℕ) → j < length tallies → (tally : Tally)
      → sum_at i (replace tallies j tally) + five_at (get_or tallies j zero_tally) i ≡ sum_at i tallies + five_at tally i
  unfolding sum_at
  sum-replaced [] j h tally = absurd (omega arith)
  sum-replaced (x ∷ xs) zero h tally = omega arith
  sum-replaced (x ∷ xs) (suc j) h tally = omega (arith, sum-replaced xs j (omega arith) tally)

  -- each is at most the sum
  in_sum : (tallies : List Tally) (j : ℕ) → j < length tallies → five_at (get_or tallies j zero_tally) i ≤ sum_at i tallies
  unfolding sum_at
  in_sum [] j h = absurd (omega arith)
  in_sum (x ∷ xs) zero h = omega arith
  in_sum (x ∷ xs) (suc j) h = omega (arith, in_sum xs j (omega arith))

  -- the sum is the single tally's count, while that is below the top
  abbrev SumIs : List Tally → Tally → Type 0
  SumIs tallies single = five_at single i < top → sum_at i tallies ≡ five_at single i

  module _ (bound : i < 5) (q : Counted) (tallies : List Tally) (single : Tally) where
    abbrev next : List Tally
    next = client_tallied tallies q.client q.outcome q.steps

    abbrev listed : Bool
    listed = is_listed (length tallies) q.client

    abbrev counted : Tally → Tally
    counted tally = tallied_of tally q.outcome q.steps

    sum-listed : Listed (length tallies) q.client → SumIs tallies single → SumIs next (counted single)
    sum-listed l e below =
        let own = tally_of tallies q.client in
        let within : q.client - 1 < length tallies = omega (arith, l.from_one, l.in_list) in
        let added = adds q.outcome q.steps i bound in
        let grew = (added.1 single).0 below in
        let sum = e (omega (arith, grew, below)) in
        let part = in_sum tallies (q.client - 1) within in
        let own-grew = (added.1 own).1 (omega (arith, grew, below, sum, part)) in
        let replaced = sum-replaced tallies (q.client - 1) within (counted own) in
        let is = ap (sum_at i) (own-set tallies q.client q.outcome q.steps l) in
        omega (arith, grew, sum, own-grew, replaced, is)

    sum_then : SumIs tallies single → SumIs next (cond listed (counted single) single)
    sum_then e = go (listed? (length tallies) q.client)
      where
        by : {b : Bool} → b ≡ listed → SumIs next (cond b (counted single) single)
            → SumIs next (cond listed (counted single) single)
        by is = subst (λ t. SumIs next (cond t (counted single) single)) is

        go : Listed (length tallies) q.client ⊎ (Listed (length tallies) q.client → ⊥)
            → SumIs next (cond listed (counted single) single)
        go (inl l) = by (sym ((listed_iff (length tallies) q.client).1 l)) (sum-listed l e)
        go (inr n) =
            by (sym ((unlisted_iff (length tallies) q.client).1 n))
            (subst (λ ts. SumIs ts single) (sym (all_stay tallies q.client q.outcome q.steps n)) e)

  sums_kept : i < 5 → (queries : List Counted) (tallies : List Tally) (single : Tally)
      → SumIs tallies single
      → SumIs (tallies_after tallies queries) (single_after (length tallies) single queries)
  unfolding tallies_after single_after
  sums_kept bound [] tallies single e = e
  sums_kept bound (q ∷ later) tallies single e =
      let after = client_tallied tallies q.client q.outcome q.steps in
      let then =
      cond (is_listed (length tallies) q.client) (tallied_of single q.outcome q.steps) single in
      subst (λ n. SumIs (tallies_after after later) (single_after n then later))
      (same_length tallies q.client q.outcome q.steps)
      (sums_kept bound later after then (sum_then bound q tallies single e))

  -- begun at zero
  zero_at : i < 5 → five_at zero_tally i ≡ 0
  zero_at = go i
    where
      go : (k : ℕ) → k < 5 → five_at zero_tally k ≡ 0
      go zero h = refl
      go (suc zero) h = refl
      go (suc (suc zero)) h = refl
      go (suc (suc (suc zero))) h = refl
      go (suc (suc (suc (suc zero)))) h = refl
      go (suc (suc (suc (suc (suc k))))) h = absurd (omega arith)

  zero-sum : i < 5 → (count : ℕ) → sum_at i (replicate count zero_tally) ≡ 0
  unfolding sum_at
  zero-sum bound zero = refl
  zero-sum bound (suc count) = omega (arith, zero_at bound, zero-sum bound count)

-- ── Each client's own ────────────────────────────────────────────────────────────────────────────

module _ (client : ℕ) where
  own_then : (q : Counted) (tallies : List Tally) → Listed (length tallies) client
      → tally_of (client_tallied tallies q.client q.outcome q.steps) client
      ≡ cond (eqb q.client client) (tallied_of (tally_of tallies client) q.outcome q.steps)
      (tally_of tallies client)
  own_then q tallies l = go (equal? q.client client)
    where
      go : (q.client ≡ client) ⊎ (q.client ≢ client)
          → tally_of (client_tallied tallies q.client q.outcome q.steps) client
          ≡ cond (eqb q.client client) (tallied_of (tally_of tallies client) q.outcome q.steps)
          (tally_of tallies client)
      go (inl e) = rw (e, eq-eqb client client refl) (own-tally tallies client q.outcome q.steps l)
      go (inr n) =
          rw (ne_eqb q.client client n)
          (others_stay_lem tallies q.client q.outcome q.steps client l.from_one (λ e. n (sym e)))

  own-kept : (queries : List Counted) (tallies : List Tally) → Listed (length tallies) client
      → tally_of (tallies_after tallies queries) client ≡ own_after client (tally_of tallies client) queries
  unfolding tallies_after own_after
  own-kept [] tallies l = refl
  own-kept (q ∷ later) tallies l =
      let after = client_tallied tallies q.client q.outcome q.steps in
      let size = same_length tallies q.client q.outcome q.steps in
      own-kept later after (subst (λ n. Listed n client) (sym size) l)
      ∙ ap (λ tally. own_after client tally later) (own_then q tallies l)

all_there : (queries : List Counted) (tallies : List Tally) → length (tallies_after tallies queries) ≡ length tallies
unfolding tallies_after
all_there [] tallies = refl
all_there (q ∷ later) tallies =
    all_there later (client_tallied tallies q.client q.outcome q.steps)
    ∙ same_length tallies q.client q.outcome q.steps

-- ── Begun at zero ────────────────────────────────────────────────────────────────────────────────

-- the law of sums, for any number of clients and any queries
pub sum_meaning : (count : ℕ) (queries : List Counted)
    → SumMeaning count queries (tallies_after (replicate count zero_tally) queries)
sum_meaning count queries =
    let begun = replicate count zero_tally in
    let size = length-replicate count zero_tally in
    record {
      sums = λ i bound. subst (λ n. SumIs i (tallies_after begun queries) (single_after n zero_tally queries)) size
          (sums_kept i bound queries begun zero_tally (λ _. zero-sum i bound count ∙ sym (zero_at i bound)));
      own_use = λ client l. own-kept client queries begun (subst (λ n. Listed n client) (sym size) l)
          ∙ ap (λ tally. own_after client tally queries) (get_or-replicate count (client - 1) zero_tally zero_tally (omega (arith, l.from_one, l.in_list)));
      all_there = all_there queries begun ∙ size;
    }

-- ── Of searches ──────────────────────────────────────────────────────────────────────────────────

-- a client's query changes the tallies as it is counted
query-counted : (q : ClientQuery) (tallies : List Tally)
    → (let c = as_counted q in
    (client_queried q.set q.query q.room tallies q.client).tallies
    ≡ client_tallied tallies c.client c.outcome c.steps)
unfolding client_queried
query-counted q tallies = go (listed? (length tallies) q.client)
  where
    by : Searched → List Tally
    by found = client_tallied tallies q.client found.answer.outcome found.answer.steps

    go : Listed (length tallies) q.client ⊎ (Listed (length tallies) q.client → ⊥)
        → by (client_searched (length tallies) q.client q.set q.query q.room)
        ≡ by (searched q.set q.query q.room)
    go (inl l) = ap by (searched-listed (length tallies) q.client q.set q.query q.room l)
    go (inr n) = all_stay tallies q.client _ _ n ∙ sym (all_stay tallies q.client _ _ n)

searches-counted : (queries : List ClientQuery) (tallies : List Tally)
    → searches_after tallies queries ≡ tallies_after tallies (map as_counted queries)
unfolding searches_after tallies_after
searches-counted [] tallies = refl
searches-counted (q ∷ later) tallies =
    searches-counted later _
    ∙ ap (λ ts. tallies_after ts (map as_counted later)) (query-counted q tallies)

-- the law of sums, of searches
pub searches-sum : (count : ℕ) (queries : List ClientQuery)
    → SumMeaning count (map as_counted queries) (searches_after (replicate count zero_tally) queries)
searches-sum count queries =
    subst (SumMeaning count (map as_counted queries)) (sym (searches-counted queries (replicate count zero_tally)))
    (sum_meaning count (map as_counted queries))
