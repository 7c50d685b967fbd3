-- `client_tallies::update_client` meets its contract: a listed client has a place in the list, and its own tally alone
-- is replaced; of another client the list stays.
use Rattle.std.proofs.Common.{◌≡◌, ◌≢◌, ◌-◌, ℕ, set, arith, sym, ap, ◌∙◌}
use Rattle.clients_spec.specs.Clients.{client_refusal, Listed}
use Rattle.clients_spec.proofs.ClientLaws.{refusal_0_iff, own-set, all_stay, client_updated}
use Rattle.client_tallies.proofs.update_client.Goals as goal

-- whoever is not refused is listed; whoever is refused is not
is_listed_lem : (count client refusal : ℕ) → refusal ≡ client_refusal count client → refusal ≡ 0 → Listed count client
is_listed_lem count client refusal e z = (refusal_0_iff count client).0 (sym e ∙ z)

unlisted : (count client refusal : ℕ) → refusal ≡ client_refusal count client → refusal ≢ 0
    → Listed count client → ⊥
unlisted count client refusal e n l = n (e ∙ (refusal_0_iff count client).1 l)

pub returns-then-refusal-ne0 : goal.returns-then-refusal-ne0
returns-then-refusal-ne0 c =
    let a = c.args in
    let given = c.client_refusal-refusal.ensures in
    client_updated a.tallies.now a.client a.outcome a.steps _ _ given
    (sym (all_stay a.tallies.now a.client a.outcome a.steps (unlisted _ _ _ given c.if-refusal-ne0.true)))

pub overflow_sub-client : goal.overflow_sub-client
overflow_sub-client c =
    let l = is_listed_lem _ _ _ c.client_refusal-refusal.ensures c.if-refusal-ne0.false in omega (arith, l.from_one)

pub offset_bounds-tallies-client : goal.offset_bounds-tallies-client
offset_bounds-tallies-client c =
    let l = is_listed_lem _ _ _ c.client_refusal-refusal.ensures c.if-refusal-ne0.false in
    omega (arith, l.in_list, l.within_limit)

pub bounds-tallies-client : goal.bounds-tallies-client
bounds-tallies-client c =
    let l = is_listed_lem _ _ _ c.client_refusal-refusal.ensures c.if-refusal-ne0.false in
    omega (arith, l.from_one, l.in_list)

pub returns : goal.returns
returns c =
    let a = c.args in
    let given = c.client_refusal-refusal.ensures in
    let zero = c.if-refusal-ne0.false in
    let l = is_listed_lem _ _ _ given zero in
    client_updated a.tallies.now a.client a.outcome a.steps 0 _ (sym zero ∙ given)
    (ap (set a.tallies.now (a.client - 1)) c.update.ensures.0
    ∙ sym (own-set a.tallies.now a.client a.outcome a.steps l))
