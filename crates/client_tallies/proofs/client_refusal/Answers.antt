-- `client_tallies::client_refusal` meets its contract.
use mathlib.Core.Path.{sym}
use native.Mathlib.Omega.{arith}
use Rattle.clients_spec.proofs.ClientLaws.{refusal_0_iff, refusal_19_iff}
use Rattle.client_tallies.proofs.client_refusal.Goals as goal

pub returns-then-client-count : goal.returns-then-client-count
returns-then-client-count c =
    sym ((refusal_0_iff _ _).1 (record {
      not_empty = omega arith;
      within_limit = omega arith;
      from_one = omega arith;
      in_list = omega arith;
    }))

pub returns-else-count-le-MAX_CLIENTS : goal.returns-else-count-le-MAX_CLIENTS
returns-else-count-le-MAX_CLIENTS c =
    let either = c.else-count-le-MAX_CLIENTS.either in
    sym ((refusal_19_iff _ _).1 (λ l. grind (arith, l.within_limit, l.from_one, l.in_list)))
