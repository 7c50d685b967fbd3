-- `refused_search::refused_search` meets its contract: the buffer is filled.
use mathlib.Core.Path.{◌≡◌, sym}
use mathlib.Core.List.{List}
use Prim.Native.Nat.{ℕ}
use lib.ListN.{length, replicate}
use Rattle.search_spec.specs.Searched.{no_move, refused_search}
use Rattle.refused_search.proofs.refused_search.Goals as goal

blank : (outcome room : ℕ) (plan : List ℕ) → plan ≡ replicate room no_move
    → refused_search outcome room
    ≡ record { answer = record { outcome = outcome; cost = 0; length = 0; steps = 0; floor = 0 }; plan = plan }
unfolding refused_search
blank outcome room plan e = λ i. record {
  answer = record { outcome = outcome; cost = 0; length = 0; steps = 0; floor = 0 };
  plan = sym e i;
}

pub returns : goal.returns
returns c = blank _ (length c.args.plan.now) _ (c.fill.ensures.after (λ y e. e))
