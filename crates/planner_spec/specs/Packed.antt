-- The C entries of the search: they take the rule text in place of a set and have no tally. One gives the answer as one
-- 64-bit number, the other its floor.
use Rattle.std.specs.Prelude.{List, ℕ, ◌+◌, ◌*◌, ◌/◌, ◌%◌, replicate}
use Rattle.search_spec.specs.Query.{Query}
use Rattle.search_spec.specs.Searched.{Searched, searched, no_move}
use Rattle.search_spec.specs.declared.Answer.{Answer}
use Rattle.planner_spec.specs.OfText.{of_text}

-- the outcome in the low byte, the length in the next, the cost in the next 16 bits, the steps in the top 32
unfoldable pub packed : Answer → ℕ
packed answer = answer.outcome + 256 * answer.length + 65536 * answer.cost + 4294967296 * answer.steps

-- the answer that such a number stands for, beside a floor, for which the number has no room: its parts again
unfoldable pub unpacked : ℕ → ℕ → Answer
unpacked floor n = record {
  outcome = n % 256;
  cost = n / 65536 % 65536;
  length = n / 256 % 256;
  steps = n / 4294967296;
  floor = floor;
}

-- what a refused rule text leaves: its outcome, no cost, no length, no steps, no floor, and a blank plan buffer
unfoldable pub text_refused : ℕ → ℕ → Searched
text_refused outcome room = record {
  answer = record { outcome = outcome; cost = 0; length = 0; steps = 0; floor = 0 };
  plan = replicate room no_move;
}

-- the search of a rule text: 1 to 4 of the text come before all else
unfoldable pub searched_text : List ℕ → Query → ℕ → Searched
searched_text text query room = of_text text (λ set. searched set query room) (λ n. text_refused n room)

-- the number that the first entry gives
unfoldable pub packed_search : List ℕ → Query → ℕ → ℕ
packed_search text query room = packed (searched_text text query room).answer
