-- The tally of a caller's queries: five 64-bit counts that stay at their top value.
use Rattle.std.specs.Prelude.{◌≡◌, ◌≢◌, Bool, not, cond, List, [], ◌∷◌, ℕ, ◌+◌, ◌≤◌, ◌<◌, min, eqb, get_or}
use Rattle.model_spec.specs.declared.RuleSet.{RuleSet}
use Rattle.search_spec.specs.Query.{Query}
use Rattle.search_spec.specs.Searched.{is_limited, is_answer, Searched, searched}
use Rattle.search_spec.specs.declared.Tally.{Tally}

-- the top value of a 64-bit count
abbrev pub top : ℕ
top = 18446744073709551615

-- a count raised by a number, at most to its top
abbrev pub raised : ℕ → ℕ → ℕ
raised count by = min (count + by) top

-- raised by 1 where the test passes
abbrev pub raised_if : Bool → ℕ → ℕ
raised_if hit count = cond hit (raised count 1) count

-- the tally after a query: plans (0), no plan (15), step limit exceeded (16 and 18, document 02: spent), refused (the
-- rest), and the sum of steps
unfoldable pub tallied_of : Tally → ℕ → ℕ → Tally
tallied_of tally outcome steps =
    record {
      solved = raised_if (eqb outcome 0) tally.solved;
      unsolvable = raised_if (eqb outcome 15) tally.unsolvable;
      limited = raised_if (is_limited outcome) tally.limited;
      refused = raised_if (not (is_answer outcome)) tally.refused;
      steps = raised tally.steps steps;
    }

-- what a query with a tally leaves
pub record Queried : Type 0 where
  pub found : Searched
  pub tally : Tally

-- a search, and then the update of the caller's tally
unfoldable pub queried : RuleSet → Query → ℕ → Tally → Queried
queried set query room tally =
    let found = searched set query room in
    record { found = found; tally = tallied_of tally found.answer.outcome found.answer.steps }

-- ── As a statement ───────────────────────────────────────────────────────────────────────────────

-- the first four counts: one for each kind of outcome
abbrev pub counts : Tally → List ℕ
counts tally = tally.solved ∷ tally.unsolvable ∷ tally.limited ∷ tally.refused ∷ []

-- the one at a place, from 0 on
abbrev pub count_at : Tally → ℕ → ℕ
count_at tally i = get_or (counts tally) i 0

-- the place of an outcome's count among them
abbrev pub count_place : ℕ → ℕ
count_place outcome =
    cond (eqb outcome 0) 0 (cond (eqb outcome 15) 1 (cond (eqb outcome 16) 2 (cond (eqb outcome 18) 2 3)))

-- 1 is added to just one of the first four, unless that one is at its top
pub record OneRaised (before after : Tally) : Type 0 where
  pub place : ℕ
  pub first_four : place < 4
  pub one_more : count_at before place < top → count_at after place ≡ count_at before place + 1
  pub at_top : count_at before place ≡ top → count_at after place ≡ top
  pub others_stay : (i : ℕ) → i < 4 → i ≢ place → count_at after i ≡ count_at before i

-- what the update by a query's outcome and its steps means
pub record TallyMeaning (outcome steps : ℕ) (before after : Tally) : Type 0 where
  -- the one raised is the count of the outcome
  pub one_raised : OneRaised before after
  pub of_outcome : one_raised.place ≡ count_place outcome
  -- the steps are added to their sum, which stays at its top
  pub steps_added : before.steps + steps ≤ top → after.steps ≡ before.steps + steps
  pub steps_at_top : top < before.steps + steps → after.steps ≡ top
