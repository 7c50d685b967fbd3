-- The search of a rule text as a statement.
use Rattle.std.specs.Prelude.{◌≡◌, ◌≢◌, List, ℕ}
use Rattle.files_spec.specs.Reading.{reading}
use Rattle.search_spec.specs.Query.{Query}
use Rattle.search_spec.specs.Searched.{Searched, SearchMeaning}
use Rattle.search_spec.specs.PlanPart.{PartMeaning}
use Rattle.planner_spec.specs.OfText.{TextJudged}
use Rattle.planner_spec.specs.Packed.{text_refused}

-- what the search of a rule text tells and leaves
pub record TextSearchMeaning (text : List ℕ) (query : Query) (room : ℕ) (found : Searched) : Type 0 where
  -- 1 to 4 are the text's faults
  pub judged : TextJudged text found.answer.outcome
  -- of a refused text its own refusal, before all of the query's
  pub refused_text : (reading text).outcome ≢ 0 → found ≡ text_refused (reading text).outcome room
  -- of any other what a search of its set means
  pub read_text : (reading text).outcome ≡ 0 → SearchMeaning (reading text).set query room found
  -- and what the front part of the plan buffer means, as long as the length says
  pub read_part : (reading text).outcome ≡ 0 → PartMeaning (reading text).set query room found
  -- a set that was read is valid
  pub never7 : found.answer.outcome ≢ 7
