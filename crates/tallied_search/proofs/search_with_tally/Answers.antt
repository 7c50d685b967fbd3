-- `tallied_search::search_with_tally` meets its contract: what the search leaves, and the tally updated by its outcome
-- and its steps.
use mathlib.Core.Path.{◌≡◌, sym, ap, ◌∙◌}
use Prim.Native.Nat.{ℕ}
use Rattle.model_spec.specs.declared.RuleSet.{RuleSet}
use Rattle.search_spec.specs.Query.{Query, query_of}
use Rattle.search_spec.specs.Searched.{Searched, searched}
use Rattle.search_spec.specs.Tallies.{Queried, queried, tallied_of}
use Rattle.search_spec.specs.declared.Tally.{Tally}
use Rattle.tallied_search.proofs.search_with_tally.Goals as goal

-- what is found, and a tally
abbrev left : Searched → Tally → Queried
left found tally = record { found = found; tally = tally }

-- a search and an update leave what a query with a tally leaves
both : (set : RuleSet) (query : Query) (room : ℕ) (before after : Tally) (found : Searched)
    → searched set query room ≡ found → after ≡ tallied_of before found.answer.outcome found.answer.steps
    → queried set query room before ≡ left found after
unfolding queried
both set query room before after found e h =
    ap (λ f. left f (tallied_of before f.answer.outcome f.answer.steps)) e ∙ ap (left found) (sym h)

pub returns : goal.returns
returns c =
    let a = c.args in
    let query = query_of a.query in
    let found = c.search-answer.ensures in (
      both a.set query _ _ _ _ found.0 c.update.ensures.0,
      found.1,
      found.2,
      c.update.ensures.1,
    )
