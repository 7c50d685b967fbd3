-- The explanation of a proposed sequence (document 02, request 2026-06): the outcome, the first reason that holds, and
-- the marked segment. Nothing here depends on how a search goes about it.
use Rattle.std.specs.Prelude.{Bool, not, cond, ◌||◌, List, [], ◌∷◌, ◌++◌, ℕ, eqb, length}
use Rattle.theory_spec.specs.Lists.{any, within, padded}
use Rattle.theory_spec.specs.Sequences.{Sequence}
use Rattle.model_spec.specs.Limits.{move_limit}
use Rattle.model_spec.specs.Refusals.{Cause, first_refusal}
use Rattle.model_spec.specs.Rules.{sequence_cost}
use Rattle.model_spec.specs.declared.RuleSet.{RuleSet}
use Rattle.search_spec.specs.Query.{Query}
use Rattle.search_spec.specs.Searched.{query_causes, cheapest_plan, end_causes, plan_of}
use Rattle.explain_spec.specs.Reasons.{reasons, place_of}
use Rattle.explain_spec.specs.Segments.{marked_end, marked_length, segment_witness}
use Rattle.explain_spec.specs.declared.Explanation.{Explanation}

-- the causes in document 02's order: those of a query, after the table's judgement a move of the proposal that is no
-- rule's number, then how the query ends. No plan buffer is lent, so there is room for every plan of 32 moves: the test
-- of 12 is that of 11, which comes first
unfoldable pub explain_causes : RuleSet → Query → Sequence → List Cause
explain_causes set query q =
    query_causes set query move_limit
    ++ ((13, any (λ n. not (within 1 set.count n)) q)
    ∷ end_causes set query)

-- the outcomes that stand beside a reason
abbrev pub has_reason : ℕ → Bool
has_reason outcome = eqb outcome 0 || eqb outcome 15

-- an outcome that stands alone
abbrev pub bare : ℕ → Explanation
bare outcome =
    record {
      outcome = outcome;
      reason = 0;
      place = 0;
      cost = 0;
      plan_cost = 0;
      segment_end = 0;
      segment_length = 0;
      witness_length = 0;
      witness = 0 ∷ 0 ∷ 0 ∷ [];
    }

-- the plan of the query; empty where there is none
abbrev pub plan_for : RuleSet → Query → Sequence
plan_for set query = plan_of (cheapest_plan set query)

-- an outcome beside a reason
unfoldable pub explained_with : RuleSet → Query → Sequence → ℕ → ℕ → Explanation
explained_with set query q outcome reason =
    record {
      outcome = outcome;
      reason = reason;
      place = place_of set query q reason;
      cost = cond (eqb reason 5) (sequence_cost set q) 0;
      plan_cost = cond (eqb reason 5) (sequence_cost set (plan_for set query)) 0;
      segment_end = marked_end set query q;
      segment_length = marked_length set query q;
      witness_length = length (segment_witness set query q);
      witness = padded 3 0 (segment_witness set query q);
    }

-- the first reason that holds
abbrev pub first_reason : RuleSet → Query → Sequence → ℕ
first_reason set query q = first_refusal (reasons set query q (plan_for set query))

-- the explanation with an outcome
unfoldable pub explained_by : RuleSet → Query → Sequence → ℕ → Explanation
explained_by set query q outcome =
    cond (has_reason outcome) (explained_with set query q outcome (first_reason set query q)) (bare outcome)

-- why the search does not show the sequence q
unfoldable pub explained : RuleSet → Query → Sequence → Explanation
explained set query q = explained_by set query q (first_refusal (explain_causes set query q))
