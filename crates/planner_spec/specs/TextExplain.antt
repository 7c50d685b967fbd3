-- The C entry of the explanation: it takes the rule text in place of a set, and leaves the explanation as bytes.
use Rattle.std.specs.Prelude.{◌≡◌, ◌≢◌, cond, List, [], ◌∷◌, ◌++◌, ℕ, zero, suc, ◌+◌, ◌*◌, ◌/◌, ◌%◌, ◌≤◌, ◌<◌, leb}
use Rattle.std.specs.Prelude.{get_or, take, drop, replicate}
use Rattle.theory_spec.specs.Lists.{padded}
use Rattle.theory_spec.specs.Sequences.{Sequence}
use Rattle.files_spec.specs.Reading.{reading}
use Rattle.tables_spec.specs.Table.{entry_at, entry_bytes}
use Rattle.search_spec.specs.Query.{Query}
use Rattle.explain_spec.specs.Explained.{bare, explained}
use Rattle.explain_spec.specs.Meaning.{ExplanationMeaning}
use Rattle.explain_spec.specs.declared.Explanation.{Explanation}
use Rattle.planner_spec.specs.OfText.{of_text, TextJudged}

-- ── An explanation's bytes ───────────────────────────────────────────────────────────────────────

-- a number in n + 1 bytes, low byte first
abbrev pub number_bytes : ℕ → ℕ → List ℕ
number_bytes zero k = k ∷ []
number_bytes (suc n) k = (k % 256) ∷ number_bytes n (k / 256)

-- and back
abbrev pub number_of : List ℕ → ℕ
number_of [] = 0
number_of (byte ∷ bytes) = byte + 256 * number_of bytes

-- reason, place, both costs in two bytes each, the segment's end in eight, its length, and the witness's length and
-- three rules
unfoldable pub explanation_bytes : Explanation → List ℕ
explanation_bytes answer =
    (answer.reason ∷ answer.place ∷ [])
    ++ (entry_bytes answer.cost
    ++ (entry_bytes answer.plan_cost
    ++ (number_bytes 7 answer.segment_end
    ++ ((answer.segment_length ∷ answer.witness_length ∷ []) ++ answer.witness))))

-- how many these are
abbrev pub explanation_size : ℕ
explanation_size = 19

-- the explanation whose bytes stand at the front of a buffer, with its outcome
unfoldable pub explanation_of : ℕ → List ℕ → Explanation
explanation_of outcome buffer =
    record {
      outcome = outcome;
      reason = get_or buffer 0 0;
      place = get_or buffer 1 0;
      cost = entry_at buffer 1;
      plan_cost = entry_at buffer 2;
      segment_end = number_of (take 8 (drop 6 buffer));
      segment_length = get_or buffer 14 0;
      witness_length = get_or buffer 15 0;
      witness = take 3 (drop 16 buffer);
    }

-- ── What the call gives and leaves ───────────────────────────────────────────────────────────────

-- the explanation: the text's refusal alone, else that of the set
unfoldable pub text_explained : List ℕ → Query → Sequence → Explanation
text_explained text query q = of_text text (λ set. explained set query q) bare

-- a buffer of `room` bytes after it: its bytes, and zeros after them; zeros alone where there is no room for them
unfoldable pub explanation_buffer : ℕ → Explanation → List ℕ
explanation_buffer room answer =
    cond (leb explanation_size room) (padded room 0 (explanation_bytes answer)) (replicate room 0)

-- ── What it means ────────────────────────────────────────────────────────────────────────────────

-- what the entry tells and leaves in a buffer of `room` bytes
pub record TextExplainMeaning (text : List ℕ) (query : Query) (q : Sequence) (room outcome : ℕ) (buffer : List ℕ)
    : Type 0 where
  -- 1 to 4 are the text's faults
  pub judged : TextJudged text outcome
  -- of a refused text its own refusal, before all of the query's
  pub refused_text : (reading text).outcome ≢ 0 → outcome ≡ (reading text).outcome
  -- of any other the outcome has the meaning of an explanation with its set, and so has the one whose bytes the buffer
  -- holds
  pub read_text : (reading text).outcome ≡ 0
      → (answer : Explanation)
      × (answer.outcome ≡ outcome)
      × (buffer ≡ explanation_buffer room answer)
      × ExplanationMeaning (reading text).set query q answer
  -- which can be read back where there is room for it
  pub read_back : (reading text).outcome ≡ 0 → explanation_size ≤ room
      → ExplanationMeaning (reading text).set query q (explanation_of outcome buffer)
  -- a buffer that is too short, and every outcome but 0 and 15, leaves zeros
  pub short_buffer : room < explanation_size → buffer ≡ replicate room 0
  pub zeros : outcome ≢ 0 → outcome ≢ 15 → buffer ≡ replicate room 0
  -- a set that was read is valid
  pub never7 : outcome ≢ 7
