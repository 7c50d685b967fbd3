-- The plan handed back: of what a search leaves it is the plan shown, for every query; of any buffer and length it is
-- the front, or empty where the length is above the buffer's.
-- Assumes nothing.
use mathlib.Core.Path.{◌≡◌, sym, ◌∙◌}
use mathlib.Core.Logic.{◌⊎◌, inl, inr, ◌≢◌}
use mathlib.Core.List.{List, [], ◌++◌}
use Prim.Native.Nat.{ℕ, ◌-◌, ◌≤◌, ◌<◌}
use native.Mathlib.Omega.{arith}
use lib.ListN.{length, drop, replicate, length-append, take-append-drop}
use lib.Seq.{length-take-le, take-append_seam}
use borrow.Author.Tests.{le-leb, lt-leb}
use Rattle.theory_spec.specs.Lists.{padded}
use Rattle.theory_spec.specs.Sequences.{Sequence}
use Rattle.theory_spec.proofs.TestLaws.{equal?}
use Rattle.model_spec.specs.declared.RuleSet.{RuleSet}
use Rattle.search_spec.specs.Query.{Query}
use Rattle.search_spec.specs.Searched.{shown_plan, no_move, Searched, searched_with, searched, SearchMeaning}
use Rattle.search_spec.specs.PlanPart.{plan_part, part_of, PartMeaning}
use Rattle.search_spec.proofs.Demand.{blank_buffer}

-- ── Of any buffer and length ─────────────────────────────────────────────────────────────────────

module _ (plan : List ℕ) (n : ℕ) where
  -- as long as asked, and the front of the buffer
  pub part_front : n ≤ length plan → (length (plan_part plan n) ≡ n) × (plan_part plan n ++ drop n plan ≡ plan)
  unfolding plan_part
  part_front h = rw (le-leb n (length plan) h) (length-take-le n plan h, take-append-drop n plan)

  -- a length above the buffer's gives an empty part
  pub part-above : length plan < n → plan_part plan n ≡ []
  unfolding plan_part
  part-above h = rw (lt-leb n (length plan) h)

-- the plan, whatever stands behind it
part-before : (p rest : List ℕ) → plan_part (p ++ rest) (length p) ≡ p
unfolding plan_part
part-before p rest =
    rw (le-leb (length p) (length (p ++ rest)) (omega (arith, length-append p rest))) (take-append_seam p rest)

-- ── Of what a search leaves ──────────────────────────────────────────────────────────────────────

module _ (set : RuleSet) (query : Query) (room : ℕ) where
  module _ (found : Searched) (means : SearchMeaning set query room found) where
    -- the buffer holds p, and 255 in every other byte
    abbrev Holds : Sequence → Type 0
    Holds p = (found.answer.length ≡ length p) × (found.plan ≡ padded room no_move p)

    held : (p : Sequence) → Holds p → part_of found ≡ p
    held p h = rw (h.1, h.0) (part-before p (replicate (room - length p) no_move))

    rest : (p : Sequence) → Holds p → found.plan ≡ padded room no_move (part_of found)
    rest p h = rw (held p h) h.1

    none : found.answer.outcome ≢ 0 → found.answer.outcome ≢ 18 → Holds []
    none n k = let blank = means.no_plan_shown n k in (blank.1, blank.2 ∙ sym (blank_buffer room))

    -- `PartMeaning` follows from `SearchMeaning` alone
    pub part_meaning : PartMeaning set query room found
    part_meaning =
        record {
          cheapest_handed =
              λ e. let shown = (means.answered (means.solved.0 e).0.0).cheapest_shown e in
              rw (held shown.0 (shown.3, shown.4)) (shown.1, shown.5);
          looked_handed =
              λ e. let at = means.shown_at_limit e in
              rw (held at.shown (at.length_shown, at.plan_shown)) (at.is_looked, at.preferred);
          empty_handed = λ n k. held [] (none n k);
          rest_blank = by_outcome (equal? found.answer.outcome 0) (equal? found.answer.outcome 18);
        }
      where
        by_outcome : (found.answer.outcome ≡ 0) ⊎ (found.answer.outcome ≢ 0)
            → (found.answer.outcome ≡ 18) ⊎ (found.answer.outcome ≢ 18)
            → found.plan ≡ padded room no_move (part_of found)
        by_outcome (inl e) _ =
            let shown = (means.answered (means.solved.0 e).0.0).cheapest_shown e in
            rest shown.0 (shown.3, shown.4)
        by_outcome (inr n) (inl e) = let at = means.shown_at_limit e in rest at.shown (at.length_shown, at.plan_shown)
        by_outcome (inr n) (inr k) = rest [] (none n k)

  -- the part of what a search leaves, for every query: the plan's rule numbers for 0 and 18, otherwise empty
  pub part-shown : part_of (searched set query room) ≡ shown_plan set query (searched set query room).answer.outcome
  unfolding searched searched_with
  part-shown = part-before _ _
