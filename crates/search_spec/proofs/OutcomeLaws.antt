-- How the outcome of a query comes about: the check of its table first, whose last refusal waits for the query's own
-- causes; and what a search leaves with each outcome.
-- Assumes nothing.
use mathlib.Core.Path.{◌≡◌, refl, sym, ap, ◌∙◌}
use mathlib.Core.Logic.{◌⊎◌, ◌≢◌, ⊎_elim, inl, inr}
use mathlib.Core.Bool.{Bool, true, false, not, cond}
use mathlib.Core.Option.{some, none}
use mathlib.Core.List.{List, [], ◌∷◌, ◌++◌}
use Prim.Native.Nat.{ℕ, min, ◌≤◌, ◌<◌}
use native.Mathlib.Omega.{arith}
use lib.Dec.{ltb}
use lib.ListN.{length}
use borrow.Author.Tests.{lt-ltb, le-ltb, ne_eqb}
use Rattle.theory_spec.specs.Sequences.{Sequence}
use Rattle.theory_spec.proofs.ListLaws.{not-both}
use Rattle.model_spec.specs.Refusals.{Cause, first_refusal}
use Rattle.model_spec.specs.Rules.{sequence_cost}
use Rattle.model_spec.specs.declared.RuleSet.{RuleSet}
use Rattle.model_spec.proofs.RefusalLaws.{refusal-append, refusal-before}
use Rattle.tables_spec.specs.Table.{accepted}
use Rattle.tables_spec.specs.Answers.{table_causes, build_outcome, check_causes, check_outcome, Ready}
use Rattle.tables_spec.proofs.AnswerLaws.{build_ready_iff, check_meaning}
use Rattle.search_spec.specs.Query.{Query, start_fits, goal_fits, visited_by}
use Rattle.search_spec.specs.Looked.{exceeds_limit, cheapest_looked, floor_beside}
use Rattle.search_spec.specs.Searched.{query_causes, cheapest_plan, is_answer, shown_plan, searched_with}
use Rattle.search_spec.specs.Searched.{searched}
use Rattle.search_spec.proofs.Demand.{with_plan, without_plan, blank_buffer, limited-outcome}
use Rattle.search_spec.proofs.Demand.{unlimited-outcome, shown-plan, shown-looked}
use Rattle.search_spec.proofs.AnswerLaws.{refused-outcome, refused_no-answer}

-- ── The check of the table, and the query's own causes ───────────────────────────────────────────

-- of the numbers of a check's causes, what is left without the first three
last_or_none : (set_bad reach_bad length_bad marks_bad : Bool)
    → let n = first_refusal ((7, set_bad) ∷ (5, reach_bad) ∷ (6, length_bad) ∷ (14, marks_bad) ∷ []) in
    n ≢ 5 → n ≢ 6 → n ≢ 7 → (n ≡ 14) ⊎ (n ≡ 0)
last_or_none true _ _ _ _ _ h = absurd (h refl)
last_or_none false true _ _ h _ _ = absurd (h refl)
last_or_none false false true _ _ h _ = absurd (h refl)
last_or_none false false false true _ _ _ = inl refl
last_or_none false false false false _ _ _ = inr refl

-- a check that passes, or refuses the table's marks, has judged what the check and the query share
pub checked_ready : (set : RuleSet) (reach : ℕ) (table : List ℕ) (checked : ℕ)
    → checked ≡ check_outcome set reach table → (5 ≤ checked → 8 ≤ checked)
    → Ready set reach (length table) × ((checked ≡ 14) ⊎ (checked ≡ 0))
unfolding check_outcome check_causes
checked_ready set reach table checked e h =
    let m = check_meaning set reach table in
    let end = last_or_none _ _ _ _ (λ k. omega (arith, e, k, h)) (λ k. omega (arith, e, k, h))
    (λ k. omega (arith, e, k, h)) in (
      ⊎_elim (λ k. (m.not_accepted.0 k).0) (λ k. (m.accepts.0 k).0) end,
      ⊎_elim (λ k. inl (e ∙ k)) (λ k. inr (e ∙ k)) end,
    )

-- the last cause of a table and of a query: the table is not accepted
abbrev pub unaccepted : RuleSet → Query → Cause
unaccepted set query = (14, not (accepted set query.reach query.table))

-- the causes of a query alone, in turn, and then that its table is not accepted
abbrev pub own_causes : RuleSet → Query → ℕ → List Cause
own_causes set query room =
    (9, not (start_fits set query.start))
    ∷ (10, not (goal_fits set query.goal))
    ∷ (11, ltb 32 query.max_moves)
    ∷ (12, ltb room query.max_moves)
    ∷ unaccepted set query
    ∷ []

module _ (set : RuleSet) (query : Query) where
  abbrev shared : List Cause
  shared = table_causes set query.reach (length query.table)

  abbrev checked : ℕ
  checked = check_outcome set query.reach query.table

  -- once what is shared is judged, later causes decide
  past_shared : Ready set query.reach (length query.table) → (later : List Cause)
      → first_refusal (shared ++ later) ≡ first_refusal later
  unfolding table_causes build_outcome
  past_shared r later =
      refusal-append shared later (λ e. omega arith, (λ e. omega arith, (λ e. omega arith, tt)))
      ((build_ready_iff set query.reach (length query.table)).1 r)

  -- then the query's own causes decide in turn, and last the check's
  module _ (room : ℕ) (r : Ready set query.reach (length query.table)) where
    own_refusal : first_refusal (own_causes set query room) ≡ first_refusal (query_causes set query room)
    unfolding query_causes table_causes
    own_refusal = sym (past_shared r (own_causes set query room))

    pub start_refusal : start_fits set query.start ≡ false → 9 ≡ first_refusal (query_causes set query room)
    start_refusal e = let t : first_refusal (own_causes set query room) ≡ 9 = rw e in sym t ∙ own_refusal

    module _ (s : start_fits set query.start ≡ true) where
      pub goal_refusal : goal_fits set query.goal ≡ false → 10 ≡ first_refusal (query_causes set query room)
      goal_refusal e = let t : first_refusal (own_causes set query room) ≡ 10 = rw (s, e) in sym t ∙ own_refusal

      module _ (g : goal_fits set query.goal ≡ true) where
        pub moves_refusal : 32 < query.max_moves → 11 ≡ first_refusal (query_causes set query room)
        moves_refusal h =
            let t : first_refusal (own_causes set query room) ≡ 11 = rw (s, g, lt-ltb 32 query.max_moves h) in
            sym t ∙ own_refusal

        module _ (m : query.max_moves ≤ 32) where
          pub room_refusal : room < query.max_moves → 12 ≡ first_refusal (query_causes set query room)
          room_refusal h =
              let few = le-ltb 32 query.max_moves m in
              let short = lt-ltb room query.max_moves h in
              let t : first_refusal (own_causes set query room) ≡ 12 = rw (s, g, few, short) in
              sym t ∙ own_refusal

          pub last_refusal : query.max_moves ≤ room → checked ≡ first_refusal (query_causes set query room)
          unfolding check_outcome check_causes table_causes
          last_refusal h =
              let last = unaccepted set query ∷ [] in
              let few = le-ltb 32 query.max_moves m in
              let fits = le-ltb room query.max_moves h in
              let t : first_refusal (own_causes set query room) ≡ first_refusal last = rw (s, g, few, fits) in
              past_shared r last ∙ sym t ∙ own_refusal

  -- any other refusal of the check is the query's
  pub shared_refusal : (room : ℕ) → checked ≢ 0 → checked ≢ 14 → checked ≡ first_refusal (query_causes set query room)
  unfolding check_outcome check_causes query_causes table_causes build_outcome
  shared_refusal room h₀ h₁₄ =
      refusal-before shared (unaccepted set query ∷ []) refused
      ∙ sym (refusal-before shared (own_causes set query room) refused)
    where
      one_of : (b : Bool) → first_refusal ((14, not b) ∷ []) ≢ 0 → first_refusal ((14, not b) ∷ []) ≢ 14 → ⊥
      one_of true h _ = h refl
      one_of false _ h = h refl

      refused : first_refusal shared ≢ 0
      refused e =
          let m = past_shared ((build_ready_iff set query.reach (length query.table)).0 e)
          (unaccepted set query ∷ []) in
          one_of (accepted set query.reach query.table) (λ k. h₀ (m ∙ k)) (λ k. h₁₄ (m ∙ k))

-- ── What a search leaves with each outcome ───────────────────────────────────────────────────────

module _ (set : RuleSet) (query : Query) (room : ℕ) where
  abbrev refusal : ℕ
  refusal = first_refusal (query_causes set query room)

  -- the steps of an answer
  abbrev counted : ℕ
  counted = min (length (visited_by set query)) query.step_limit

  shown_none : (outcome : ℕ) → outcome ≢ 0 → outcome ≢ 18
      → searched_with set query room outcome ≡ without_plan room outcome (cond (is_answer outcome) counted 0)
  unfolding searched_with shown_plan sequence_cost
  shown_none outcome h k = rw (ne_eqb outcome 0 h, ne_eqb outcome 18 k, blank_buffer room)

  pub searched-refused : refusal ≢ 0 → searched set query room ≡ without_plan room refusal 0
  unfolding searched
  searched-refused h =
      let answerless = refused_no-answer set query room h in
      ap (searched_with set query room) (refused-outcome set query room h)
      ∙ shown_none refusal h (λ e. not-both (ap is_answer e) answerless)
      ∙ ap (λ b. without_plan room refusal (cond b counted 0)) answerless

  module _ (h : refusal ≡ 0) where
    pub searched-looked : exceeds_limit set query ≡ true → (p : Sequence) → cheapest_looked set query ≡ some p
        → searched set query room ≡ with_plan set room 18 p counted (floor_beside set query p)
    unfolding searched searched_with
    searched-looked e p k =
        ap (searched_with set query room) (limited-outcome set query room h e (some p) k)
        ∙ ap (λ q. with_plan set room 18 q counted (floor_beside set query q)) (shown-looked set query p k)

    pub searched_none-looked : exceeds_limit set query ≡ true → cheapest_looked set query ≡ none
        → searched set query room ≡ without_plan room 16 counted
    unfolding searched
    searched_none-looked e k =
        ap (searched_with set query room) (limited-outcome set query room h e none k)
        ∙ shown_none 16 (λ k. omega arith) (λ k. omega arith)

    pub searched-unsolvable : exceeds_limit set query ≡ false → cheapest_plan set query ≡ none
        → searched set query room ≡ without_plan room 15 counted
    unfolding searched
    searched-unsolvable e k =
        ap (searched_with set query room) (unlimited-outcome set query room h e none k)
        ∙ shown_none 15 (λ k. omega arith) (λ k. omega arith)

    pub searched-solved : exceeds_limit set query ≡ false → (p : Sequence) → cheapest_plan set query ≡ some p
        → searched set query room ≡ with_plan set room 0 p counted 0
    unfolding searched searched_with
    searched-solved e p k =
        ap (searched_with set query room) (unlimited-outcome set query room h e (some p) k)
        ∙ ap (λ q. with_plan set room 0 q counted 0) (shown-plan set query p k)
