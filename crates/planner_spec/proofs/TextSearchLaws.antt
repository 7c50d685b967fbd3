-- The search of a rule text: what it means, what it leaves without a plan, and that its answer fits the packing. 7 is
-- never its outcome, since a set that was read is valid.
-- Assumes nothing.
use mathlib.Core.Path.{◌≡◌, refl, sym, ap, subst, ◌∙◌}
use mathlib.Core.Logic.{◌≢◌, ⊎_elim}
use mathlib.Core.List.{List}
use Prim.Native.Nat.{ℕ, ◌<◌}
use native.Mathlib.Omega.{arith}
use lib.ListN.{replicate}
use Rattle.theory_spec.proofs.TestLaws.{equal?}
use Rattle.model_spec.specs.declared.RuleSet.{RuleSet}
use Rattle.files_spec.specs.Reading.{reading}
use Rattle.files_spec.proofs.RefusedLaws.{reading_byte}
use Rattle.tables_spec.specs.Answers.{table_causes}
use Rattle.search_spec.specs.Query.{Query}
use Rattle.search_spec.specs.Searched.{query_causes, search_causes, Searched, searched_with, searched, no_move}
use Rattle.search_spec.specs.Searched.{SearchMeaning}
use Rattle.search_spec.proofs.AnswerLaws.{outcome_bound, cost_bound, length_bound, steps_bound, searched_blank}
use Rattle.search_spec.proofs.MeaningLaws.{search_meaning}
use Rattle.search_spec.proofs.PlanPartLaws.{part_meaning}
use Rattle.planner_spec.specs.Packed.{packed, unpacked, text_refused, searched_text, packed_search}
use Rattle.planner_spec.specs.TextSearch.{TextSearchMeaning}
use Rattle.planner_spec.proofs.OfTextLaws.{of-read, of-refused, Own, own_refusal, not_7, text-judged}
use Rattle.planner_spec.proofs.PackedLaws.{Fits, unpacked-packed}

-- the numbers of a search are none of the reader's
search_own : (set : RuleSet) (query : Query) (room : ℕ) → Own (searched set query room).answer.outcome
unfolding searched searched_with search_causes query_causes table_causes
search_own set query room =
    own_refusal (search_causes set query room) (
      omega arith,
      (
        omega arith,
        (
          omega arith,
          (
            omega arith,
            (
              omega arith,
              (omega arith, (omega arith, (omega arith, (omega arith, (omega arith, (omega arith, tt)))))),
            ),
          ),
        ),
      ),
    )

module _ (text : List ℕ) (query : Query) (room : ℕ) where
  pub refused-text : (reading text).outcome ≢ 0 → searched_text text query room ≡ text_refused (reading text).outcome room
  unfolding searched_text
  refused-text n = of-refused text (λ set. searched set query room) (λ k. text_refused k room) n

  pub read-text : (reading text).outcome ≡ 0 → searched_text text query room ≡ searched (reading text).set query room
  unfolding searched_text
  read-text h = of-read text (λ set. searched set query room) (λ k. text_refused k room) h

  -- what holds of both holds of the search
  by-text : (P : Searched → Type 0)
      → P (searched (reading text).set query room)
      → P (text_refused (reading text).outcome room)
      → P (searched_text text query room)
  by-text P r n =
      ⊎_elim (λ h. subst P (sym (read-text h)) r) (λ k. subst P (sym (refused-text k)) n)
      (equal? (reading text).outcome 0)

  -- its answer fits, with a step limit of 32 bits
  pub entry-fits : query.step_limit < 4294967296 → Fits (searched_text text query room).answer
  unfolding text_refused
  entry-fits h =
      let set = (reading text).set in
      by-text (λ found. Fits found.answer)
      (record {
        outcome = omega (arith, outcome_bound set query room);
        cost = omega (arith, cost_bound set query room);
        length = omega (arith, length_bound set query room);
        steps = omega (arith, steps_bound set query room, h);
      })
      (record { outcome = reading_byte text; cost = omega arith; length = omega arith; steps = omega arith })

  -- demand 1: without a plan it blanks the whole plan buffer, refused texts included
  pub entry-blank :
      let found = searched_text text query room in
      found.answer.outcome ≢ 0 → found.answer.outcome ≢ 18
      → (found.answer.cost ≡ 0) × (found.answer.length ≡ 0) × (found.plan ≡ replicate room no_move)
  unfolding text_refused
  entry-blank =
      by-text (λ found. found.answer.outcome ≢ 0 → found.answer.outcome ≢ 18
      → (found.answer.cost ≡ 0) × (found.answer.length ≡ 0) × (found.plan ≡ replicate room no_move))
      (searched_blank (reading text).set query room)
      (λ _ _. (refl, refl, refl))

  -- ── What it means ──────────────────────────────────────────────────────────────────────────────

  -- what the search of a rule text gives and leaves has its meaning, for every text, query and room
  pub text_search_meaning : TextSearchMeaning text query room (searched_text text query room)
  unfolding text_refused
  text_search_meaning =
      let set = (reading text).set in
      let outcome_of : Searched → ℕ = λ found. found.answer.outcome in
      let outcome = (searched_text text query room).answer.outcome in
      let refused : (reading text).outcome ≢ 0 → outcome ≡ (reading text).outcome = λ h. ap outcome_of (refused-text h) in
      let means : (reading text).outcome ≡ 0 → SearchMeaning set query room (searched_text text query room) =
      λ e. subst (SearchMeaning set query room) (sym (read-text e)) (search_meaning set query room) in
      record {
        judged = text-judged text outcome refused
            (λ e. subst Own (sym (ap outcome_of (read-text e))) (search_own set query room));
        refused_text = refused-text;
        read_text = means;
        read_part = λ e. part_meaning set query room (searched_text text query room) (means e);
        never7 = not_7 text outcome refused (λ e. (means e).not_valid.0);
      }

  -- the same of what is equal
  pub text-found : (found : Searched) → searched_text text query room ≡ found
      → (searched_text text query room ≡ found) × TextSearchMeaning text query room found
  text-found found e = (e, subst (TextSearchMeaning text query room) e text_search_meaning)

  -- packed, the answer can be taken apart
  pub search-packed : query.step_limit < 4294967296 → (found : Searched) → searched_text text query room ≡ found
      → (r : ℕ) → r ≡ packed found.answer
      → (r ≡ packed_search text query room)
      × (found.plan ≡ (searched_text text query room).plan)
      × TextSearchMeaning text query room
      (record { answer = unpacked (searched_text text query room).answer.floor r; plan = found.plan })
  unfolding packed_search
  search-packed fits found f r e =
      let same = e ∙ ap (λ (x : Searched). packed x.answer) (sym f) in
      let plan = ap (λ (x : Searched). x.plan) (sym f) in
      let answer = ap (unpacked (searched_text text query room).answer.floor) same
      ∙ unpacked-packed (searched_text text query room).answer (entry-fits fits) in
      let means = TextSearchMeaning text query room in
      (same, plan, subst means (λ i. record { answer = sym answer i; plan = sym plan i }) text_search_meaning)

  -- the floor alone, and what the buffer holds beside it
  pub search_floor : (found : Searched) → searched_text text query room ≡ found
      → (found.answer.floor ≡ (searched_text text query room).answer.floor)
      × (found.plan ≡ (searched_text text query room).plan)
      × TextSearchMeaning text query room (searched_text text query room)
  search_floor found f =
      let floor = ap (λ (x : Searched). x.answer.floor) (sym f) in
      (floor, ap (λ (x : Searched). x.plan) (sym f), text_search_meaning)
