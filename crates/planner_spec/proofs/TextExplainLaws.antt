-- The explanation with the set of a rule text: what it means, and what the buffer holds. 7 is never its outcome, since
-- a set that was read is valid.
-- Assumes nothing.
use mathlib.Core.Path.{◌≡◌, refl, sym, ap, subst, ◌∙◌}
use mathlib.Core.Logic.{◌≢◌, ⊎_elim}
use mathlib.Core.List.{List}
use Prim.Native.Nat.{ℕ}
use native.Mathlib.Omega.{arith}
use lib.ListN.{length}
use Rattle.theory_spec.specs.Sequences.{Sequence}
use Rattle.theory_spec.proofs.ListLaws.{padded-length}
use Rattle.theory_spec.proofs.TestLaws.{equal?}
use Rattle.model_spec.specs.declared.RuleSet.{RuleSet}
use Rattle.files_spec.specs.Reading.{reading}
use Rattle.tables_spec.specs.Answers.{table_causes}
use Rattle.search_spec.specs.Query.{Query}
use Rattle.search_spec.specs.Searched.{query_causes}
use Rattle.explain_spec.specs.Explained.{explain_causes, bare, explained}
use Rattle.explain_spec.specs.Meaning.{ExplanationMeaning}
use Rattle.explain_spec.specs.declared.Explanation.{Explanation}
use Rattle.explain_spec.proofs.MeaningLaws.{number_of, explanation_meaning}
use Rattle.planner_spec.specs.TextExplain.{text_explained, explanation_buffer}
use Rattle.planner_spec.specs.TextExplain.{TextExplainMeaning}
use Rattle.planner_spec.proofs.OfTextLaws.{of-read, of-refused, Own, own_refusal, not_7, text-judged}
use Rattle.planner_spec.proofs.ExplanationBytesLaws.{buffer_back, buffer-short, buffer-bare}

-- the numbers of an explanation are none of the reader's
explain_own : (set : RuleSet) (query : Query) (q : Sequence) → Own (explained set query q).outcome
unfolding explain_causes query_causes table_causes
explain_own set query q =
    subst Own (sym (number_of set query q)) (own_refusal (explain_causes set query q) (
      omega arith,
      (
        omega arith,
        (
          omega arith,
          (
            omega arith,
            (
              omega arith,
              (
                omega arith,
                (omega arith, (omega arith, (omega arith, (omega arith, (omega arith, (omega arith, tt)))))),
              ),
            ),
          ),
        ),
      ),
    ))

-- the witness has three places
witness_3 : (set : RuleSet) (query : Query) (q : Sequence) (answer : Explanation)
    → ExplanationMeaning set query q answer → length answer.witness ≡ 3
witness_3 set query q answer means =
    ⊎_elim (λ z. ap length (means.no_segment z).2)
    (λ n. let found = means.found n in
    ap length found.witness_rules ∙ padded-length 3 0 found.witness found.witness_short)
    (equal? answer.segment_end 0)

module _ (text : List ℕ) (query : Query) (q : Sequence) where
  pub explained-refused : (reading text).outcome ≢ 0 → text_explained text query q ≡ bare (reading text).outcome
  unfolding text_explained
  explained-refused = of-refused text _ _

  pub explained-read : (reading text).outcome ≡ 0 → text_explained text query q ≡ explained (reading text).set query q
  unfolding text_explained
  explained-read = of-read text _ _

  -- what the explanation tells and leaves in a buffer has its meaning, for every text, query, proposal and room
  pub text_explain_meaning : (room : ℕ)
      → let answer = text_explained text query q in
      TextExplainMeaning text query q room answer.outcome (explanation_buffer room answer)
  text_explain_meaning room =
      let set = (reading text).set in
      let answer = text_explained text query q in
      let outcome_of : Explanation → ℕ = λ a. a.outcome in
      let refused : (reading text).outcome ≢ 0 → answer.outcome ≡ (reading text).outcome =
      λ h. ap outcome_of (explained-refused h) in
      let means : (reading text).outcome ≡ 0 → ExplanationMeaning set query q answer =
      λ e. subst (ExplanationMeaning set query q) (sym (explained-read e)) (explanation_meaning set query q) in
      record {
        judged = text-judged text answer.outcome refused
            (λ e. subst Own (sym (ap outcome_of (explained-read e))) (explain_own set query q));
        refused_text = refused;
        read_text = λ e. (answer, refl, refl, means e);
        read_back = λ e fits. subst (ExplanationMeaning set query q)
            (sym (buffer_back answer (witness_3 set query q answer (means e)) room fits)) (means e);
        short_buffer = buffer-short room answer;
        zeros = λ n k. ⊎_elim
            (λ e. ap (explanation_buffer room) ((means e).alone n k) ∙ buffer-bare room answer.outcome)
            (λ h. ap (explanation_buffer room) (explained-refused h) ∙ buffer-bare room (reading text).outcome)
            (equal? (reading text).outcome 0);
        never7 = not_7 text answer.outcome refused (λ e. (means e).not_valid.0);
      }
