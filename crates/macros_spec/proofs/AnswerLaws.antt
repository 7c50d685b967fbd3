-- The macro call's five answers: which one each cause in turn has, and what is known where it is given.
-- Assumes nothing.
use mathlib.Core.Path.{◌≡◌, refl, ap, ◌∙◌}
use mathlib.Core.Bool.{Bool, true, false, not}
use mathlib.Core.Option.{Option, some, none}
use mathlib.Core.List.{[], ◌∷◌}
use Prim.Native.Nat.{◌≤◌, ◌<◌}
use lib.Dec.{ltb}
use lib.ListN.{length}
use borrow.Author.Tests.{ltb-true, ltb-false, lt-ltb, le-ltb}
use Rattle.theory_spec.specs.Lists.{any, within, is_some}
use Rattle.theory_spec.specs.Sequences.{Sequence, Numbered}
use Rattle.theory_spec.proofs.ListLaws.{not-both}
use Rattle.model_spec.specs.Refusals.{first_refusal}
use Rattle.model_spec.specs.Rules.{sequence_cost, admitted}
use Rattle.model_spec.specs.Validity.{valid, WellFormed, Valid}
use Rattle.model_spec.specs.declared.RuleSet.{RuleSet}
use Rattle.model_spec.proofs.ValidityLaws.{valid_iff}
use Rattle.macros_spec.specs.Composition.{Lines, composed}
use Rattle.macros_spec.specs.Touched.{touched_of, touched_by}
use Rattle.macros_spec.specs.Answers.{sequence_causes, macro_causes, macro_at, touched_in, refused_macro, macro_with}
use Rattle.macros_spec.specs.Answers.{macro_answer}
use Rattle.macros_spec.specs.Answers.{Judged}
use Rattle.macros_spec.specs.declared.MacroAnswer.{MacroAnswer}
use Rattle.model_spec.proofs.MoveLaws.{no_unknown_iff}
use Rattle.macros_spec.proofs.MeaningLaws.{admitted-composed}

module _ (set : RuleSet) (moves : Sequence) where
  -- ── The answer to each cause ───────────────────────────────────────────────────────────────────

  pub answer_invalid : valid set ≡ false → macro_answer set moves ≡ refused_macro 7
  unfolding macro_answer macro_causes
  answer_invalid e = rw e

  -- once the set is judged
  abbrev pub worked : MacroAnswer
  worked = macro_with set moves (first_refusal (sequence_causes set moves))

  pub answer-judged : valid set ≡ true → macro_answer set moves ≡ worked
  unfolding macro_answer macro_causes
  answer-judged is_valid = rw is_valid

  -- with these vectors
  abbrev pub given_macro : Lines → MacroAnswer
  given_macro m = record {
    outcome = 0;
    result = macro_at (sequence_cost set moves) (some m);
    touched = touched_by set m;
  }

  -- the answer by the three tests that are left: too many moves, an unknown one, whether a state admits the sequence
  abbrev by_tests : Bool → Bool → Bool → MacroAnswer
  by_tests long unknown admits =
      macro_with set moves (first_refusal ((11, long) ∷ (13, unknown) ∷ (17, not admits) ∷ []))

  abbrev unknown_move : Bool
  unknown_move = any (λ r. not (within 1 set.count r)) moves

  pub worked_long : 32 < length moves → worked ≡ refused_macro 11
  worked_long h = ap (λ long. by_tests long unknown_move (admitted set moves)) (lt-ltb 32 (length moves) h)

  module _ (few : length moves ≤ 32) where
    worked_few : worked ≡ by_tests false unknown_move (admitted set moves)
    worked_few = ap (λ long. by_tests long unknown_move (admitted set moves)) (le-ltb 32 (length moves) few)

    pub worked_unknown : unknown_move ≡ true → worked ≡ refused_macro 13
    worked_unknown e = worked_few ∙ ap (λ unknown. by_tests false unknown (admitted set moves)) e

    module _ (formed : WellFormed set) (numbered : unknown_move ≡ false) where
      worked_known : (o : Option Lines) → composed set moves ≡ o → worked ≡ by_tests false false (is_some o)
      worked_known o e =
          let known = (no_unknown_iff set.count moves).0 numbered in
          let admits = admitted-composed set formed moves known ∙ ap is_some e in
          worked_few
          ∙ ap (λ unknown. by_tests false unknown (admitted set moves)) numbered
          ∙ ap (by_tests false false) admits

      pub worked-denied : composed set moves ≡ none → worked ≡ refused_macro 17
      worked-denied e = worked_known none e

      pub worked-given : (m : Lines) → composed set moves ≡ some m
          → worked ≡ given_macro m
      unfolding touched_in
      worked-given m e =
          worked_known (some m) e ∙ ap {B = MacroAnswer} (λ o. record {
            outcome = 0;
            result = macro_at (sequence_cost set moves) o;
            touched = touched_of set o;
          }) e

  -- and of any set
  module _ (is_valid : valid set ≡ true) where
    answer_long : 32 < length moves → macro_answer set moves ≡ refused_macro 11
    answer_long h = answer-judged is_valid ∙ worked_long h

    module _ (few : length moves ≤ 32) where
      answer_unknown : any (λ r. not (within 1 set.count r)) moves ≡ true
          → macro_answer set moves ≡ refused_macro 13
      answer_unknown e = answer-judged is_valid ∙ worked_unknown few e

      module _ (numbered : any (λ r. not (within 1 set.count r)) moves ≡ false) where
        judged : Judged set moves
        judged = ((valid_iff set).0 is_valid, (few, (no_unknown_iff set.count moves).0 numbered))

        answer-denied : composed set moves ≡ none → macro_answer set moves ≡ refused_macro 17
        answer-denied e = answer-judged is_valid ∙ worked-denied few judged.0.formed numbered e

        pub answer-given : (m : Lines) → composed set moves ≡ some m
            → macro_answer set moves ≡ given_macro m
        answer-given m e = answer-judged is_valid ∙ worked-given few judged.0.formed numbered m e

  -- ── The five answers ───────────────────────────────────────────────────────────────────────────

  -- an answer, and what it is the answer to
  pub data Answered : MacroAnswer → Type 0 where
    invalid : (Valid set → ⊥) → Answered (refused_macro 7)
    long : Valid set → 32 < length moves → Answered (refused_macro 11)
    unknown : Valid set → length moves ≤ 32 → (Numbered set.count moves → ⊥)
        → Answered (refused_macro 13)
    denied : Judged set moves → composed set moves ≡ none → Answered (refused_macro 17)
    given : Judged set moves → (m : Lines) → composed set moves ≡ some m
        → Answered (given_macro m)

  -- the macro call's answer is one of them
  pub answered : Answered (macro_answer set moves)
  answered = by_validity (valid set) refl
    where
      by_macro : (is_valid : valid set ≡ true) (few : length moves ≤ 32)
          (numbered : any (λ r. not (within 1 set.count r)) moves ≡ false) (o : Option Lines)
          → composed set moves ≡ o
          → Answered (macro_answer set moves)
      by_macro is_valid few numbered none e =
          rw (answer-denied is_valid few numbered e) (denied (judged is_valid few numbered) e)
      by_macro is_valid few numbered (some m) e =
          rw (answer-given is_valid few numbered m e) (given (judged is_valid few numbered) m e)

      by-numbers : valid set ≡ true → length moves ≤ 32 → (b : Bool)
          → any (λ r. not (within 1 set.count r)) moves ≡ b → Answered (macro_answer set moves)
      by-numbers is_valid few true e =
          rw (answer_unknown is_valid few e) (unknown ((valid_iff set).0 is_valid) few
          (λ n. not-both e ((no_unknown_iff set.count moves).1 n)))
      by-numbers is_valid few false e = by_macro is_valid few e (composed set moves) refl

      by_length : valid set ≡ true → (b : Bool) → ltb 32 (length moves) ≡ b → Answered (macro_answer set moves)
      by_length is_valid true e =
          let many = ltb-true 32 (length moves) e in
          rw (answer_long is_valid many) (long ((valid_iff set).0 is_valid) many)
      by_length is_valid false e =
          by-numbers is_valid (ltb-false 32 (length moves) e) (any (λ r. not (within 1 set.count r)) moves) refl

      by_validity : (b : Bool) → valid set ≡ b → Answered (macro_answer set moves)
      by_validity true e = by_length e (ltb 32 (length moves)) refl
      by_validity false e = rw (answer_invalid e) (invalid (λ v. not-both ((valid_iff set).1 v) e))
