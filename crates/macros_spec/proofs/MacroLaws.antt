-- What the macro call's answer means: it gives a macro exactly if some state admits the sequence, and then the one
-- macro that means what the sequence's rules do in turn;
-- it is refused by 7, 11 or 13 exactly where that cause is the first.
-- And what documents 01 and 02 say of the macro besides: what it costs at most, that it has 0 wherever there is a
-- single value and in its unused places, and which one the empty sequence has.
-- Assumes nothing.
use mathlib.Core.Path.{◌≡◌, refl, sym, ap, ◌∙◌, subst}
use mathlib.Core.Logic.{◌↔◌, ◌≢◌}
use mathlib.Core.Option.{none-ne-some}
use mathlib.Core.Bool.{true}
use mathlib.Core.List.{[]}
use Prim.Native.Nat.{ℕ, ◌≤◌, ◌<◌}
use native.Mathlib.Omega.{arith}
use lib.ListN.{length, get_or}
use Rattle.theory_spec.specs.Sets.{has}
use Rattle.theory_spec.specs.Sequences.{Sequence, Numbered}
use Rattle.model_spec.specs.Rules.{sequence_cost}
use Rattle.model_spec.specs.Validity.{Valid}
use Rattle.model_spec.specs.declared.RuleSet.{RuleSet}
use Rattle.model_spec.specs.States.{width}
use Rattle.model_spec.proofs.StateLaws.{width_beyond}
use Rattle.model_spec.proofs.ValidityLaws.{single-lines, valid_iff, valid_cost}
use Rattle.macros_spec.specs.Composition.{own_variables, empty_lines, composed_from, composed}
use Rattle.macros_spec.specs.Touched.{untouched, TouchMeaning}
use Rattle.macros_spec.specs.Answers.{blank_macro, macro_answer, Means, Depends, Changes, Denied, Admitted}
use Rattle.macros_spec.specs.Answers.{Judged, Meaning}
use Rattle.macros_spec.specs.declared.Macro.{Macro}
use Rattle.macros_spec.specs.declared.MacroAnswer.{MacroAnswer}
use Rattle.macros_spec.specs.declared.Touched.{Touched}
use Rattle.macros_spec.proofs.MeaningLaws.{means-admitted, composed-means, denied_iff}
use Rattle.macros_spec.proofs.UniqueLaws.{means_unique}
use Rattle.macros_spec.proofs.TouchedLaws.{touched_meaning, touched_unique}
use Rattle.macros_spec.proofs.DependLaws.{depends_iff}
use Rattle.macros_spec.proofs.ChangeLaws.{changes_iff, empty-untouched}
use Rattle.macros_spec.proofs.AnswerLaws.{Answered, invalid, long, unknown, denied, given, answered}
use Rattle.macros_spec.proofs.AnswerLaws.{answer-given}

module _ (set : RuleSet) (moves : Sequence) where
  -- ── What each number means ─────────────────────────────────────────────────────────────────────

  -- refused by 7 exactly if the set is not valid
  pub macro_invalid_iff : ((macro_answer set moves).outcome ≡ 7) ↔ (Valid set → ⊥)
  macro_invalid_iff = go (answered set moves)
    where
      go : {a : MacroAnswer} → Answered set moves a → (a.outcome ≡ 7) ↔ (Valid set → ⊥)
      go (invalid n) = (λ _. n, λ _. refl)
      go (long v h) = (λ e. absurd (omega arith), λ n. absurd (n v))
      go (unknown v h n) = (λ e. absurd (omega arith), λ n. absurd (n v))
      go (denied j e) = (λ e. absurd (omega arith), λ n. absurd (n j.0))
      go (given j m e) = (λ e. absurd (omega arith), λ n. absurd (n j.0))

  -- by 11 exactly if it is valid, and there are more than 32 moves
  pub macro_long_iff : ((macro_answer set moves).outcome ≡ 11) ↔ (Valid set × (32 < length moves))
  macro_long_iff = go (answered set moves)
    where
      go : {a : MacroAnswer} → Answered set moves a → (a.outcome ≡ 11) ↔ (Valid set × (32 < length moves))
      go (invalid n) = (λ e. absurd (omega arith), λ w. absurd (n w.0))
      go (long v h) = (λ _. (v, h), λ _. refl)
      go (unknown v h n) = (λ e. absurd (omega arith), λ w. absurd (omega arith))
      go (denied j e) = (λ e. absurd (omega arith), λ w. absurd (omega arith))
      go (given j m e) = (λ e. absurd (omega arith), λ w. absurd (omega arith))

  -- by 13 exactly if it is valid, there are at most 32 moves, and one of them is no rule's number
  pub macro_unknown_iff : ((macro_answer set moves).outcome ≡ 13)
      ↔ (Valid set × ((length moves ≤ 32) × (Numbered set.count moves → ⊥)))
  macro_unknown_iff = go (answered set moves)
    where
      go : {a : MacroAnswer} → Answered set moves a → (a.outcome ≡ 13)
          ↔ (Valid set × ((length moves ≤ 32) × (Numbered set.count moves → ⊥)))
      go (invalid n) = (λ e. absurd (omega arith), λ w. absurd (n w.0))
      go (long v h) = (λ e. absurd (omega arith), λ w. absurd (omega arith))
      go (unknown v h n) = (λ _. (v, (h, n)), λ _. refl)
      go (denied j e) = (λ e. absurd (omega arith), λ w. absurd (w.1.1 j.1.1))
      go (given j m e) = (λ e. absurd (omega arith), λ w. absurd (w.1.1 j.1.1))

  not-denied : Admitted set moves → Denied set moves → ⊥
  not-denied w n = none-ne-some w.1 (sym (n w.0 w.2) ∙ w.3)

  -- by 17 exactly if none of these holds, and no state admits the sequence
  pub macro-denied_iff : ((macro_answer set moves).outcome ≡ 17) ↔ (Judged set moves × Denied set moves)
  macro-denied_iff = go (answered set moves)
    where
      go : {a : MacroAnswer} → Answered set moves a → (a.outcome ≡ 17) ↔ (Judged set moves × Denied set moves)
      go (invalid n) = (λ e. absurd (omega arith), λ w. absurd (n w.0.0))
      go (long v h) = (λ e. absurd (omega arith), λ w. absurd (omega arith))
      go (unknown v h n) = (λ e. absurd (omega arith), λ w. absurd (n w.0.1.1))
      go (denied j e) = (λ _. (j, (denied_iff set j.0.formed moves j.1.1).0 e), λ _. refl)
      go (given j m e) = (
        λ e. absurd (omega arith),
        λ w. absurd (not-denied
            (means-admitted set j.0.formed moves _ (composed-means set j.0.formed moves j.1.1 m e)) w.1),
      )

  -- and not refused exactly if some state does
  pub macro-given_iff : ((macro_answer set moves).outcome ≡ 0) ↔ (Judged set moves × Admitted set moves)
  macro-given_iff = go (answered set moves)
    where
      go : {a : MacroAnswer} → Answered set moves a → (a.outcome ≡ 0) ↔ (Judged set moves × Admitted set moves)
      go (invalid n) = (λ e. absurd (omega arith), λ w. absurd (n w.0.0))
      go (long v h) = (λ e. absurd (omega arith), λ w. absurd (omega arith))
      go (unknown v h n) = (λ e. absurd (omega arith), λ w. absurd (n w.0.1.1))
      go (denied j e) = (
        λ e. absurd (omega arith),
        λ w. absurd (not-denied w.1
            ((denied_iff set j.0.formed moves j.1.1).0 e)),
      )
      go (given j m e) = (
        λ _. (j, means-admitted set j.0.formed moves _ (composed-means set j.0.formed moves j.1.1 m e)),
        λ _. refl,
      )

  -- ── What the macro is ──────────────────────────────────────────────────────────────────────────

  macro-means : (macro_answer set moves).outcome ≡ 0 → Means set moves (macro_answer set moves).result
  macro-means = go (answered set moves)
    where
      go : {a : MacroAnswer} → Answered set moves a → a.outcome ≡ 0 → Means set moves a.result
      go (invalid n) e = absurd (omega arith)
      go (long v h) e = absurd (omega arith)
      go (unknown v h n) e = absurd (omega arith)
      go (denied j e) z = absurd (omega arith)
      go (given j m e) z = composed-means set j.0.formed moves j.1.1 m e

  -- which positions it reads and writes
  macro-touches : (macro_answer set moves).outcome ≡ 0
      → TouchMeaning set (macro_answer set moves).result (macro_answer set moves).touched
  macro-touches = go (answered set moves)
    where
      go : {a : MacroAnswer} → Answered set moves a → a.outcome ≡ 0 → TouchMeaning set a.result a.touched
      go (invalid n) e = absurd (omega arith)
      go (long v h) e = absurd (omega arith)
      go (unknown v h n) e = absurd (omega arith)
      go (denied j e) z = absurd (omega arith)
      go (given j m e) z = touched_meaning set m (sequence_cost set moves)

  -- those read are those on which the sequence depends
  macro-depends : (macro_answer set moves).outcome ≡ 0 → (i : ℕ) → i < 16
      → (has (macro_answer set moves).touched.reads i ≡ true) ↔ Depends set moves i
  macro-depends z i h =
      let read = (macro-touches z).reads i h in
      let depends = depends_iff set (macro-given_iff.0 z).0.0.formed moves _ (macro-means z) i h in
      (λ t. depends.0 (read.0 t), λ d. read.1 (depends.1 d))

  -- those written are those that some state changes
  macro-changes : (macro_answer set moves).outcome ≡ 0 → (i : ℕ) → i < 16
      → (has (macro_answer set moves).touched.writes i ≡ true) ↔ Changes set moves i
  macro-changes z i h =
      let written = (macro-touches z).writes i h in
      let changed = changes_iff set (macro-given_iff.0 z).0.0.formed moves _ (macro-means z) i in
      (λ t. changed.0 (written.0 t), λ c. written.1 (changed.1 c))

  -- the macro is the one with the meaning, and so are the sets
  pub macro_iff : (m : Macro) (t : Touched) → (macro_answer set moves ≡ record { outcome = 0; result = m; touched = t })
      ↔ (Judged set moves × (Means set moves m × TouchMeaning set m t))
  macro_iff m t = (to, from)
    where
      to : macro_answer set moves ≡ record { outcome = 0; result = m; touched = t }
          → Judged set moves × (Means set moves m × TouchMeaning set m t)
      to e =
          let z = ap (λ (a : MacroAnswer). a.outcome) e in (
            (macro-given_iff.0 z).0,
            subst (λ (a : MacroAnswer). Means set moves a.result
                × TouchMeaning set a.result a.touched) e (macro-means z, macro-touches z),
          )

      from : Judged set moves × (Means set moves m × TouchMeaning set m t)
          → macro_answer set moves ≡ record { outcome = 0; result = m; touched = t }
      from w =
          let z = macro-given_iff.1 (w.0, means-admitted set w.0.0.formed moves m w.1.0) in
          let same = means_unique set w.0.0.formed moves (macro_answer set moves).result m (macro-means z)
          w.1.0 in
          let touched = touched_unique set m (macro_answer set moves).touched t
          (subst (λ (n : Macro). TouchMeaning set n (macro_answer set moves).touched) same (macro-touches z))
          w.1.1 in
          λ i. record { outcome = z i; result = same i; touched = touched i }

  -- a macro costs at most 8,160: at most 32 rules, each at most 255
  pub cost_bound : (macro_answer set moves).result.cost ≤ 8160
  cost_bound = go (answered set moves)
    where
      go : {a : MacroAnswer} → Answered set moves a → a.result.cost ≤ 8160
      go (invalid n) = omega arith
      go (long v h) = omega arith
      go (unknown v h n) = omega arith
      go (denied j e) = omega arith
      go (given j m e) = omega (arith, valid_cost set j.0.formed moves j.1.1)

  -- a refused macro is all zeros, and touches nothing
  pub macro-refused : (macro_answer set moves).outcome ≢ 0
      → ((macro_answer set moves).result ≡ blank_macro) × ((macro_answer set moves).touched ≡ untouched)
  macro-refused = go (answered set moves)
    where
      go : {a : MacroAnswer} → Answered set moves a → a.outcome ≢ 0
          → (a.result ≡ blank_macro) × (a.touched ≡ untouched)
      go (invalid n) _ = (refl, refl)
      go (long v h) _ = (refl, refl)
      go (unknown v h n) _ = (refl, refl)
      go (denied j e) _ = (refl, refl)
      go (given j m e) h = absurd (h refl)

  -- ── All of it ──────────────────────────────────────────────────────────────────────────────────

  pub answer_meaning : Meaning set moves (macro_answer set moves)
  answer_meaning = record {
    not_valid = macro_invalid_iff;
    too_long = macro_long_iff;
    unknown_move = macro_unknown_iff;
    denied = macro-denied_iff;
    given = macro-given_iff;
    means = macro-means;
    bounded = cost_bound;
    touches = macro-touches;
    depends = macro-depends;
    changes = macro-changes;
    refused = macro-refused;
  }

-- wherever a place has a single value, a sequence's macro has 0 in both vectors
pub single_values_lem : (set : RuleSet) (q : Sequence) (m : Macro) → Means set q m
    → (i : ℕ) → width set.positions set.sizes i ≡ 1
    → (get_or m.condition i 0 ≡ 0) × (get_or m.effect i 0 ≡ 0)
single_values_lem set q m means =
    single-lines set.positions set.sizes m.condition m.effect means.form

-- so the unused places are 0
pub unused-places : (set : RuleSet) (q : Sequence) (m : Macro) → Means set q m → (i : ℕ) → set.positions ≤ i
    → (get_or m.condition i 0 ≡ 0) × (get_or m.effect i 0 ≡ 0)
unused-places set q m means i h = single_values_lem set q m means i (width_beyond set.positions set.sizes i h)

-- the empty sequence's macro: each variable in its own place, 0 where there is a single value, at no cost, and nothing
-- read or written
pub macro_empty : (set : RuleSet) → Valid set → macro_answer set []
    ≡ record {
      outcome = 0;
      result = record {
        condition = own_variables set.positions set.sizes;
        effect = own_variables set.positions set.sizes;
        cost = 0;
      };
      touched = untouched;
    }
unfolding composed composed_from empty_lines sequence_cost
macro_empty set is_valid =
    answer-given set [] ((valid_iff set).1 is_valid) (omega arith) refl (empty_lines set) refl
    ∙ ap (λ (t : Touched). record {
      outcome = 0;
      result = record {
        condition = own_variables set.positions set.sizes;
        effect = own_variables set.positions set.sizes;
        cost = 0;
      };
      touched = t;
    }) (empty-untouched set is_valid.formed.position_limits.1)
