-- What the macro entry gives of a text that is read and of one that is refused, and what it means.
-- Assumes nothing.
use mathlib.Core.Path.{◌≡◌, refl, sym, ap, ap₂, subst, ◌∙◌}
use mathlib.Core.Logic.{◌↔◌, ◌≢◌, ⊎_elim}
use mathlib.Core.Bool.{true, false, not}
use mathlib.Core.List.{List, [], ◌∷◌, ◌++◌}
use Prim.Native.Nat.{ℕ, ◌≤◌, ◌<◌}
use native.Mathlib.Omega.{arith}
use lib.Dec.{ltb, eqb}
use lib.ListN.{length}
use borrow.Author.Tests.{eq-eqb, ne_eqb, lt-ltb, le-ltb}
use Rattle.theory_spec.specs.Lists.{padded}
use Rattle.theory_spec.proofs.TestLaws.{below?, equal?}
use Rattle.model_spec.specs.Refusals.{Cause, first_refusal, NonZero}
use Rattle.model_spec.specs.declared.RuleSet.{RuleSet}
use Rattle.model_spec.proofs.RefusalLaws.{refusal-append, refusal-before}
use Rattle.files_spec.specs.Reading.{reading}
use Rattle.files_spec.proofs.RefusedLaws.{reading-other}
use Rattle.macros_spec.specs.Answers.{macro_causes, refused_macro, macro_with, macro_answer, Judged, Admitted, Meaning}
use Rattle.macros_spec.specs.declared.Macro.{Macro}
use Rattle.macros_spec.specs.declared.MacroAnswer.{MacroAnswer}
use Rattle.macros_spec.specs.declared.Touched.{Touched}
use Rattle.macros_spec.proofs.MacroLaws.{answer_meaning}
use Rattle.planner_spec.specs.TextMacro.{macro_bytes, macro_size, macro_of, touched_at, room_causes, text_macro}
use Rattle.planner_spec.specs.TextMacro.{macro_buffer, TextMacroMeaning}
use Rattle.planner_spec.proofs.OfTextLaws.{of-read, of-refused, Own, own_refusal, not_7, text-judged}
use Rattle.planner_spec.proofs.MacroBytesLaws.{buffer_back, blank-bytes, buffer-given, buffer-refused}

abbrev outcome_of : MacroAnswer → ℕ
outcome_of answer = answer.outcome

-- ── An outcome, and then the room ────────────────────────────────────────────────────────────────

-- causes before others count as one, whose number is their first refusal
refusal_then : (causes others : List Cause) → NonZero causes
    → first_refusal (causes ++ others)
    ≡ first_refusal ((first_refusal causes, not (eqb (first_refusal causes) 0)) ∷ others)
refusal_then causes others z =
    ⊎_elim (λ e. refusal-append causes others z e ∙ rw (eq-eqb (first_refusal causes) 0 e))
    (λ h. refusal-before causes others h ∙ rw (ne_eqb (first_refusal causes) 0 h))
    (equal? (first_refusal causes) 0)

-- no cause has this number
abbrev Without : ℕ → List Cause → Type 0
Without n [] = Unit {0}
Without n ((k, b) ∷ causes) = (k ≢ n) × Without n causes

never : (n : ℕ) (causes : List Cause) → n ≢ 0 → Without n causes → first_refusal causes ≢ n
never n [] h w e = h (sym e)
never n ((k, true) ∷ causes) h w e = w.0 e
never n ((k, false) ∷ causes) h w e = never n causes h w.1 e

-- the outcome of a call whose macro is to stand in a buffer of `room` bytes, by the outcome without one
abbrev pub fitted : ℕ → ℕ → ℕ
fitted outcome room = first_refusal ((outcome, not (eqb outcome 0)) ∷ (8, ltb room macro_size) ∷ [])

pub fitted-refused : (outcome room : ℕ) → outcome ≢ 0 → fitted outcome room ≡ outcome
fitted-refused outcome room h = rw (ne_eqb outcome 0 h)

pub fitted_short : (outcome room : ℕ) → outcome ≡ 0 → room < macro_size → fitted outcome room ≡ 8
fitted_short outcome room e short = rw (eq-eqb outcome 0 e, lt-ltb room macro_size short)

pub fitted-whole : (outcome room : ℕ) → macro_size ≤ room → fitted outcome room ≡ outcome
fitted-whole outcome room fits =
    ⊎_elim (λ e. rw (eq-eqb outcome 0 e, le-ltb room macro_size fits) (sym e)) (λ h. fitted-refused outcome room h)
    (equal? outcome 0)

-- 0 has its macro and its room
pub fitted_0 : (outcome room : ℕ) → fitted outcome room ≡ 0 → (outcome ≡ 0) × (macro_size ≤ room)
fitted_0 outcome room e =
    ⊎_elim (λ z. ⊎_elim (λ short. absurd (omega (arith, fitted_short outcome room z short, e))) (λ fits. (z, fits))
    (below? room macro_size)) (λ h. absurd (h (sym (fitted-refused outcome room h) ∙ e))) (equal? outcome 0)

module _ (set : RuleSet) (moves : List ℕ) (room : ℕ) where
  abbrev room_outcome : ℕ
  room_outcome = first_refusal (room_causes set moves room)

  -- none of the reader's numbers
  room_own : Own room_outcome
  unfolding room_causes macro_causes
  room_own =
      own_refusal (room_causes set moves room)
      (omega arith, (omega arith, (omega arith, (omega arith, (omega arith, tt)))))

  -- the call's outcome, then the room
  pub room_fitted : room_outcome ≡ fitted (macro_answer set moves).outcome room
  unfolding room_causes macro_answer macro_causes
  room_fitted =
      refusal_then (macro_causes set moves) ((8, ltb room macro_size) ∷ [])
      (λ e. omega (arith, e), (λ e. omega (arith, e), (λ e. omega (arith, e), (λ e. omega (arith, e), tt))))

  -- the call's own answer, unless only the room is missing
  pub room-same : room_outcome ≡ (macro_answer set moves).outcome → macro_with set moves room_outcome ≡ macro_answer set moves
  unfolding macro_answer
  room-same e = ap (macro_with set moves) e

  answer_never_8 : (macro_answer set moves).outcome ≢ 8
  unfolding macro_answer macro_causes
  answer_never_8 =
      never 8 (macro_causes set moves) (λ e. omega (arith, e))
      (λ e. omega (arith, e), (λ e. omega (arith, e), (λ e. omega (arith, e), (λ e. omega (arith, e), tt))))

  -- any other outcome than 8 is the call's own
  not_short : room_outcome ≢ 8 → room_outcome ≡ (macro_answer set moves).outcome
  not_short h =
      let outcome = (macro_answer set moves).outcome in
      room_fitted ∙ ⊎_elim (λ z. ⊎_elim (λ short. absurd (h (room_fitted ∙ fitted_short outcome room z short)))
      (λ fits. fitted-whole outcome room fits) (below? room macro_size)) (λ k. fitted-refused outcome room k)
      (equal? outcome 0)

  short_iff : (room_outcome ≡ 8) ↔ (Judged set moves × Admitted set moves × (room < macro_size))
  short_iff =
      let outcome = (macro_answer set moves).outcome in
      let means = answer_meaning set moves in (
        λ e. ⊎_elim (λ short. ⊎_elim (λ z. let w = means.given.0 z in (w.0, w.1, short))
            (λ k. absurd (answer_never_8 (sym (fitted-refused outcome room k) ∙ sym room_fitted ∙ e)))
            (equal? outcome 0))
            (λ fits. absurd (answer_never_8 (sym (fitted-whole outcome room fits) ∙ sym room_fitted ∙ e)))
            (below? room macro_size),
        λ w. room_fitted ∙ fitted_short outcome room (means.given.1 (w.0, w.1)) w.2,
      )

-- the vectors of every answer have sixteen places
answer_sizes : (set : RuleSet) (moves : List ℕ) (a : MacroAnswer) → Meaning set moves a
    → (length a.result.condition ≡ 16) × (length a.result.effect ≡ 16)
answer_sizes set moves a means =
    ⊎_elim (λ e. let f = (means.means e).form in (f.condition_length, f.effect_length))
    (λ h.
    let blank = (means.refused h).0 in
    (ap (λ (m : Macro). length m.condition) blank, ap (λ (m : Macro). length m.effect) blank))
    (equal? a.outcome 0)

-- ── Of a text ────────────────────────────────────────────────────────────────────────────────────

module _ (text moves : List ℕ) (room : ℕ) where
  abbrev set : RuleSet
  set = (reading text).set

  pub macro-read : (reading text).outcome ≡ 0
      → text_macro text moves room ≡ macro_with set moves (first_refusal (room_causes set moves room))
  unfolding text_macro
  macro-read = of-read text _ _

  pub macro-refused : (reading text).outcome ≢ 0
      → text_macro text moves room ≡ refused_macro (reading text).outcome
  unfolding text_macro
  macro-refused = of-refused text _ _

  -- of a text that is read: the call's own answer where the outcome, once fitted, is 0; else that outcome and zeros
  pub macro-given : (reading text).outcome ≡ 0 → fitted (macro_answer set moves).outcome room ≡ 0
      → text_macro text moves room ≡ macro_answer set moves
  macro-given e z =
      let own = (fitted_0 (macro_answer set moves).outcome room z).0 in
      macro-read e ∙ room-same set moves room (room_fitted set moves room ∙ z ∙ sym own)

  pub macro-denied : (n : ℕ) → (reading text).outcome ≡ 0 → n ≡ fitted (macro_answer set moves).outcome room → n ≢ 0
      → text_macro text moves room ≡ refused_macro n
  macro-denied n e o h =
      macro-read e ∙ ap (macro_with set moves) (room_fitted set moves room ∙ sym o) ∙ rw (ne_eqb n 0 h)

  -- of a text that is read, any outcome but 8 has the call's meaning
  read_meaning : (reading text).outcome ≡ 0 → (text_macro text moves room).outcome ≢ 8
      → Meaning set moves (text_macro text moves room)
  read_meaning e h =
      let same = not_short set moves room (λ z. h (ap outcome_of (macro-read e) ∙ z)) in
      subst (Meaning set moves) (sym (macro-read e ∙ room-same set moves room same)) (answer_meaning set moves)

  -- with room for a macro, its bytes stand in the buffer, which gives it back with its sets
  with-room : (reading text).outcome ≡ 0 → macro_size ≤ room
      → let answer = text_macro text moves room in
      let buffer = macro_buffer room answer in
      Meaning set moves (record { outcome = answer.outcome; result = macro_of buffer; touched = touched_at buffer })
  with-room e fits =
      let answer = text_macro text moves room in
      let whole = room_fitted set moves room ∙ fitted-whole (macro_answer set moves).outcome room fits in
      let own = sym whole ∙ sym (ap outcome_of (macro-read e)) in
      let means = read_meaning e (λ z. answer_never_8 set moves room (own ∙ z)) in
      let sizes = answer_sizes set moves answer means in
      let bytes_of : Macro → Touched → List ℕ = λ m touched. padded room 0 (macro_bytes m touched) in
      let bytes : macro_buffer room answer ≡ bytes_of answer.result answer.touched =
      ⊎_elim (λ z. buffer-given room answer z)
      (λ h. buffer-refused room answer h ∙ sym (blank-bytes room fits)
      ∙ ap₂ bytes_of (sym (means.refused h).0) (sym (means.refused h).1))
      (equal? answer.outcome 0) in
      let back = buffer_back room fits answer.result answer.touched sizes.0 sizes.1 in
      let result = ap macro_of bytes ∙ back.0 in
      let touched = ap touched_at bytes ∙ back.1 in
      subst (Meaning set moves)
      (λ i. record { outcome = answer.outcome; result = sym result i; touched = sym touched i }) means

  pub text-macro-meaning :
      let answer = text_macro text moves room in
      TextMacroMeaning text moves room answer.outcome (macro_buffer room answer)
  text-macro-meaning =
      let answer = text_macro text moves room in
      let refused : (reading text).outcome ≢ 0 → answer.outcome ≡ (reading text).outcome =
      λ h. ap outcome_of (macro-refused h) in
      record {
        judged = text-judged text answer.outcome refused
            (λ e. subst Own (sym (ap outcome_of (macro-read e))) (room_own set moves room));
        refused_text = refused;
        short_buffer = (
          λ e. ⊎_elim
              (λ z.
              let w = (short_iff set moves room).0 (sym (ap outcome_of (macro-read z)) ∙ e) in
              (z, w.0, w.1, w.2))
              (λ h. absurd (reading-other text 8 refl (sym (refused h) ∙ e))) (equal? (reading text).outcome 0),
          λ w. ap outcome_of (macro-read w.0) ∙ (short_iff set moves room).1 (w.1, w.2, w.3),
        );
        read_text = λ e h. (answer, refl, refl, read_meaning e h);
        read_back = with-room;
        zeros = λ h. buffer-refused room answer h;
        never7 = not_7 text answer.outcome refused
            (λ e z. (read_meaning e (λ k. omega (arith, z, k))).not_valid.0 z);
      }
