-- `text_macros::macro_of` meets its contract: what each way out gives and leaves is the definition's answer, which has
-- its meaning.
use mathlib.Core.Path.{◌≡◌, refl, sym, ap, ◌∙◌}
use mathlib.Core.List.{List}
use Prim.Native.Nat.{ℕ, ◌≤◌}
use native.Mathlib.Omega.{arith}
use lib.ListN.{length, replicate, length-replicate}
use Rattle.theory_spec.specs.Lists.{padded}
use Rattle.model_spec.proofs.BufferLaws.{filled-whole}
use Rattle.files_spec.specs.Reading.{reading}
use Rattle.files_spec.specs.declared.Reading.{Reading}
use Rattle.macros_spec.specs.Answers.{refused_macro, macro_answer}
use Rattle.macros_spec.specs.declared.MacroAnswer.{MacroAnswer}
use Rattle.planner_spec.specs.TextMacro.{macro_bytes, macro_size, text_macro, macro_buffer, TextMacroMeaning}
use Rattle.planner_spec.proofs.MacroBytesLaws.{buffer-given, buffer-refused}
use Rattle.planner_spec.proofs.TextMacroLaws.{fitted, fitted_0, macro-given, macro-denied, macro-refused}
use Rattle.planner_spec.proofs.TextMacroLaws.{text-macro-meaning}
use Rattle.text_macros.proofs.macro_of.Goals as goal

module _ (text moves : List ℕ) (room : ℕ) where
  -- what is promised of a number and a buffer holds of the definition's answer
  promised : (answer : MacroAnswer) (buffer : List ℕ) → text_macro text moves room ≡ answer
      → buffer ≡ macro_buffer room answer
      → (answer.outcome ≡ (text_macro text moves room).outcome)
      × (buffer ≡ macro_buffer room (text_macro text moves room))
      × TextMacroMeaning text moves room answer.outcome buffer
  promised answer buffer e b =
      let outcome = ap (λ (a : MacroAnswer). a.outcome) (sym e) in
      let left = b ∙ ap (macro_buffer room) (sym e) in
      (outcome, left, rw (outcome, left) (text-macro-meaning text moves room))

  -- the call's answer for the set that is read
  own : (file : Reading) (answer : MacroAnswer) → file ≡ reading text → answer ≡ macro_answer file.set moves
      → answer ≡ macro_answer (reading text).set moves
  own file answer f e = e ∙ ap (λ (r : Reading). macro_answer r.set moves) f

  -- and its outcome once fitted
  refusal : (answer : MacroAnswer) (size n : ℕ) → answer ≡ macro_answer (reading text).set moves → size ≡ room
      → n ≡ fitted answer.outcome size → n ≡ fitted (macro_answer (reading text).set moves).outcome room
  refusal answer size n e k h =
      h ∙ ap (λ (a : MacroAnswer). fitted a.outcome size) e
      ∙ ap (fitted (macro_answer (reading text).set moves).outcome) k

  -- where that is 0, there is a macro, and room for it
  fits : fitted (macro_answer (reading text).set moves).outcome room ≡ 0
      → ((macro_answer (reading text).set moves).outcome ≡ 0) × (macro_size ≤ room)
  fits e = fitted_0 (macro_answer (reading text).set moves).outcome room e

-- the text is read
taken : (text : List ℕ) (file : Reading) → file ≡ reading text → file.outcome ≡ 0 → (reading text).outcome ≡ 0
taken text file f z = sym (ap (λ (r : Reading). r.outcome) f) ∙ z

-- the zeroed buffer keeps its length
sized : (out zeroed : List ℕ) → zeroed ≡ replicate (length out) 0 → length zeroed ≡ length out
sized out zeroed e = ap length e ∙ length-replicate (length out) 0

-- ── The ways out ─────────────────────────────────────────────────────────────────────────────────

pub returns-then-file-ne0 : goal.returns-then-file-ne0
returns-then-file-ne0 c =
    let text = c.args.text.now in
    let moves = c.args.moves.now in
    let room = length c.args.out.now in
    let zeroed = c.fill_from.ensures ∙ filled-whole 0 c.args.out.now in
    let outcome = ap (λ (f : Reading). f.outcome) c.read-file.ensures.0 in
    let refused = macro-refused text moves room (λ z. c.if-file-ne0.true (outcome ∙ z)) in
    let answer = refused_macro c.read-file.result.outcome in
    promised text moves room answer _ (refused ∙ ap refused_macro (sym outcome))
    (zeroed ∙ sym (buffer-refused room answer c.if-file-ne0.true))

pub returns-then-refusal-ne0 : goal.returns-then-refusal-ne0
returns-then-refusal-ne0 c =
    let text = c.args.text.now in
    let moves = c.args.moves.now in
    let room = length c.args.out.now in
    let zeroed = c.fill_from.ensures ∙ filled-whole 0 c.args.out.now in
    let file = c.read-file.ensures.0 in
    let given = own text moves room _ _ file c.macro_of-answer.ensures.0 in
    let refused = refusal text moves room _ _ _ given (sized _ _ zeroed) c.fitted-refusal.ensures in
    let answer = refused_macro c.fitted-refusal.result in
    promised text moves room answer _
    (macro-denied text moves room _ (taken text _ file c.if-file-ne0.false) refused c.if-refusal-ne0.true)
    (zeroed ∙ sym (buffer-refused room answer c.if-refusal-ne0.true))

pub put_macro-requires : goal.put_macro-requires
put_macro-requires c =
    let text = c.args.text.now in
    let moves = c.args.moves.now in
    let room = length c.args.out.now in
    let same = sized _ _ (c.fill_from.ensures ∙ filled-whole 0 c.args.out.now) in
    let given = own text moves room _ _ c.read-file.ensures.0 c.macro_of-answer.ensures.0 in
    let passed = sym (refusal text moves room _ _ _ given same c.fitted-refusal.ensures) ∙ c.if-refusal-ne0.false in
    omega (arith, (fits text moves room passed).1, same)

pub returns : goal.returns
returns c =
    let text = c.args.text.now in
    let moves = c.args.moves.now in
    let room = length c.args.out.now in
    let same = sized _ _ (c.fill_from.ensures ∙ filled-whole 0 c.args.out.now) in
    let file = c.read-file.ensures.0 in
    let whole = own text moves room _ _ file c.macro_of-answer.ensures.0 in
    let passed = sym (refusal text moves room _ _ _ whole same c.fitted-refusal.ensures) ∙ c.if-refusal-ne0.false in
    let outcome = ap (λ (a : MacroAnswer). a.outcome) whole ∙ (fits text moves room passed).0 in
    let given = c.macro_of-answer.result in
    let answer : MacroAnswer = record { outcome = 0; result = given.result; touched = given.touched } in
    promised text moves room answer _
    (macro-given text moves room (taken text _ file c.if-file-ne0.false) passed
    ∙ sym whole ∙ (λ i. record { outcome = outcome i; result = given.result; touched = given.touched }))
    (c.put_macro.ensures ∙ ap (λ n. padded n 0 (macro_bytes given.result given.touched)) same
    ∙ sym (buffer-given room answer refl))
