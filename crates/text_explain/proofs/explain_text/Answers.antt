-- `text_explain::explain_text` meets its contract: what either way out gives and leaves is the definition's, which has
-- its meaning.
use mathlib.Core.Path.{◌≡◌, refl, sym, ap, ◌∙◌}
use mathlib.Core.List.{List}
use Prim.Native.Nat.{ℕ}
use lib.ListN.{length, replicate, length-replicate}
use Rattle.theory_spec.specs.Sequences.{Sequence}
use Rattle.model_spec.proofs.BufferLaws.{filled-whole}
use Rattle.files_spec.specs.declared.Reading.{Reading}
use Rattle.search_spec.specs.Query.{Query, query_of}
use Rattle.explain_spec.specs.Explained.{bare, explained}
use Rattle.explain_spec.specs.declared.Explanation.{Explanation}
use Rattle.planner_spec.specs.TextExplain.{text_explained, explanation_buffer, TextExplainMeaning}
use Rattle.planner_spec.proofs.ExplanationBytesLaws.{buffer-bare}
use Rattle.planner_spec.proofs.TextExplainLaws.{explained-refused, explained-read, text_explain_meaning}
use Rattle.text_explain.proofs.explain_text.Goals as goal

-- what is given and left is the definition's
told : (text : List ℕ) (query : Query) (q : Sequence) (room : ℕ) (given : ℕ) (left : List ℕ) (answer : Explanation)
    → text_explained text query q ≡ answer → given ≡ answer.outcome → left ≡ explanation_buffer room answer
    → (given ≡ (text_explained text query q).outcome) × (left ≡ explanation_buffer room (text_explained text query q))
    × TextExplainMeaning text query q room given left
told text query q room given left answer is e f =
    let outcome = e ∙ ap (λ (x : Explanation). x.outcome) (sym is) in
    let leaves = f ∙ ap (explanation_buffer room) (sym is) in
    let means = text_explain_meaning text query q room in
    (outcome, leaves, rw (outcome, leaves) means)

pub returns-then-file-ne0 : goal.returns-then-file-ne0
returns-then-file-ne0 c =
    let a = c.args in
    let query = query_of a.query in
    let text = a.text.now in
    let q = a.moves.now in
    let room = length a.out.now in
    let blank = c.fill_from.ensures ∙ filled-whole 0 a.out.now in
    let outcome = ap (λ (f : Reading). f.outcome) c.read-file.ensures.0 in
    let refused = explained-refused text query q (λ z. c.if-file-ne0.true (outcome ∙ z)) in
    told text query q room _ _ (bare c.read-file.result.outcome) (refused ∙ ap bare (sym outcome)) refl
    (blank ∙ sym (buffer-bare room c.read-file.result.outcome))

pub put_explanation-requires : goal.put_explanation-requires
put_explanation-requires c =
    let room = length c.args.out.now in
    let blank = c.fill_from.ensures ∙ filled-whole 0 c.args.out.now in
    blank ∙ ap (λ n. replicate n 0) (sym (ap length blank ∙ length-replicate room 0))

pub returns : goal.returns
returns c =
    let a = c.args in
    let query = query_of a.query in
    let text = a.text.now in
    let q = a.moves.now in
    let room = length a.out.now in
    let blank = c.fill_from.ensures ∙ filled-whole 0 a.out.now in
    let file = c.read-file.ensures.0 in
    let taken = sym (ap (λ (f : Reading). f.outcome) file) ∙ c.if-file-ne0.false in
    let explains : Reading → Explanation = λ f. explained f.set query q in
    let own = c.explain-answer.ensures.0 ∙ ap explains file in
    let same = ap length blank ∙ length-replicate room 0 in
    told text query q room _ _ c.explain-answer.result (explained-read text query q taken ∙ sym own) refl
    (c.put_explanation.ensures ∙ ap (λ n. explanation_buffer n c.explain-answer.result) same)
