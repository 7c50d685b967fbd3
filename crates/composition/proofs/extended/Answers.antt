-- `composition::extended` meets its contract: by cases on whether the sequence has vectors, and on whether its effect
-- is unified with the rule's condition.
use mathlib.Core.Path.{◌≡◌, sym, ap, ◌∙◌, subst}
use mathlib.Core.Bool.{true}
use mathlib.Core.Option.{Option, some}
use borrow.Author.Tests.{not-true, not-false}
use Rattle.model_spec.specs.States.{values_of}
use Rattle.model_spec.specs.declared.Rule.{Rule}
use Rattle.macros_spec.specs.Composition.{Lines, extended, as_vectors, lines_of}
use Rattle.macros_spec.specs.VectorMeaning.{ExtendedMeaning}
use Rattle.macros_spec.specs.declared.Vectors.{Vectors}
use Rattle.macros_spec.proofs.CompositionLoopLaws.{extend-denied, extend-clash, extend_met}
use Rattle.macros_spec.proofs.VectorMeaningLaws.{extended_meaning}
use Rattle.composition.proofs.extended.Goals as goal

-- what equals the definition has its meaning
found : (sequence : Vectors) (rule : Rule) (r : Vectors) (lines : Option Lines) → r ≡ as_vectors lines
    → extended rule (lines_of sequence) ≡ lines
    → (r ≡ as_vectors (extended rule (lines_of sequence))) × ExtendedMeaning sequence rule r
found sequence rule r lines e own =
    let same = e ∙ ap as_vectors (sym own) in
    (same, subst (ExtendedMeaning sequence rule) (sym same) (extended_meaning sequence rule))

pub returns-then-not-sequence : goal.returns-then-not-sequence
returns-then-not-sequence c =
    let a = c.args in
    found a.sequence a.rule _ _ c.denied.ensures
    (extend-denied a.rule a.sequence (not-true _ c.if-not-sequence.true))

pub unified-met-requires : goal.unified-met-requires
unified-met-requires c = not-false _ c.if-not-sequence.false

pub returns-then-not-met : goal.returns-then-not-met
returns-then-not-met c =
    let a = c.args in
    found a.sequence a.rule _ _ c.denied-then-not-met.ensures
    (extend-clash a.rule a.sequence (not-false _ c.if-not-sequence.false) c.unified-met.result c.unified-met.ensures
    (not-true _ c.if-not-met.true))

pub returns : goal.returns
returns c =
    let a = c.args in
    let met : Vectors = c.unified-met.result in
    let admitted : met.admitted ≡ true = not-false _ c.if-not-met.false in
    let longer : Vectors = c.followed.result in
    let reached : longer.effect ≡ values_of a.rule.effect met.effect = c.followed.ensures.2 in
    let same : longer.condition ≡ met.condition = c.followed.ensures.1 in
    let kept : longer.admitted ≡ true = c.followed.ensures.0 ∙ admitted in
    found a.sequence a.rule _ (some (record { condition = met.condition; effect = longer.effect }))
    (λ i. record { admitted = kept i; condition = same i; effect = longer.effect })
    (extend_met a.rule a.sequence (not-false _ c.if-not-sequence.false) met c.unified-met.ensures _ admitted reached)
