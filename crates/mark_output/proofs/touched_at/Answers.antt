-- `mark_output::touched_at` meets its contract: the two sets are those of the sequence's vectors.
use mathlib.Core.Path.{◌≡◌, ap, ap₂, ◌∙◌}
use Prim.Native.Nat.{ℕ}
use Rattle.model_spec.specs.declared.RuleSet.{RuleSet}
use Rattle.macros_spec.specs.Composition.{composed, as_vectors, lines_of}
use Rattle.macros_spec.specs.Answers.{touched_in}
use Rattle.macros_spec.specs.How.Touching.{wide_positions, touched_within}
use Rattle.macros_spec.specs.declared.Vectors.{Vectors}
use Rattle.macros_spec.proofs.ExtensionLaws.{lines_vectors}
use Rattle.macros_spec.proofs.TouchedLaws.{touched-within}
use Rattle.tables_laws.specs.How.ShortSequences.{short_sequence}
use Rattle.report_laws.specs.How.Marks.{index_touched}
use Rattle.mark_output.proofs.touched_at.Goals as goal

-- from the positions with two values or more, and the sequence's vectors
sets_of : (set : RuleSet) (i wide : ℕ) (v : Vectors) → wide ≡ wide_positions set
    → v ≡ as_vectors (composed set (short_sequence set.count i))
    → touched_within wide (lines_of v) ≡ index_touched set i
unfolding index_touched touched_in
sets_of set i wide v e f =
    let m = composed set (short_sequence set.count i) in
    ap₂ touched_within e (ap lines_of f ∙ lines_vectors m) ∙ touched-within set m

pub returns : goal.returns
returns c =
    let s = c.args in
    c.touched.ensures
    ∙ sets_of s.set s.index _ _ c.wide_positions.ensures c.profile_at-own.ensures.0
