-- `sequences::profile_at` meets its contract: the rules that it lends are the sequence of the index.
use mathlib.Core.Path.{sym, ap, ◌∙◌, subst}
use Prim.Native.Nat.{◌≤◌}
use lib.ListN.{length}
use Rattle.theory_spec.specs.Sequences.{Sequence, Numbered}
use Rattle.model_spec.specs.Rules.{sequence_cost}
use Rattle.macros_spec.specs.Composition.{composed, as_vectors}
use Rattle.tables_laws.proofs.SequenceLoopLaws.{short_numbered, part_rest}
use Rattle.sequences.proofs.profile_at.Goals as goal

pub profile_of-requires : goal.profile_of-requires
profile_of-requires c =
    let at = c.sequence_at-sequence in
    let lent = part_rest at.result.start at.result.rules ∙ at.ensures.1 in
    subst (λ (q : Sequence). Numbered 31 q × (length q ≤ 3)) (sym lent) (short_numbered c.args.set.count c.args.index)

pub returns : goal.returns
returns c =
    let set = c.args.set in
    let at = c.sequence_at-sequence in
    let lent = part_rest at.result.start at.result.rules ∙ at.ensures.1 in (
      c.profile_of.ensures.0 ∙ ap (λ q. as_vectors (composed set q)) lent,
      c.profile_of.ensures.1 ∙ ap (sequence_cost set) lent,
    )
