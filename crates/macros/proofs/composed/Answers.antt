-- `macros::composed` meets its contract: each call of its closure puts one rule behind the sequence so far.
use mathlib.Core.Path.{◌≡◌, subst}
use mathlib.Core.List.{[], ◌∷◌}
use borrow.Author.Rules.{rules}
use Rattle.std.proofs.lemmas.Fn.{fold_over, slice_gives, fronts}
use Rattle.theory_spec.specs.Sequences.{Sequence, Numbered}
use Rattle.theory_spec.proofs.SequenceLaws.{numbered_left, numbered-right}
use Rattle.macros_spec.specs.Composition.{empty_lines, composed, composed_from, as_vectors}
use Rattle.macros_spec.specs.declared.Vectors.{Vectors}
use Rattle.macros_spec.proofs.CompositionLoopLaws.{compose_more}
use Rattle.macros.proofs.composed.Goals as goal

pub returns : goal.returns
unfolding composed composed_from empty_lines
returns c =
    let set = c.args.set in
    let Composed = λ (q : Sequence) (v : Vectors). Numbered 31 q → v ≡ as_vectors (composed set q) in
    subst (λ q. Composed q c.fold.result) c.iter.ensures.rest
    (fold_over fronts (λ y. y.now) _ Composed _
    (λ q v x next d so_far call. (
      λ numbered.
          compose_more set q v x.now next (so_far (numbered_left 31 q (x.now ∷ []) numbered))
          (numbered-right 31 q (x.now ∷ []) numbered).1 (search rules),
      search rules,
    ))
    _ _ _ _ (slice_gives c.iter.result) (λ _. c.empty.ensures.0) c.fold.ensures.ran)
    c.requires
