-- `composition::empty` meets its contract: both vectors are what `own_variables` gives, and so have their meaning.
use mathlib.Core.Path.{sym, ap, subst}
use mathlib.Core.Option.{some}
use Rattle.macros_spec.specs.Composition.{empty_lines, as_vectors}
use Rattle.macros_spec.specs.VectorMeaning.{EmptyMeaning}
use Rattle.macros_spec.proofs.VectorMeaningLaws.{empty_meaning}
use Rattle.composition.proofs.empty.Goals as goal

pub returns : goal.returns
unfolding empty_lines
returns c =
    let set = c.args.set in
    let own = ap (λ v. as_vectors (some (record { condition = v; effect = v }))) c.own_variables-condition.ensures in
    (own, λ valid. subst (EmptyMeaning set) (sym own) (empty_meaning set valid))
