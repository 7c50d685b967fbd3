-- `sequences::profile_of` meets its contract. The invariant: the vectors so far are those of the first i moves, the
-- cost so far plus the cost of the moves left is the whole cost, and the cost so far is at most 255 for each of the
-- first i moves.
use mathlib.Core.Path.{refl}
use native.Mathlib.Omega.{arith}
use borrow.Author.Rules.{rules}
use Rattle.model_spec.specs.Rules.{rule_at}
use Rattle.macros_spec.specs.Composition.{empty_lines, composed_from, composed}
use Rattle.model_spec.proofs.MoveLaws.{numbered_at}
use Rattle.macros_spec.proofs.MoveLoopLaws.{cost_go, cost-end}
use Rattle.macros_spec.proofs.CompositionLoopLaws.{compose_go, compose-end}
use Rattle.sequences.proofs.profile_of.Goals as goal

pub loop-number-init : goal.loop-number-init
unfolding composed composed_from empty_lines
loop-number-init c = (search rules, c.empty-vectors.ensures.0, search rules, search rules)

pub overflow_sub-rule : goal.overflow_sub-rule
overflow_sub-rule c = omega (arith, (numbered_at 31 c.args.moves.now c.loop-number.number-index c.requires.0 (omega arith)))

pub overflow_cast-rule : goal.overflow_cast-rule
overflow_cast-rule c = omega (arith, (numbered_at 31 c.args.moves.now c.loop-number.number-index c.requires.0 (omega arith)))

pub offset_bounds-set-number : goal.offset_bounds-set-number
offset_bounds-set-number c = omega (arith, (numbered_at 31 c.args.moves.now c.loop-number.number-index c.requires.0 (omega arith)))

pub bounds-set-number : goal.bounds-set-number
bounds-set-number c = omega (arith, (numbered_at 31 c.args.moves.now c.loop-number.number-index c.requires.0 (omega arith)))

pub loop-number-preserved : goal.loop-number-preserved
unfolding rule_at
loop-number-preserved c =
    let a = c.args in
    let left = cost_go a.set a.moves.now c.loop-number.number-index _ refl (omega arith) in (
      search rules,
      compose_go a.set a.moves.now c.loop-number.number-index c.loop-number.vectors c.loop-number.invariant.1 _ _ refl
          c.extended-vectors.ensures.0 (omega arith),
      omega (arith, left),
      search rules,
    )

pub returns : goal.returns
returns c =
    let a = c.args in (
      compose-end a.set a.moves.now c.loop-number.number-index c.loop-number.vectors c.loop-number.invariant.1 (omega arith),
      omega (arith, cost-end a.set a.moves.now c.loop-number.number-index (omega arith)),
    )
