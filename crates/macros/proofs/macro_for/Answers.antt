-- `macros::macro_for` meets its contract: each way out is the answer to its cause.
use mathlib.Core.Path.{◌≡◌, sym, ap, ◌∙◌}
use mathlib.Core.Bool.{true, false, not, cond}
use mathlib.Core.Option.{some, none}
use Prim.Native.Nat.{ℕ, ◌≤◌}
use native.Mathlib.Omega.{arith}
use lib.ListN.{length}
use borrow.Author.Tests.{not-true, not-false}
use borrow.Author.Rules.{rules}
use Rattle.theory_spec.specs.Lists.{any, within}
use Rattle.theory_spec.specs.Sequences.{Sequence, Numbered}
use Rattle.model_spec.specs.Rules.{sequence_cost}
use Rattle.model_spec.specs.Validity.{WellFormed}
use Rattle.model_spec.specs.declared.RuleSet.{RuleSet}
use Rattle.model_spec.proofs.ValidityLaws.{valid_cost}
use Rattle.macros_spec.specs.Composition.{Lines, lines_of}
use Rattle.macros_spec.specs.Touched.{touched_by, touched_of}
use Rattle.macros_spec.specs.How.Touching.{wide_positions, touched_within}
use Rattle.macros_spec.specs.declared.Touched.{Touched}
use Rattle.macros_spec.specs.declared.Vectors.{Vectors}
use Rattle.model_spec.proofs.MoveLaws.{no_unknown_iff, numbered_wider}
use Rattle.macros_spec.proofs.CompositionLoopLaws.{lines-denied, lines-admitted}
use Rattle.macros_spec.proofs.AnswerLaws.{worked_long, worked_unknown, worked-denied, worked-given}
use Rattle.macros_spec.proofs.TouchedLaws.{touched-within}
use Rattle.macros.proofs.macro_for.Goals as goal

-- ── What the calls tell ──────────────────────────────────────────────────────────────────────────

-- the sets of the vectors are those of the macro
module _ (set : RuleSet) (v : Vectors) where
  abbrev lines : Lines
  lines = record { condition = v.condition; effect = v.effect }

  sets-given : v.admitted ≡ true → (wide : ℕ) (sets : Touched) → wide ≡ wide_positions set
      → sets ≡ touched_within wide (lines_of v) → sets ≡ touched_by set lines
  sets-given admitted wide sets w e =
      e
      ∙ ap (λ x. touched_within x (lines_of v)) w
      ∙ touched-within set (lines_of v)
      ∙ ap (λ b. touched_of set (cond b (some lines) none)) admitted

module _ (set : RuleSet) (moves : Sequence) where
  -- a well-formed set has at most 31 rules
  numbered-31 : WellFormed set → any (λ r. not (within 1 set.count r)) moves ≡ false → Numbered 31 moves
  numbered-31 formed numbered =
      numbered_wider set.count 31 moves formed.count_limits.1 ((no_unknown_iff set.count moves).0 numbered)

  -- and at most 32 of its rules cost at most 32 times 255
  cost-small : WellFormed set → length moves ≤ 32 → any (λ r. not (within 1 set.count r)) moves ≡ false
      → sequence_cost set moves ≤ 8160
  cost-small formed few numbered =
      omega (arith, valid_cost set formed moves ((no_unknown_iff set.count moves).0 numbered))

-- ── The proof ────────────────────────────────────────────────────────────────────────────────────

pub returns-then-moves-gt-MOVE_LIMIT : goal.returns-then-moves-gt-MOVE_LIMIT
returns-then-moves-gt-MOVE_LIMIT c =
    let s = c.args in
    c.refused.ensures ∙ sym (worked_long s.set s.moves.now c.if-moves-gt-MOVE_LIMIT.true)

pub returns-then-has_unknown_move : goal.returns-then-has_unknown_move
returns-then-has_unknown_move c =
    let s = c.args in
    c.refused-then-has_unknown_move.ensures
    ∙ sym (worked_unknown s.set s.moves.now c.if-moves-gt-MOVE_LIMIT.false
    (sym c.has_unknown_move.ensures ∙ c.if-has_unknown_move.true))

pub composed-composition-requires : goal.composed-composition-requires
composed-composition-requires c =
    numbered-31 c.args.set c.args.moves.now c.requires
    (sym c.has_unknown_move.ensures ∙ c.if-has_unknown_move.false)

pub returns-then-not-composition : goal.returns-then-not-composition
returns-then-not-composition c =
    let s = c.args in
    c.refused-then-not-composition.ensures
    ∙ sym (worked-denied s.set s.moves.now c.if-moves-gt-MOVE_LIMIT.false c.requires
    (sym c.has_unknown_move.ensures ∙ c.if-has_unknown_move.false)
    (lines-denied _ _ c.composed-composition.ensures (not-true _ c.if-not-composition.true)))

pub overflow_cast-cost : goal.overflow_cast-cost
overflow_cast-cost c =
    let known = sym c.has_unknown_move.ensures ∙ c.if-has_unknown_move.false in
    let bound = cost-small c.args.set c.args.moves.now c.requires c.if-moves-gt-MOVE_LIMIT.false known in
    search rules

pub returns : goal.returns
returns c =
    let s = c.args in
    let known = sym c.has_unknown_move.ensures ∙ c.if-has_unknown_move.false in
    let bound = cost-small s.set s.moves.now c.requires c.if-moves-gt-MOVE_LIMIT.false known in
    let cost : c.cost_of-cost.result ≡ sequence_cost s.set s.moves.now = omega (arith, c.cost_of-cost.ensures) in
    let found = not-false _ c.if-not-composition.false in
    let sets = sets-given s.set c.composed-composition.result found _ _
    c.wide_positions-wide.ensures c.touched-sets.ensures in
    sym (rw (cost, sets)
    (worked-given s.set s.moves.now c.if-moves-gt-MOVE_LIMIT.false c.requires known _
    (lines-admitted _ _ c.composed-composition.ensures found)))
