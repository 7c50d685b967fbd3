-- `witnesses::smallest_witness` meets its contract. The invariant: no sequence of fewer than `more` rules is a witness.
use mathlib.Core.Path.{◌≡◌, sym, ap, ◌∙◌}
use mathlib.Core.Bool.{Bool, true, false}
use mathlib.Core.List.{[]}
use lib.Pointwise.{pointwise}
use Rattle.std.specs.Prelude.{Option, Some, None, nat_eq}
use mathlib.Core.Option as Math
use mathlib.Core.Option.{some, none}
use Prim.Native.Nat.{ℕ, ◌-◌, ◌≤◌}
use native.Mathlib.Omega.{arith}
use borrow.Author.Tests.{le-leb}
use Rattle.theory_spec.specs.Sequences.{Sequence, sequences}
use Rattle.model_spec.proofs.ChainLaws.{same_is}
use Rattle.model_spec.specs.Rules.{sequence_cost}
use Rattle.model_spec.specs.declared.RuleSet.{RuleSet}
use Rattle.macros_spec.specs.Composition.{Lines, lines_of}
use Rattle.macros_spec.specs.Redundancy.{covers}
use Rattle.macros_spec.specs.declared.Vectors.{Vectors}
use Rattle.tables_laws.specs.How.Witnesses.{serves}
use Rattle.tables_laws.specs.How.Searches.{find_behind, find_witness}
use Rattle.tables_spec.proofs.CountLaws.{count_levels}
use Rattle.tables_laws.proofs.WitnessLaws.{witness-searched, witness_unsearched, serves-last}
use Rattle.tables_laws.proofs.WitnessLaws.{empty-found, empty_next, lengths_next, lengths-found, lengths-end}
use Rattle.witnesses.proofs.smallest_witness.Goals as goal
use Rattle.witnesses.proofs.smallest_witness.Goals.{then-not-sequence-via-then-not-sequence}
use Rattle.witnesses.proofs.smallest_witness.Goals.{then-not-sequence-via-else-not-sequence+then-eq}

module _ (set : RuleSet) (v : Vectors) (cost : ℕ) (few : set.count ≤ 31) where
  -- what is found in the set is what is asked for
  searched : {b : Math.Option Lines} → lines_of v ≡ b
      → (r : Option ℕ) → r ≡ find_behind set.count 0 (serves set b cost) (sequences set.count 3)
      → r ≡ find_witness set 0 (lines_of v) cost (sequences set.count 3)
  searched {b} is r e =
      e
      ∙ ap (λ lines. find_behind set.count 0 (serves set lines cost) (sequences set.count 3)) (sym is)
      ∙ sym (witness-searched set 0 (lines_of v) cost (sequences set.count 3) few)

  -- no state admits the sequence: the empty one is a witness
  denied : v.admitted ≡ false → Some 0 ≡ find_witness set 0 (lines_of v) cost (sequences set.count 3)
  unfolding serves covers sequence_cost
  denied h =
      searched {b = none} (rw h) (Some 0)
      (empty-found set.count (serves set none cost) (rw (le-leb 0 cost (omega arith))))

  -- else the search is from the condition to the effect
  abbrev aim : Sequence → Bool
  aim = serves set (some (record { condition = v.condition; effect = v.effect })) cost

  admitted : v.admitted ≡ true → (r : Option ℕ) → r ≡ find_behind set.count 0 aim (sequences set.count 3)
      → r ≡ find_witness set 0 (lines_of v) cost (sequences set.count 3)
  admitted h = searched {b = some (record { condition = v.condition; effect = v.effect })} (rw h)

  -- the empty sequence serves exactly where the two are the same
  empty_serves : (r b : Bool) → r ≡ pointwise nat_eq v.condition v.effect → r ≡ b → aim [] ≡ b
  empty_serves r b e t =
      serves-last set v.condition cost v.effect ∙ sym (same_is v.condition v.effect) ∙ sym e ∙ t

pub returns-then-set-gt-MAX_RULES : goal.returns-then-set-gt-MAX_RULES
returns-then-set-gt-MAX_RULES c =
    let s = c.args in
    sym (witness_unsearched s.set 0 (lines_of s.sequence) s.cost (sequences s.set.count 3) c.if-set-gt-MAX_RULES.true)

pub returns-then-not-sequence : goal.returns-then-not-sequence
returns-then-not-sequence c =
    let s = c.args in
    let few = c.if-set-gt-MAX_RULES.false in
    elim c.then-not-sequence.branch [
      | then-not-sequence-via-then-not-sequence w ↦
          denied s.set s.sequence s.cost few w.if-not-sequence.true
      | then-not-sequence-via-else-not-sequence+then-eq w ↦
          admitted s.set s.sequence s.cost few w.if-not-sequence.false (Some 0)
          (empty-found s.set.count (aim s.set s.sequence s.cost few)
          (empty_serves s.set s.sequence s.cost few _ true w.eq.ensures w.if-eq.true))
    ]

pub loop-more-init : goal.loop-more-init
loop-more-init c =
    let s = c.args in
    let few = c.if-set-gt-MAX_RULES.false in
    empty_next s.set.count (aim s.set s.sequence s.cost few)
    (empty_serves s.set s.sequence s.cost few _ false c.eq.ensures c.if-eq.false)

pub with_more-found-requires : goal.with_more-found-requires
with_more-found-requires c =
    let levels = count_levels c.args.set.count (3 - c.loop-more.more) in
    (omega arith, omega arith, c.if-set-gt-MAX_RULES.false, omega (arith, levels))

pub returns-then-is_some : goal.returns-then-is_some
returns-then-is_some c =
    let few = c.if-set-gt-MAX_RULES.false in
    let s = c.args in
    admitted s.set s.sequence s.cost few c.if-not-sequence.false _
    (lengths-found s.set.count (aim s.set s.sequence s.cost few) c.loop-more.more (omega arith)
    (omega arith) c.loop-more.invariant _ c.with_more-found.ensures (sym c.is_some.ensures ∙ c.if-is_some.true))

pub loop-more-preserved : goal.loop-more-preserved
loop-more-preserved c =
    let few = c.if-set-gt-MAX_RULES.false in
    let s = c.args in
    lengths_next s.set.count (aim s.set s.sequence s.cost few) c.loop-more.more (omega arith)
    (omega arith) c.loop-more.invariant _ c.with_more-found.ensures (sym c.is_some.ensures ∙ c.if-is_some.false)

pub returns : goal.returns
returns c =
    let few = c.if-set-gt-MAX_RULES.false in
    let s = c.args in
    let e : c.loop-more.more ≡ 4 = omega arith in
    admitted s.set s.sequence s.cost few c.if-not-sequence.false None
    (lengths-end s.set.count (aim s.set s.sequence s.cost few) c.loop-more.more e c.loop-more.invariant)
