-- `validity::well_formed` meets its contract: the four tests, one after the other.
use Rattle.std.proofs.Common.{◌≡◌, Bool, true, false, ◌&&◌, refl, ◌∙◌}
use Rattle.theory_spec.specs.Lists.{within}
use Rattle.model_spec.specs.Validity.{sizes_valid, rules_valid, well_formed}
use Rattle.model_spec.specs.declared.RuleSet.{RuleSet}
use Rattle.model_spec.proofs.ChainLaws.{and_passed, and_failed}
use Rattle.validity.proofs.well_formed.Goals.{then-in_range, else-in_range, then-sizes_valid, else-sizes_valid}
use Rattle.validity.proofs.well_formed.Goals as goal

grouped : (a b c d : Bool) → (((a && b) && c) && d) ≡ (a && (b && (c && d)))
grouped true true c d = refl
grouped true false c d = refl
grouped false b c d = refl

module _ (set : RuleSet) where
  -- the first two tests, and the first three
  abbrev two : Bool
  two = within 1 16 set.positions && sizes_valid set.positions set.sizes

  abbrev three : Bool
  three = two && within 1 31 set.count

  all_four : (three && rules_valid set) ≡ well_formed set
  unfolding well_formed
  all_four =
      grouped (within 1 16 set.positions) (sizes_valid set.positions set.sizes) (within 1 31 set.count) (rules_valid set)

pub returns-then-in_range-2 : goal.returns-then-in_range-2
returns-then-in_range-2 c =
    let set = c.args.set in
    let first : c.if-in_range.value ≡ two set =
    elim c.if-in_range.branch [
      | then-in_range w ↦ and_passed w.value-is w.sizes_valid.ensures c.in_range.ensures w.if-in_range.true
      | else-in_range w ↦ and_failed _ w.value-is c.in_range.ensures w.if-in_range.false
    ] in
    let second : c.if-sizes_valid.value ≡ three set =
    elim c.if-sizes_valid.branch [
      | then-sizes_valid w ↦
          and_passed w.value-is w.in_range-then-sizes_valid.ensures first w.if-sizes_valid.true
      | else-sizes_valid w ↦ and_failed _ w.value-is first w.if-sizes_valid.false
    ] in
    and_passed refl c.rules_valid.ensures second c.if-in_range-2.true ∙ all_four set

pub returns-else-in_range-2 : goal.returns-else-in_range-2
returns-else-in_range-2 c =
    let set = c.args.set in
    let first : c.if-in_range.value ≡ two set =
    elim c.if-in_range.branch [
      | then-in_range w ↦ and_passed w.value-is w.sizes_valid.ensures c.in_range.ensures w.if-in_range.true
      | else-in_range w ↦ and_failed _ w.value-is c.in_range.ensures w.if-in_range.false
    ] in
    let second : c.if-sizes_valid.value ≡ three set =
    elim c.if-sizes_valid.branch [
      | then-sizes_valid w ↦
          and_passed w.value-is w.in_range-then-sizes_valid.ensures first w.if-sizes_valid.true
      | else-sizes_valid w ↦ and_failed _ w.value-is first w.if-sizes_valid.false
    ] in
    and_failed _ refl second c.if-in_range-2.false ∙ all_four set
