-- `validity::is_valid` meets its contract. A well-formed set has at most 31 rules; the test passes exactly if the set
-- is valid.
use mathlib.Core.Path.{◌≡◌, ap, subst, sym, ◌∙◌}
use mathlib.Core.Logic.{◌↔◌}
use mathlib.Core.Bool.{Bool, true, false, not}
use Prim.Native.Nat.{min}
use native.Mathlib.Omega.{arith}
use Rattle.model_spec.specs.Validity.{has_duplicates, well_formed, valid, Valid}
use Rattle.model_spec.specs.declared.RuleSet.{RuleSet}
use Rattle.model_spec.proofs.CheckLaws.{formed_31}
use Rattle.model_spec.proofs.ValidityLaws.{valid_iff}
use Rattle.validity.proofs.is_valid.Goals as goal

-- the answer by its two tests, and what it says of the set
module _ (set : RuleSet) where
  not-formed : well_formed set ≡ false → false ≡ valid set
  unfolding valid
  not-formed t = rw t

  formed : (found : Bool) → well_formed set ≡ true → found ≡ has_duplicates set.rules (min set.count 31)
      → not found ≡ valid set
  unfolding valid
  formed found t e =
      let few = formed_31 set t in
      let count : min set.count 31 ≡ set.count = omega arith in
      rw (t, ← count) (ap not e)

  answers : (r : Bool) → r ≡ valid set → (r ≡ valid set) × ((r ≡ true) ↔ Valid set)
  answers r e = (e, subst (λ q. (q ≡ true) ↔ Valid set) (sym e) (valid_iff set))

pub returns-then-well_formed : goal.returns-then-well_formed
returns-then-well_formed c =
    let set = c.args.set in
    answers set _ (formed set _ (sym c.well_formed-2.ensures ∙ c.if-well_formed.true) c.has_duplicates.ensures)

pub returns-else-well_formed : goal.returns-else-well_formed
returns-else-well_formed c =
    let set = c.args.set in
    answers set _ (c.if-well_formed.false ∙ not-formed set (sym c.well_formed-2.ensures ∙ c.if-well_formed.false))
