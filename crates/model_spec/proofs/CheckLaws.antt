-- What a well-formed set tells of its number of rules: at most 31, so the test for duplicates looks at all of them.
-- Assumes nothing.
use Prim.Native.Nat.{◌≤◌}
use mathlib.Core.Path.{◌≡◌}
use mathlib.Core.Bool.{true, ◌&&◌}
use Rattle.theory_spec.specs.Lists.{within}
use Rattle.theory_spec.proofs.ListLaws.{and_split}
use Rattle.theory_spec.proofs.TestLaws.{within_iff}
use Rattle.model_spec.specs.Validity.{sizes_valid, rules_valid, well_formed}
use Rattle.model_spec.specs.declared.RuleSet.{RuleSet}

-- a set that is valid but for duplicates has at most 31 rules
pub formed_31 : (set : RuleSet) → well_formed set ≡ true → set.count ≤ 31
unfolding well_formed
formed_31 set t =
    let a = (and_split (within 1 16 set.positions)
    (sizes_valid set.positions set.sizes && (within 1 31 set.count && rules_valid set)) t).1 in
    let b = (and_split (sizes_valid set.positions set.sizes) (within 1 31 set.count && rules_valid set) a).1 in
    ((within_iff 1 31 set.count).0 (and_split (within 1 31 set.count) (rules_valid set) b).0).1
