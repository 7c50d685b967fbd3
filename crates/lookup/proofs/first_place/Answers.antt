-- `lookup::first_place` meets its contract: the last rules are none, the newest move of the plan, or the newest two.
use mathlib.Core.Path.{◌≡◌, sym, ap, ◌∙◌}
use mathlib.Core.List.{List}
use Prim.Native.Nat.{ℕ, ◌-◌, ◌*◌, ◌+◌, min}
use native.Mathlib.Omega.{arith}
use lib.ListN.{length, take}
use Rattle.theory_spec.specs.How.Indices.{index_of}
use Rattle.theory_spec.specs.How.Recursion.{last}
use Rattle.search_laws.proofs.LookupLaws.{last_none, last_empty, last_one, last_two, take_within}
use Rattle.lookup.proofs.first_place.Goals as goal

-- the moves of the plan up to the counted ones are those up to the depth
counted : (depth d : ℕ) (plan : List ℕ) → length plan ≡ 32 → d ≡ min depth 32 → take d plan ≡ take depth plan
counted depth d plan long e = ap (λ n. take n plan) (e ∙ ap (min depth) (sym long)) ∙ take_within depth plan

pub returns-then-reach-le1 : goal.returns-then-reach-le1
returns-then-reach-le1 c =
    let m = c.args.count in
    let first : 1 ≡ 0 * m + 1 = omega arith in
    first ∙ ap (λ i. i * m + 1)
    (sym (last_none m (min (c.args.reach - 1) 2) (take c.args.depth c.args.plan.now)
    (omega (arith, c.if-reach-le1.true))))

pub returns-then-depth-eq0 : goal.returns-then-depth-eq0
returns-then-depth-eq0 c =
    let m = c.args.count in
    let first : 1 ≡ 0 * m + 1 = omega arith in
    first ∙ ap (λ i. i * m + 1)
    (sym (last_empty m (min (c.args.reach - 1) 2) c.args.depth c.args.plan.now c.if-depth-eq0.true))

pub returns-then-reach-eq2 : goal.returns-then-reach-eq2
returns-then-reach-eq2 c =
    let m = c.args.count in
    let n = min (c.args.reach - 1) 2 in
    let d = c.min-end.result in
    let plan = c.args.plan.now in
    let alone = last_none m (n - 1) (take (d - 1) plan) (omega (arith, c.if-reach-eq2.true)) in
    let one = last_one m n d plan (omega (arith, c.if-reach-eq2.true)) (omega arith) (omega arith) alone in
    let e = counted c.args.depth d plan (omega arith) c.min-end.ensures in
    ap (λ j. j * m + 1) (one ∙ ap (λ q. index_of m (last n q)) e)

pub returns-then-depth-eq1 : goal.returns-then-depth-eq1
returns-then-depth-eq1 c =
    let m = c.args.count in
    let n = min (c.args.reach - 1) 2 in
    let d = c.min-end.result in
    let plan = c.args.plan.now in
    let alone = last_empty m (n - 1) (d - 1) plan (omega (arith, c.min-end.ensures, c.if-depth-eq1.true)) in
    let one = last_one m n d plan (omega (arith, c.if-reach-le1.false)) (omega arith) (omega arith) alone in
    let e = counted c.args.depth d plan (omega arith) c.min-end.ensures in
    ap (λ j. j * m + 1) (one ∙ ap (λ q. index_of m (last n q)) e)

pub returns : goal.returns
returns c =
    let m = c.args.count in
    let n = min (c.args.reach - 1) 2 in
    let d = c.min-end.result in
    let plan = c.args.plan.now in
    let both : n ≡ 2 = omega (arith, c.if-reach-le1.false, c.if-reach-eq2.false) in
    let two = last_two m n d plan both (omega arith) (omega arith) in
    let e = counted c.args.depth d plan (omega arith) c.min-end.ensures in
    ap (λ j. j * m + 1) (two ∙ ap (λ q. index_of m (last n q)) e)
