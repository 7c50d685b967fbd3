-- `explanation_bytes::explanation_bytes` meets its contract: nineteen bytes, written one after the other.
use mathlib.Core.Path.{◌≡◌, refl, ◌∙◌}
use mathlib.Core.List.{List, [], ◌∷◌, ◌++◌}
use Prim.Native.Nat.{ℕ, ◌<◌, ◌/◌, ◌%◌}
use native.Mathlib.Omega.{arith}
use lib.ListN.{length, get_or}
use borrow.Author.Rules.{rules}
use Rattle.std.specs.Int.{to_le_bytes, w16}
use Rattle.tables_spec.specs.Table.{entry_bytes}
use Rattle.explain_spec.specs.declared.Explanation.{Explanation}
use Rattle.planner_spec.specs.TextExplain.{explanation_bytes, number_bytes}
use Rattle.explanation_bytes.proofs.explanation_bytes.Goals as goal

-- three places, one by one
three : (w : List ℕ) → length w ≡ 3 → get_or w 0 0 ∷ get_or w 1 0 ∷ get_or w 2 0 ∷ [] ≡ w
three [] e = absurd (omega (arith, e))
three (a ∷ []) e = absurd (omega (arith, e))
three (a ∷ b ∷ []) e = absurd (omega (arith, e))
three (a ∷ b ∷ c ∷ []) e = refl
three (a ∷ b ∷ c ∷ d ∷ w) e = absurd (omega (arith, e))

-- a cost's two bytes
two_bytes : (n : ℕ) → n < 65536 → to_le_bytes w16 n ≡ entry_bytes n
two_bytes n h =
    let high : n / 256 % 256 ≡ n / 256 = omega arith in
    cc

-- the bytes, by those of both costs, of the segment's end and of the witness
abbrev laid : Explanation → (cost plan_cost end witness : List ℕ) → List ℕ
laid answer cost plan_cost end witness =
    (answer.reason ∷ answer.place ∷ [])
    ++ (cost
    ++ (plan_cost
    ++ ((get_or end 0 0 ∷ get_or end 1 0 ∷ get_or end 2 0 ∷ get_or end 3 0 ∷ get_or end 4 0 ∷ get_or end 5 0
    ∷ get_or end 6 0 ∷ get_or end 7 0 ∷ [])
    ++ ((answer.segment_length ∷ answer.witness_length ∷ []) ++ witness))))

module _ (answer : Explanation) (cost plan_cost end : List ℕ) (size : length answer.witness ≡ 3)
    (c : cost ≡ entry_bytes answer.cost) (p : plan_cost ≡ entry_bytes answer.plan_cost)
    (e : end ≡ number_bytes 7 answer.segment_end) where
  whole : laid answer (get_or cost 0 0 ∷ get_or cost 1 0 ∷ []) (get_or plan_cost 0 0 ∷ get_or plan_cost 1 0 ∷ []) end
      (get_or answer.witness 0 0 ∷ get_or answer.witness 1 0 ∷ get_or answer.witness 2 0 ∷ [])
      ≡ explanation_bytes answer
  unfolding explanation_bytes
  whole = rw (c, p, e, three answer.witness size)

pub returns : goal.returns
returns c =
    let a = c.args.answer in
    whole a c.to_le_bytes-cost.result c.to_le_bytes-plan_cost.result c.eight_bytes-end.result (omega arith)
    (c.to_le_bytes-cost.ensures ∙ two_bytes a.cost (search rules))
    (c.to_le_bytes-plan_cost.ensures ∙ two_bytes a.plan_cost (search rules))
    c.eight_bytes-end.ensures
