-- Laws of a plan in an array: its first n moves are the sequence so far, and one element, x, stands in every place
-- behind them.
-- Assumes nothing.
use mathlib.Core.Path.{◌≡◌, sym, ap, ap₂, ◌∙◌}
use mathlib.Core.List.{List, [], ◌∷◌, ◌++◌}
use Prim.Native.Nat.{ℕ, suc, ◌-◌, ◌≤◌, ◌<◌}
use native.Mathlib.Omega.{arith}
use lib.ListN.{length, take, set, replicate, length-append, length-take}
use lib.Seq.{take_all, append_snoc, set_at}
use Rattle.theory_spec.specs.Lists.{padded}
use Rattle.theory_spec.proofs.ListLaws.{padded-length}
use Rattle.model_spec.specs.States.{State}
use Rattle.search_spec.specs.Searched.{no_move}
use Rattle.search_laws.specs.declared.Progress.{Progress}
use Rattle.search_laws.specs.How.Visits.{noted_moves, noted}

module _ {A : Type 0} (size : ℕ) (x : A) (plan : List A) (n : ℕ) (rest : plan ≡ padded size x (take n plan)) where
  -- the sequence so far has n moves
  pub plan-moves : n ≤ size → length (take n plan) ≡ n
  plan-moves h =
      let whole : length plan ≡ size = ap length rest
      ∙ padded-length size x (take n plan) (omega (arith, length-take n plan)) in
      omega (arith, length-take n plan)

  -- a move behind it
  pub plan_more : (v : A) → n < size → set plan n v ≡ padded size x (take n plan ++ (v ∷ []))
  plan_more v h =
      let q : List A = take n plan in
      let moves : length q ≡ n = plan-moves (omega arith) in
      let room : size - length q ≡ suc (size - length (q ++ (v ∷ []))) = omega (arith, length-append q (v ∷ [])) in
      ap (λ l. set l n v) (rest ∙ ap (λ k. q ++ replicate k x) room)
      ∙ set_at q x (replicate (size - length (q ++ (v ∷ []))) x) v n moves
      ∙ sym (append_snoc q v (replicate (size - length (q ++ (v ∷ []))) x))

-- noting its moves is noting the sequence, for a goal of at most sixteen bytes
pub noted-plan : (goal : List ℕ) (limit cost n : ℕ) (plan : List ℕ) (s : State) (p found : Progress)
    → length goal ≤ 16 → n ≤ 32 → plan ≡ padded 32 no_move (take n plan)
    → found ≡ noted_moves (take 16 goal) limit cost n plan s p → found ≡ noted goal limit cost (take n plan) s p
unfolding noted
noted-plan goal limit cost n plan s p found short room rest e =
    e ∙ ap (λ l. noted_moves l limit cost n plan s p) (take_all 16 goal short)
    ∙ ap₂ (λ k moves. noted_moves goal limit cost k moves s p) (sym (plan-moves 32 no_move plan n rest room)) rest
