-- Tables of a smaller reach begin as those of reach 3 do: the sequence of an index, its built entry and the test of its
-- entry are the same.
-- Assumes nothing.
use mathlib.Core.Path.{◌≡◌, refl, sym, ap, ap₂, ◌∙◌}
use mathlib.Core.Logic.{◌⊎◌, inl, inr}
use mathlib.Core.Bool.{Bool, true, false, ◌&&◌, ◌||◌}
use mathlib.Core.List.{List, [], ◌++◌, append-nil, append_assoc}
use Prim.Native.Nat.{ℕ, zero, suc, ◌≤◌, ◌<◌}
use native.Mathlib.Omega.{arith}
use lib.Dec.{ltb, eqb}
use lib.ListN.{length, get_or, take, length-append, get_or-append}
use lib.Seq.{take-append-le}
use borrow.Author.Tests.{ltb-true}
use Rattle.theory_spec.specs.Sequences.{Sequence, level, sequences}
use Rattle.theory_spec.proofs.TestLaws.{below?}
use Rattle.model_spec.specs.Rules.{redundant}
use Rattle.model_spec.specs.declared.RuleSet.{RuleSet}
use Rattle.tables_spec.specs.Table.{table_entries, sequence_at, kept, entry_at, first_index, built_entry}
use Rattle.tables_spec.specs.Table.{entry_justified}
use Rattle.tables_spec.proofs.CountLaws.{count-sequences}

-- the sequences of at most r rules come first among those of at most n
sequences_begin : (m r n : ℕ) → r ≤ n → (rest : List Sequence) × (sequences m n ≡ sequences m r ++ rest)
sequences_begin m r zero h =
    let e : r ≡ 0 = omega arith in ([], ap (sequences m) (sym e) ∙ sym (append-nil (sequences m r)))
sequences_begin m r (suc n) h = go (below? n r) (sequences_begin m r n)
  where
    go : (n < r) ⊎ (r ≤ n) → (r ≤ n → (rest : List Sequence) × (sequences m n ≡ sequences m r ++ rest))
        → (rest : List Sequence) × (sequences m (suc n) ≡ sequences m r ++ rest)
    go (inl l) shorter = let e : suc n ≡ r = omega arith in ([], ap (sequences m) e ∙ sym (append-nil (sequences m r)))
    go (inr l) shorter =
        let w = shorter l in (
          w.0 ++ level m (suc n),
          ap (λ s. s ++ level m (suc n)) w.1
              ∙ append_assoc (sequences m r) w.0 (level m (suc n)),
        )

module _ (set : RuleSet) (reach : ℕ) (near : reach ≤ 3) where
  pub near_entries : table_entries set reach ≤ table_entries set 3
  unfolding table_entries
  near_entries =
      let w = sequences_begin set.count reach 3 near in
      omega (
        arith,
        ap length w.1,
        length-append (sequences set.count reach) w.0,
        count-sequences set.count reach,
        count-sequences set.count 3,
      )

  near_sequence : (i : ℕ) → i < table_entries set reach → sequence_at set 3 i ≡ sequence_at set reach i
  unfolding table_entries sequence_at
  near_sequence i h =
      let w = sequences_begin set.count reach 3 near in
      let l : i < length (sequences set.count reach) = omega (arith, count-sequences set.count reach) in
      ap (λ s. get_or s i []) w.1 ∙ get_or-append (sequences set.count reach) w.0 [] i l

  near-earlier : (i : ℕ) → i < table_entries set reach
      → take i (sequences set.count 3) ≡ take i (sequences set.count reach)
  unfolding table_entries
  near-earlier i h =
      let w = sequences_begin set.count reach 3 near in
      ap (take i) w.1 ∙ take-append-le i (sequences set.count reach) w.0
      (omega (arith, count-sequences set.count reach))

  pub near-built : (i : ℕ) → i < table_entries set reach → built_entry set 3 i ≡ built_entry set reach i
  unfolding built_entry
  near-built i h = ap₂ (λ b s. first_index (redundant set b) 0 s) (near_sequence i h) (near-earlier i h)

  pub near-justified : (table : List ℕ) (i : ℕ) → i < table_entries set reach
      → entry_justified set 3 table i ≡ entry_justified set reach table i
  unfolding entry_justified
  near-justified table i h = ap (λ b. eqb (entry_at table i) kept || b) (go (ltb (entry_at table i) i) refl)
    where
      go : (b : Bool) → ltb (entry_at table i) i ≡ b
          → (b && redundant set (sequence_at set 3 i) (sequence_at set 3 (entry_at table i)))
          ≡ (b && redundant set (sequence_at set reach i) (sequence_at set reach (entry_at table i)))
      go true e =
          let l = ltb-true (entry_at table i) i e in
          ap₂ (redundant set) (near_sequence i h) (near_sequence (entry_at table i) (omega arith))
      go false e = refl
