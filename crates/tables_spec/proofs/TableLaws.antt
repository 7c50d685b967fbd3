-- Laws of the pruning table: which sequences it has entries for, when it is accepted, what it marks, what the built
-- table holds, and that the marks of an accepted one are justified.
-- Assumes nothing.
use mathlib.Core.Path.{◌≡◌, refl, sym, ap, ap₂, ◌∙◌, subst}
use mathlib.Core.Logic.{◌↔◌, ◌⊎◌, inl, inr, ◌≢◌, ⊎_elim}
use mathlib.Core.Bool.{Bool, true, false, not, cond}
use mathlib.Core.List.{List, [], ◌∷◌}
use Prim.Native.Nat.{ℕ, zero, suc, ◌+◌, ◌*◌, ◌/◌, ◌%◌, ◌≤◌, ◌<◌}
use native.Mathlib.Nat.{zero-add, add-zero, mod-add-div}
use native.Mathlib.Omega.{arith}
use lib.Dec.{eqb}
use lib.ListN.{length, get_or, take}
use lib.Seq.{length-take-le, get_or-take}
use borrow.Author.Tests.{eq-eqb}
use Rattle.theory_spec.specs.Lists.{every, flat, numbers_from, same}
use Rattle.theory_spec.specs.Sequences.{Sequence, Numbered, sequences}
use Rattle.theory_spec.specs.Order.{Before}
use Rattle.theory_spec.specs.How.Indices.{index_of}
use Rattle.theory_spec.specs.How.Pruning.{Justified}
use Rattle.theory_spec.proofs.ListLaws.{and_split, and_join, same_test, not-both, every_at, in_get_d, in-numbers_from}
use Rattle.theory_spec.proofs.ListLaws.{length-numbers_from}
use Rattle.theory_spec.proofs.TestLaws.{below?, equal?, ltb_iff, eqb_iff, same_iff, not_iff, and_iff, unless_iff}
use Rattle.theory_spec.proofs.TestLaws.{every-below_iff, any-below_iff}
use Rattle.theory_spec.proofs.SequenceLaws.{of-sequences}
use Rattle.theory_spec.proofs.OrderLaws.{sequences-index, index-sequences}
use Rattle.theory_spec.proofs.IndexLaws.{index_at, index_of-place}
use Rattle.model_spec.specs.Rules.{step_of, rule_cost, StateOf, admitted, redundant, RedundantIn}
use Rattle.model_spec.specs.declared.RuleSet.{RuleSet}
use Rattle.model_spec.proofs.RedundancyLaws.{redundant_iff, redundant_trans, not-admitted-redundant}
use Rattle.tables_spec.specs.Table.{table_entries, sequence_at, kept, entry_at, entry_bytes, marked, first_index}
use Rattle.tables_spec.specs.Table.{built_entry, built_table, entry_justified, accepted, Marked, Prunable}
use Rattle.tables_spec.specs.Table.{MarkJustified, Accepted, LeastWitness}
use Rattle.tables_spec.proofs.CountLaws.{count-sequences, count_bound}

-- ── Tests ────────────────────────────────────────────────────────────────────────────────────────

same_rev_iff : (a b : List ℕ) → (same a b ≡ true) ↔ (b ≡ a)
same_rev_iff a b = (λ e. sym ((same_iff a b).0 e), λ e. (same_iff a b).1 (sym e))

-- ── Two bytes an entry ───────────────────────────────────────────────────────────────────────────

-- the table whose entries a function gives
abbrev entries_of : (ℕ → ℕ) → List ℕ → List ℕ
entries_of f l = flat (λ i. entry_bytes (f i)) l

entry_next : (low high : ℕ) (l : List ℕ) (i : ℕ) → entry_at (low ∷ high ∷ l) (suc i) ≡ entry_at l i
unfolding entry_at
entry_next low high l i =
    let e : 2 * suc i ≡ suc (suc (2 * i)) = omega arith in
    let e' : 2 * suc i + 1 ≡ suc (suc (2 * i + 1)) = omega arith in
    ap₂ (λ j k. get_or (low ∷ high ∷ l) j 0 + 256 * get_or (low ∷ high ∷ l) k 0) e e'

entry_of : (f : ℕ → ℕ) (k n i : ℕ) → i < n → entry_at (entries_of f (numbers_from k n)) i ≡ f (k + i)
unfolding entry_at
entry_of f k zero i h = absurd (omega arith)
entry_of f k (suc n) zero h = mod-add-div (f k) 256 ∙ ap f (sym (add-zero k))
entry_of f k (suc n) (suc i) h =
    let e : suc k + i ≡ k + suc i = omega arith in
    entry_next (f k % 256) (f k / 256) (entries_of f (numbers_from (suc k) n)) i ∙ entry_of f (suc k) n i (omega arith)
    ∙ ap f e

entries_size : (f : ℕ → ℕ) (l : List ℕ) → length (entries_of f l) ≡ 2 * length l
entries_size f [] = refl
entries_size f (x ∷ l) = omega (arith, entries_size f l)

-- ── The first index ──────────────────────────────────────────────────────────────────────────────

-- n is the index, from i on, of the first sequence that passes
abbrev FirstPass : (Sequence → Bool) → ℕ → List Sequence → ℕ → Type 0
FirstPass test i l n =
    (k : ℕ) × (n ≡ i + k) × (k < length l) × ((test (get_or l k []) ≡ true)
    × ((j : ℕ) → j < k → test (get_or l j []) ≡ false))

-- no sequence passes
abbrev NonePasses : (Sequence → Bool) → List Sequence → Type 0
NonePasses test l = (k : ℕ) → k < length l → test (get_or l k []) ≡ false

first-index : (test : Sequence → Bool) (i : ℕ) (l : List Sequence) → ((first_index test i l ≡ kept) × NonePasses test l)
    ⊎ FirstPass test i l (first_index test i l)
first-index test i [] = inl (refl, λ k h. absurd (omega arith))
first-index test i (a ∷ later) = go (test a) refl (first-index test (suc i) later)
  where
    Answer : ℕ → Type 0
    Answer n = ((n ≡ kept) × NonePasses test (a ∷ later)) ⊎ FirstPass test i (a ∷ later) n

    more : test a ≡ false → (n : ℕ) → ((j : ℕ) → j < n → test (get_or later j []) ≡ false) → (j : ℕ) → j < suc n
        → test (get_or (a ∷ later) j []) ≡ false
    more e n f zero h = e
    more e n f (suc j) h = f j (omega arith)

    go : (b : Bool) → test a ≡ b → ((first_index test (suc i) later ≡ kept) × NonePasses test later)
        ⊎ FirstPass test (suc i) later (first_index test (suc i) later)
        → Answer (cond b i (first_index test (suc i) later))
    go true e w = inr (0, sym (add-zero i), omega arith, (e, λ j h. absurd (omega arith)))
    go false e (inl w) = inl (w.0, more e (length later) w.1)
    go false e (inr w) =
        let p : first_index test (suc i) later ≡ i + suc w.0 = omega (arith, w.1) in
        inr (suc w.0, p, omega (arith, w.2), (w.3.0, more e w.0 w.3.1))

before_not_empty : (a b : Sequence) → Before a b → 1 ≤ length b
before_not_empty a (y ∷ b) h = omega arith
before_not_empty a [] (inl h) = absurd (omega arith)
before_not_empty [] [] (inr h) = absurd h.1
before_not_empty (x ∷ a) [] (inr h) = absurd h.1

-- ── The sequences of the indices ─────────────────────────────────────────────────────────────────

module _ (set : RuleSet) (reach : ℕ) where
  entries-length : length (sequences set.count reach) ≡ table_entries set reach
  unfolding table_entries
  entries-length = count-sequences set.count reach

  pub entries_bound : set.count ≤ 31 → reach ≤ 3 → table_entries set reach ≤ 30784
  unfolding table_entries
  entries_bound h k = count_bound set.count reach h k

  -- the sequence of an index has at most `reach` rules, of the set
  pub index_sequence : (i : ℕ) → i < table_entries set reach → (length (sequence_at set reach i) ≤ reach)
      × Numbered set.count (sequence_at set reach i)
  unfolding sequence_at
  index_sequence i h =
      of-sequences set.count reach (in_get_d (sequences set.count reach) i [] (omega (arith, entries-length)))

  -- each such sequence has an index
  pub sequence-index : (q : Sequence) → length q ≤ reach → Numbered set.count q → (i : ℕ)
      × (i < table_entries set reach) × (sequence_at set reach i ≡ q)
  unfolding sequence_at
  sequence-index q h k =
      let w = index_at set.count reach q h k in
      (index_of set.count q, subst (λ n. index_of set.count q < n) entries-length w.0, w.1)

  -- a smaller index has the earlier sequence
  pub index-before_iff : (i j : ℕ) → i < table_entries set reach → j < table_entries set reach → (i < j)
      ↔ Before (sequence_at set reach i) (sequence_at set reach j)
  unfolding sequence_at
  index-before_iff i j hi hj = (
    λ h. sequences-index set.count reach i j h (omega (arith, entries-length)),
    index-sequences set.count reach i j (omega (arith, entries-length)) (omega (arith, entries-length)),
  )

  -- ── Acceptance ─────────────────────────────────────────────────────────────────────────────────

  -- the entry of an index is 65535, or a justified mark
  pub entry-justified_iff : (table : List ℕ) (i : ℕ) → (entry_justified set reach table i ≡ true)
      ↔ (entry_at table i ≢ kept → MarkJustified set reach table i)
  unfolding entry_justified
  entry-justified_iff table i =
      unless_iff _ _ (eqb_iff (entry_at table i) kept)
      (and_iff _ _ (ltb_iff (entry_at table i) i)
      (redundant_iff set (sequence_at set reach i) (sequence_at set reach (entry_at table i))))

  -- a table is accepted exactly if each of its marks is justified
  pub accepted_iff : (table : List ℕ) → (accepted set reach table ≡ true) ↔ Accepted set reach table
  unfolding accepted
  accepted_iff table =
      and_iff _ _ (eqb_iff (entry_at table 0) kept)
      (every-below_iff _ _ (entry-justified_iff table) (table_entries set reach))

  -- each entry is justified exactly then: entry 0 has no smaller index to name
  pub accepted_entries : (table : List ℕ) → accepted set reach table
      ≡ every (entry_justified set reach table) (numbers_from 0 (table_entries set reach))
  unfolding accepted
  accepted_entries table =
      same_test _ _ (λ e. (and_split (eqb (entry_at table 0) kept) _ e).1) (λ e. and_join (first e) e)
    where
      first : every (entry_justified set reach table) (numbers_from 0 (table_entries set reach)) ≡ true
          → eqb (entry_at table 0) kept ≡ true
      first e =
          let some = (sequence-index [] (omega arith) tt).1 in
          let j = every_at (entry_justified set reach table) e
          (in-numbers_from 0 (table_entries set reach) 0 (omega arith) (omega arith)) in
          ⊎_elim (eq-eqb (entry_at table 0) kept) (λ m. absurd (omega (arith, ((entry-justified_iff table 0).0 j m).0)))
          (equal? (entry_at table 0) kept)

  -- ── Marks ──────────────────────────────────────────────────────────────────────────────────────

  -- the test of a mark passes exactly if the sequence is marked
  pub marked_iff : (table : List ℕ) (q : Sequence) → (marked set reach table q ≡ true) ↔ Marked set reach table q
  unfolding marked
  marked_iff table q =
      any-below_iff _ _ (λ i. and_iff _ _ (same_rev_iff q (sequence_at set reach i))
      (not_iff _ (eqb_iff (entry_at table i) kept))) (table_entries set reach)

  -- a sequence of at most `reach` rules of the set is marked exactly if the entry at its index is a mark
  pub mark-index : (table : List ℕ) (q : Sequence) → length q ≤ reach → Numbered set.count q
      → marked set reach table q ≡ not (eqb (entry_at table (index_of set.count q)) kept)
  unfolding sequence_at
  mark-index table q h k = same_test (marked set reach table q) (not (eqb (entry_at table place) kept)) up down
    where
      place : ℕ
      place = index_of set.count q

      up : marked set reach table q ≡ true → not (eqb (entry_at table place) kept) ≡ true
      up e =
          let w = (marked_iff table q).0 e in
          let i : w.0 ≡ place = sym (index_of-place set.count reach w.0 (omega (arith, entries-length, w.1)))
          ∙ ap (index_of set.count) w.2.0 in
          (not_iff _ (eqb_iff (entry_at table place) kept)).1 (subst (λ j. entry_at table j ≢ kept) i w.2.1)

      down : not (eqb (entry_at table place) kept) ≡ true → marked set reach table q ≡ true
      down e =
          let w = index_at set.count reach q h k in
          (marked_iff table q).1 (
            place,
            omega (arith, entries-length, w.0),
            (w.1, (not_iff _ (eqb_iff (entry_at table place) kept)).0 e),
          )

  -- a marked sequence has at most `reach` rules, of the set
  pub marked-short : (table : List ℕ) (q : Sequence) → marked set reach table q ≡ true → (length q ≤ reach)
      × Numbered set.count q
  marked-short table q e =
      let w = (marked_iff table q).0 e in subst (λ b. (length b ≤ reach) × Numbered set.count b) w.2.0
      (index_sequence w.0 w.1)

  -- the marks of an accepted table are justified
  pub accepted-justified : (table : List ℕ) → accepted set reach table ≡ true
      → Justified (step_of set) (rule_cost set) set.count (StateOf set) (marked set reach table)
  accepted-justified table e b m =
      let w = (marked_iff table b).0 m in
      let j = ((accepted_iff table).0 e).1 w.0 w.1 w.2.1 in
      let h : entry_at table w.0 < table_entries set reach = omega (arith, w.1, j.0) in (
        sequence_at set reach (entry_at table w.0),
        subst (Before (sequence_at set reach (entry_at table w.0))) w.2.0
            ((index-before_iff (entry_at table w.0) w.0 h w.1).0 j.0),
        (index_sequence (entry_at table w.0) h).1,
        subst (λ q. RedundantIn set q (sequence_at set reach (entry_at table w.0))) w.2.0 j.1,
      )

  -- ── The built table ────────────────────────────────────────────────────────────────────────────

  -- an entry is 65535 where no smaller index has a witness, and the smallest such index elsewhere
  built_cases : (i : ℕ) → i < table_entries set reach
      → ((built_entry set reach i ≡ kept) × ((k : ℕ) → k < i
      → redundant set (sequence_at set reach i) (sequence_at set reach k) ≡ false))
      ⊎ LeastWitness set reach i (built_entry set reach i)
  unfolding built_entry sequence_at
  built_cases i h = ⊎_elim (λ w. inl (w.0, none w)) (λ w. inr (least w)) (first-index test 0 (take i all))
    where
      all : List Sequence
      all = sequences set.count reach

      test : Sequence → Bool
      test = redundant set (get_or all i [])

      size : length (take i all) ≡ i
      size = length-take-le i all (omega (arith, entries-length))

      at : (k : ℕ) → k < i → {b : Bool} → test (get_or (take i all) k []) ≡ b → test (get_or all k []) ≡ b
      at k l e = ap test (sym (get_or-take i all k [] l)) ∙ e

      none : (first_index test 0 (take i all) ≡ kept) × NonePasses test (take i all) → (k : ℕ) → k < i
          → test (get_or all k []) ≡ false
      none w k l = at k l (w.1 k (omega (arith, size)))

      least : FirstPass test 0 (take i all) (first_index test 0 (take i all))
          → LeastWitness set reach i (first_index test 0 (take i all))
      least w =
          let e : first_index test 0 (take i all) ≡ w.0 = omega (arith, w.1) in
          let l : w.0 < i = omega (arith, w.2, size) in
          let first : (j : ℕ) → RedundantIn set (get_or all i []) (get_or all j []) → w.0 ≤ j =
          λ j r. ⊎_elim (λ b. not-both ((redundant_iff set (get_or all i []) (get_or all j [])).1 r)
          (at j (omega arith) (w.3.1 j b))) (λ b. b) (below? j w.0) in
          subst (LeastWitness set reach i) (sym e) (
            l,
            ((redundant_iff set (get_or all i []) (get_or all w.0 [])).0 (at w.0 l w.3.0), first),
          )

  -- each entry of the built table
  pub built-entry : (i : ℕ) → i < table_entries set reach → entry_at (built_table set reach) i ≡ built_entry set reach i
  unfolding built_table
  built-entry i h =
      entry_of (built_entry set reach) 0 (table_entries set reach) i h ∙ ap (built_entry set reach) (zero-add i)

  pub built-length : length (built_table set reach) ≡ 2 * table_entries set reach
  unfolding built_table
  built-length =
      entries_size (built_entry set reach) (numbers_from 0 (table_entries set reach))
      ∙ ap (λ n. 2 * n) (length-numbers_from 0 (table_entries set reach))

  -- a mark of the built table is the smallest index with whose sequence its own is redundant
  pub built-least : (i : ℕ) → i < table_entries set reach → built_entry set reach i ≢ kept
      → LeastWitness set reach i (built_entry set reach i)
  built-least i h m = ⊎_elim (λ w. absurd (m w.0)) (λ w. w) (built_cases i h)

  -- and is not marked itself
  pub witness-kept : (i : ℕ) → i < table_entries set reach → built_entry set reach i ≢ kept
      → built_entry set reach (built_entry set reach i) ≡ kept
  witness-kept i h m = ⊎_elim (λ w. w.0) (λ w. absurd (smaller w)) (built_cases first (omega (arith, least.0)))
    where
      first : ℕ
      first = built_entry set reach i

      least : LeastWitness set reach i first
      least = built-least i h m

      -- its own witness would be a smaller one of i
      smaller : LeastWitness set reach first (built_entry set reach first) → ⊥
      smaller w =
          let r = redundant_trans set (sequence_at set reach i) (sequence_at set reach first)
          (sequence_at set reach (built_entry set reach first)) least.1.0 w.1.0 in
          omega (arith, w.0, least.1.1 (built_entry set reach first) r)

  module _ (rules : set.count ≤ 31) (near : reach ≤ 3) where
    -- the built table marks exactly the indices of prunable sequences
    pub built-mark_iff : (i : ℕ) → i < table_entries set reach → (built_entry set reach i ≢ kept)
        ↔ Prunable set reach (sequence_at set reach i)
    built-mark_iff i h = (
      λ m. prunable (built-least i h m),
      λ p. ⊎_elim (λ w. absurd (found p w.1))
          (λ w e. omega (arith, w.0, e, entries_bound rules near)) (built_cases i h),
    )
      where
        prunable : LeastWitness set reach i (built_entry set reach i) → Prunable set reach (sequence_at set reach i)
        prunable w =
            let k : built_entry set reach i < table_entries set reach = omega (arith, w.0) in
            let b = (index-before_iff (built_entry set reach i) i k h).0 w.0 in
            let s = index_sequence (built_entry set reach i) k in
            record {
              rules = (index_sequence i h).1;
              not_empty = before_not_empty (sequence_at set reach (built_entry set reach i)) (sequence_at set reach i) b;
              short = omega (arith, (index_sequence i h).0);
              witness = sequence_at set reach (built_entry set reach i);
              earlier = b;
              witness_short = s.0;
              witness_rules = s.1;
              redundant_with = w.1.0;
            }

        -- a witness has a smaller index
        found : Prunable set reach (sequence_at set reach i)
            → ((k : ℕ) → k < i → redundant set (sequence_at set reach i) (sequence_at set reach k) ≡ false) → ⊥
        found p none =
            let w = sequence-index p.witness p.witness_short p.witness_rules in
            let b = subst (λ a. Before a (sequence_at set reach i)) (sym w.2) p.earlier in
            let r = subst (RedundantIn set (sequence_at set reach i)) (sym w.2) p.redundant_with in
            not-both ((redundant_iff set _ _).1 r) (none w.0 ((index-before_iff w.0 i w.1 h).1 b))

    -- the built table marks exactly the prunable sequences, of at most 31 rules and with a reach of at most 3
    pub built-marks_iff : (q : Sequence) → (marked set reach (built_table set reach) q ≡ true) ↔ Prunable set reach q
    built-marks_iff q = (down, up)
      where
        down : marked set reach (built_table set reach) q ≡ true → Prunable set reach q
        down e =
            let w = (marked_iff (built_table set reach) q).0 e in
            subst (Prunable set reach) w.2.0 ((built-mark_iff w.0 w.1).0
            (λ k. w.2.1 (built-entry w.0 w.1 ∙ k)))

        up : Prunable set reach q → marked set reach (built_table set reach) q ≡ true
        up p =
            let w = sequence-index q p.short p.rules in
            let m = (built-mark_iff w.0 w.1).1 (subst (Prunable set reach) (sym w.2) p) in
            (marked_iff (built_table set reach) q).1 (w.0, w.1, (w.2, λ k. m (sym (built-entry w.0 w.1) ∙ k)))

  -- the built table is accepted
  pub built-accepted : accepted set reach (built_table set reach) ≡ true
  built-accepted =
      (accepted_iff (built_table set reach)).1 (
        built-entry 0 some
            ∙ ⊎_elim (λ w. w.0) (λ w. absurd (omega (arith, w.0))) (built_cases 0 some),
        each,
      )
    where
      some : 0 < table_entries set reach
      some = omega (arith, (sequence-index [] (omega arith) tt).1)

      each : (i : ℕ) → i < table_entries set reach → entry_at (built_table set reach) i ≢ kept
          → MarkJustified set reach (built_table set reach) i
      each i h m =
          let e = built-entry i h in
          let w = built-least i h (λ k. m (e ∙ k)) in
          subst (λ n. (n < i) × RedundantIn set (sequence_at set reach i) (sequence_at set reach n)) (sym e)
          (w.0, w.1.0)

  -- a sequence of 1 to `reach` rules that no state admits is prunable, by the empty one
  pub not-admitted-prunable : (q : Sequence) → Numbered set.count q → 1 ≤ length q → length q ≤ reach
      → admitted set q ≡ false → Prunable set reach q
  not-admitted-prunable q n h k e =
      record {
        rules = n;
        not_empty = h;
        short = k;
        witness = [];
        earlier = inl h;
        witness_short = omega arith;
        witness_rules = tt;
        redundant_with = not-admitted-redundant set q e;
      }
