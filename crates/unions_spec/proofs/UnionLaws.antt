-- What the unions tell, and that the marks one after the other make them.
-- Assumes nothing.
use mathlib.Core.Path.{◌≡◌, refl, sym, ap, ap₂, ◌∙◌, subst}
use mathlib.Core.Logic.{◌↔◌, ◌≢◌, ⊎_elim}
use mathlib.Core.Bool.{Bool, true, false, not, cond, ◌&&◌, ◌||◌, or-false}
use mathlib.Core.Option.{Option, some, none}
use mathlib.Core.List.{List, [], ◌∷◌, ◌++◌, map}
use Prim.Native.Nat.{ℕ, zero, suc, ◌+◌, ◌<◌}
use native.Mathlib.Nat.{zero-add, add-zero}
use native.Mathlib.Numerals.{add-one}
use native.Mathlib.Omega.{arith}
use lib.Dec.{eqb}
use lib.Bits.{bit_or, or_lt, or_zero_r}
use borrow.Author.Tests.{eq-eqb, ne_eqb, lt-ltb}
use Rattle.theory_spec.specs.Lists.{any, keep_if, keep, numbers_from}
use Rattle.theory_spec.specs.Sets.{has, set_of}
use Rattle.theory_spec.specs.Sequences.{Sequence, Numbered}
use Rattle.theory_spec.proofs.ListLaws.{any_append}
use Rattle.theory_spec.proofs.TestLaws.{equal?, eqb_iff, not_iff, and_iff, any-below_iff}
use Rattle.theory_spec.proofs.SetLaws.{has_none, has_or, has-set_of, set_of-below, sets_equal}
use Rattle.model_spec.specs.Validity.{WellFormed}
use Rattle.model_spec.specs.declared.RuleSet.{RuleSet}
use Rattle.macros_spec.specs.Composition.{Lines}
use Rattle.macros_spec.specs.Touched.{untouched, read_at, written_at}
use Rattle.macros_spec.specs.How.Touching.{touched_within}
use Rattle.macros_spec.specs.Answers.{touched_in}
use Rattle.macros_spec.specs.declared.Touched.{Touched}
use Rattle.macros_spec.proofs.SequenceTouchLaws.{reads_iff, writes_iff, touched_bound}
use Rattle.tables_spec.specs.Table.{table_entries, sequence_at, kept, entry_at, built_table, Marked}
use Rattle.tables_spec.specs.Answers.{build_outcome, built_buffer, check_outcome}
use Rattle.tables_spec.proofs.TableLaws.{index_sequence}
use Rattle.tables_spec.proofs.AnswerLaws.{check_meaning, built-whole, build_ready_iff}
use Rattle.unions_spec.specs.Unions.{marked_sequences, union_of, table_touched, answer_with, build_answer, check_answer}
use Rattle.unions_spec.specs.Unions.{refused_table, UnionMeaning}
use Rattle.unions_spec.specs.How.United.{united, united_to}
use Rattle.unions_spec.specs.declared.TableAnswer.{TableAnswer}

-- ── One position of a union ──────────────────────────────────────────────────────────────────────

-- a test of what is kept of a list, on the list itself
any-kept : {B : Type 0} (p : B → Bool) (f : ℕ → B) (k : ℕ → Bool) (l : List ℕ)
    → any p (map f (keep k l)) ≡ any (λ n. k n && p (f n)) l
any-kept p f k [] = refl
any-kept p f k (n ∷ l) = go (k n) (any-kept p f k l)
  where
    go : (b : Bool) → any p (map f (keep k l)) ≡ any (λ n. k n && p (f n)) l
        → any p (map f (keep_if b n (keep k l))) ≡ ((b && p (f n)) || any (λ n. k n && p (f n)) l)
    go true e = ap (λ c. p (f n) || c) e
    go false e = e

abbrev marks : List ℕ → ℕ → Bool
marks table k = not (eqb (entry_at table k) kept)

module _ (part : Touched → ℕ) (set : RuleSet) (reach : ℕ) where
  -- of the first n sequences some marked one has position i + 1
  abbrev some-has : (ℕ → Bool) → ℕ → ℕ → Bool
  some-has marked n i = any (λ k. marked k && has (part (touched_in set (sequence_at set reach k))) i) (numbers_from 0 n)

  union-has : (table : List ℕ) (i : ℕ) → i < 16
      → has (union_of part set reach table) i ≡ some-has (marks table) (table_entries set reach) i
  unfolding union_of marked_sequences
  union-has table i h =
      has-set_of _ 16 i ∙ rw (lt-ltb i 16 h)
      (any-kept (λ q. has (part (touched_in set q)) i) (sequence_at set reach) (marks table)
      (numbers_from 0 (table_entries set reach)))

  -- exactly if some marked sequence has it
  pub union_iff : (table : List ℕ) (i : ℕ) → i < 16
      → (has (union_of part set reach table) i ≡ true)
      ↔ ((q : Sequence) × Marked set reach table q × (has (part (touched_in set q)) i ≡ true))
  union_iff table i h =
      let w = any-below_iff (λ k. marks table k && has (part (touched_in set (sequence_at set reach k))) i)
      (λ k. (entry_at table k ≢ kept) × (has (part (touched_in set (sequence_at set reach k))) i ≡ true))
      (λ k. and_iff (marks table k) (has (part (touched_in set (sequence_at set reach k))) i)
      (not_iff (eqb (entry_at table k) kept) (eqb_iff (entry_at table k) kept)) (λ e. e, λ e. e))
      (table_entries set reach) in (
        λ e. let v = w.0 (sym (union-has table i h) ∙ e) in
            (sequence_at set reach v.0, (v.0, v.1, (refl, v.2.0)), v.2.1),
        λ v. union-has table i h ∙ w.1 (
          v.1.0,
          v.1.1,
          (v.1.2.1, subst (λ (q : Sequence). has (part (touched_in set q)) i ≡ true) (sym v.1.2.0) v.2),
        ),
      )

  pub union_bound : (table : List ℕ) → union_of part set reach table < 65536
  unfolding union_of
  union_bound table = set_of-below _ 16

-- ── What an answer means ─────────────────────────────────────────────────────────────────────────

module _ (set : RuleSet) (reach : ℕ) (table : List ℕ) (outcome : ℕ) (formed : outcome ≡ 0 → WellFormed set) where
  -- a marked sequence is one of the set's rules
  numbered : (q : Sequence) → Marked set reach table q → Numbered set.count q
  numbered q w = subst (Numbered set.count) w.2.0 (index_sequence set reach w.0 w.1).1

  -- the unions, where there are some
  shown : outcome ≡ 0 → UnionMeaning set reach table (record {
    outcome = outcome;
    touched = table_touched set reach table;
  })
  unfolding table_touched
  shown z = record {
    reads = λ _ i h. let w = union_iff (λ t. t.reads) set reach table i h in (
      λ e. let v = w.0 e in (v.0, v.1, (reads_iff set (formed z) v.0 (numbered v.0 v.1) i h).0 v.2),
      λ v. w.1 (v.0, v.1, (reads_iff set (formed z) v.0 (numbered v.0 v.1) i h).1 v.2),
    );
    writes = λ _ i h. let w = union_iff (λ t. t.writes) set reach table i h in (
      λ e. let v = w.0 e in (v.0, v.1, (writes_iff set (formed z) v.0 (numbered v.0 v.1) i h).0 v.2),
      λ v. w.1 (v.0, v.1, (writes_iff set (formed z) v.0 (numbered v.0 v.1) i h).1 v.2),
    );
    sixteen = (union_bound (λ t. t.reads) set reach table, union_bound (λ t. t.writes) set reach table);
    refused = λ n. absurd (n z);
  }

  -- nothing where it is refused
  silent : outcome ≢ 0 → UnionMeaning set reach table (refused_table outcome)
  silent n = record {
    reads = λ z. absurd (n z);
    writes = λ z. absurd (n z);
    sixteen = (omega arith, omega arith);
    refused = λ _. refl;
  }

  -- an answer with an outcome that is 0 for well-formed sets alone
  with_meaning : UnionMeaning set reach table (answer_with set reach table outcome)
  with_meaning =
      ⊎_elim (λ (z : outcome ≡ 0). rw (eq-eqb outcome 0 z) (shown z))
      (λ (n : outcome ≢ 0). rw (ne_eqb outcome 0 n) (silent n)) (equal? outcome 0)

-- an answer that was given, with this outcome: a refusal, and with both unions
module _ (set : RuleSet) (reach : ℕ) (table : List ℕ) (given outcome : ℕ) (e : given ≡ outcome) where
  pub answer-refused : outcome ≢ 0 → (answer : TableAnswer) → answer ≡ refused_table given
      → answer ≡ answer_with set reach table outcome
  answer-refused n answer a =
      a ∙ rw e (sym (rw (ne_eqb outcome 0 n)))

  pub answer-whole : outcome ≡ 0 → (touched : Touched) → touched ≡ table_touched set reach table
      → ◌≡◌ {A = TableAnswer} (record { outcome = given; touched = touched }) (answer_with set reach table outcome)
  answer-whole z touched t = rw (e, t) (sym (rw (eq-eqb outcome 0 z)))

-- of the builder's answer, and of the table that it leaves
pub build_unions : (set : RuleSet) (reach size : ℕ)
    → UnionMeaning set reach (built_buffer set reach size) (build_answer set reach size)
unfolding build_answer
build_unions set reach size =
    let outcome = build_outcome set reach size in
    let formed : outcome ≡ 0 → WellFormed set = λ z. ((build_ready_iff set reach size).0 z).0.formed in
    ⊎_elim (λ (z : outcome ≡ 0). rw (built-whole set reach size z)
    (with_meaning set reach (built_table set reach) outcome formed))
    (λ (n : outcome ≢ 0). rw (ne_eqb outcome 0 n) (silent set reach (built_buffer set reach size) outcome formed n))
    (equal? outcome 0)

-- of the check's answer, and of the table that it is given
pub check_unions : (set : RuleSet) (reach : ℕ) (table : List ℕ)
    → UnionMeaning set reach table (check_answer set reach table)
unfolding check_answer
check_unions set reach table =
    with_meaning set reach table (check_outcome set reach table)
    (λ z. ((check_meaning set reach table).accepts.0 z).0.0.formed)

-- ── The marks one after the other ────────────────────────────────────────────────────────────────

-- one number more
numbers-last : (i n : ℕ) → numbers_from i (suc n) ≡ numbers_from i n ++ ((i + n) ∷ [])
numbers-last i zero = ap (λ k. k ∷ []) (sym (add-zero i))
numbers-last i (suc n) =
    ap (λ (l : List ℕ). i ∷ l) (numbers-last (suc i) n ∙ ap (λ k. numbers_from (suc i) n ++ (k ∷ [])) (omega arith))

any_last : (p : ℕ → Bool) (n : ℕ) → any p (numbers_from 0 (suc n)) ≡ (any p (numbers_from 0 n) || p n)
any_last p n =
    ap (any p) (numbers-last 0 n) ∙ any_append p (numbers_from 0 n) ((0 + n) ∷ [])
    ∙ ap (λ b. any p (numbers_from 0 n) || b) (or-false (p (0 + n)) ∙ ap p (zero-add n))

module _ (part : Touched → ℕ) (none : part untouched ≡ 0)
    (either : (a b : Touched) → part (united a b) ≡ bit_or (part a) (part b))
    (bound : (set : RuleSet) (q : Sequence) → part (touched_in set q) < 65536)
    (set : RuleSet) (reach : ℕ) (marked : ℕ → Bool) where
  abbrev so_far : ℕ → ℕ
  so_far n = part (united_to set reach marked n)

  abbrev own : ℕ → ℕ
  own n = part (touched_in set (sequence_at set reach n))

  -- what the first n marks make has what one of them has
  united-has : (n i : ℕ) → has (so_far n) i ≡ some-has part set reach marked n i
  unfolding united_to
  united-has zero i = ap (λ m. has m i) none ∙ has_none i
  united-has (suc n) i =
      go (marked n) (united-has n i) ∙ sym (any_last (λ k. marked k && has (own k) i) n)
    where
      go : (b : Bool) → has (so_far n) i ≡ some-has part set reach marked n i
          → has (part (cond b (united (united_to set reach marked n) (touched_in set (sequence_at set reach n)))
          (united_to set reach marked n))) i
          ≡ (some-has part set reach marked n i || (b && has (own n) i))
      go true e =
          ap (λ m. has m i) (either (united_to set reach marked n) (touched_in set (sequence_at set reach n)))
          ∙ has_or (so_far n) (own n) i ∙ ap (λ b. b || has (own n) i) e
      go false e = e ∙ sym (or-false _)

  united_bound : (n : ℕ) → so_far n < 65536
  unfolding united_to
  united_bound zero = rw none (omega arith)
  united_bound (suc n) = go (marked n) (united_bound n)
    where
      go : (b : Bool) → so_far n < 65536
          → part (cond b (united (united_to set reach marked n) (touched_in set (sequence_at set reach n)))
          (united_to set reach marked n)) < 65536
      go true h =
          rw (either (united_to set reach marked n) (touched_in set (sequence_at set reach n)))
          (or_lt 16 (so_far n) (own n) h (bound set (sequence_at set reach n)))
      go false h = h

  -- all marks of a table make its union
  united_part : (table : List ℕ) → ((k : ℕ) → k < table_entries set reach → marked k ≡ marks table k)
      → so_far (table_entries set reach) ≡ union_of part set reach table
  united_part table same =
      sets_equal 16 (so_far (table_entries set reach)) (union_of part set reach table)
      (united_bound (table_entries set reach)) (union_bound part set reach table)
      (λ i h. united-has (table_entries set reach) i
      ∙ any_same (table_entries set reach) (λ k l. ap (λ b. b && has (own k) i) (same k l))
      ∙ sym (union-has part set reach table i h))
    where
      any_same : {p r : ℕ → Bool} (n : ℕ) → ((k : ℕ) → k < n → p k ≡ r k)
          → any p (numbers_from 0 n) ≡ any r (numbers_from 0 n)
      any_same {p} {r} zero e = refl
      any_same {p} {r} (suc n) e =
          any_last p n
          ∙ ap₂ (λ a b. a || b) (any_same n (λ k h. e k (omega arith))) (e n (omega arith))
          ∙ sym (any_last r n)

-- both
pub united_all : (set : RuleSet) (reach : ℕ) (marked : ℕ → Bool) (table : List ℕ)
    → ((k : ℕ) → k < table_entries set reach → marked k ≡ marks table k)
    → united_to set reach marked (table_entries set reach) ≡ table_touched set reach table
unfolding table_touched united
united_all set reach marked table same =
    let reads = united_part (λ t. t.reads) refl (λ a b. refl) (λ s q. (touched_bound s q).0) set reach marked table
    same in
    let writes = united_part (λ t. t.writes) refl (λ a b. refl) (λ s q. (touched_bound s q).1) set reach marked table
    same in
    λ i. record { reads = reads i; writes = writes i }

-- unions that have every position that is looked at stay as they are
pub united_full : (wide : ℕ) → wide < 65536 → (o : Option Lines) (before : Touched) → before.reads ≡ wide
    → before.writes ≡ wide → united before (touched_within wide o) ≡ before
unfolding united touched_within
united_full wide h none before r w =
    λ i. record { reads = or_zero_r before.reads i; writes = or_zero_r before.writes i }
united_full wide h (some m) before r w =
    let reads = full before.reads r (read_at m) in
    let writes = full before.writes w (written_at m) in
    λ i. record { reads = reads i; writes = writes i }
  where
    absorbed : (a b : Bool) → (a || (a && b)) ≡ a
    absorbed true b = refl
    absorbed false b = refl

    full : (m : ℕ) → m ≡ wide → (p : ℕ → Bool) → bit_or m (set_of (λ i. has wide i && p i) 16) ≡ m
    full m e p =
        let some-wide = set_of (λ i. has wide i && p i) 16 in
        sets_equal 16 (bit_or m some-wide) m (or_lt 16 m some-wide (rw e h) (set_of-below (λ i. has wide i && p i) 16))
        (rw e h)
        (λ k l. has_or m some-wide k
        ∙ ap (λ b. has m k || b)
        (has-set_of (λ i. has wide i && p i) 16 k ∙ ap (λ b. b && (has wide k && p k)) (lt-ltb k 16 l)
        ∙ ap (λ n. has n k && p k) (sym e))
        ∙ absorbed (has m k) (p k))

-- one index more
pub united_next : (set : RuleSet) (reach : ℕ) (marked : ℕ → Bool) (n : ℕ) (before own : Touched)
    → before ≡ united_to set reach marked n → own ≡ touched_in set (sequence_at set reach n)
    → cond (marked n) (united before own) before ≡ united_to set reach marked (n + 1)
unfolding united_to
united_next set reach marked n before own e o =
    rw (e, o) (ap (united_to set reach marked) (sym (add-one n)))
