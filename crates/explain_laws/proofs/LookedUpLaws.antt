-- Marks looked up by index are the table's: of a set's sequences just the marked ones pass, and the witness is the one
-- that the table names.
-- Assumes nothing.
use mathlib.Core.Path.{◌≡◌, refl, sym, ap, subst, ◌∙◌}
use mathlib.Core.Logic.{⊎_elim}
use mathlib.Core.Bool.{Bool}
use mathlib.Core.List.{List, [], ◌∷◌}
use Prim.Native.Nat.{ℕ, ◌-◌, ◌≤◌}
use native.Mathlib.Omega.{arith}
use lib.ListN.{length, take, drop, take-append-drop}
use lib.Seq.{take_all}
use borrow.Author.Tests.{eq-eqb, ne_eqb}
use Rattle.theory_spec.specs.Lists.{any, numbers_from, first_that}
use Rattle.theory_spec.specs.Sequences.{Sequence, Numbered}
use Rattle.theory_spec.specs.How.Indices.{index_of}
use Rattle.theory_spec.proofs.ListLaws.{never_true}
use Rattle.theory_spec.proofs.SequenceLaws.{numbered_left, numbered-right}
use Rattle.theory_spec.proofs.TestLaws.{below?, equal?}
use Rattle.theory_spec.proofs.IndexLaws.{index_of-place}
use Rattle.model_spec.specs.Validity.{WellFormed}
use Rattle.model_spec.specs.declared.RuleSet.{RuleSet}
use Rattle.tables_spec.specs.Table.{table_entries, sequence_at, entry_at, marked, Accepted, Marked}
use Rattle.tables_spec.proofs.CountLaws.{count-sequences}
use Rattle.tables_spec.proofs.TableLaws.{mark-index, marked-short, marked_iff}
use Rattle.tables_laws.specs.How.ShortSequences.{short_sequence}
use Rattle.tables_laws.proofs.SequenceLoopLaws.{near_at}
use Rattle.search_spec.specs.Query.{Query}
use Rattle.explain_spec.specs.Segments.{segment_of, shortest_at, soonest_end, soonest_length, marks, witness_of, marked_end}
use Rattle.explain_spec.specs.Segments.{marked_length, segment_witness}
use Rattle.explain_spec.proofs.SegmentLaws.{segment_passes}
use Rattle.explain_spec.proofs.WitnessLaws.{entry-inside, witness-named}
use Rattle.explain_laws.specs.How.LookedUp.{looked_up, named_witness}
use Rattle.explain_laws.proofs.SegmentLoopLaws.{long_fails, short_passes}

-- of a set's sequences just the marked ones pass
pub looked_up_lem : (set : RuleSet) (reach : ℕ) (table : List ℕ) (b : Sequence) → reach ≤ 3 → Numbered set.count b
    → looked_up set.count reach table b ≡ marked set reach table b
looked_up_lem set reach table b near rules =
    ⊎_elim
    (λ h. long_fails set.count reach table b (omega arith)
    ∙ sym (never_true (marked set reach table b) (λ e. let short = (marked-short set reach table b e).0 in omega arith)))
    (λ h. short_passes set.count reach table b (omega arith) ∙ sym (mark-index set reach table b h rules))
    (below? reach (length b))

-- ── Segments of a proposal ───────────────────────────────────────────────────────────────────────

-- the moves of a segment are rules' numbers too
segment_numbered : (m : ℕ) (q : Sequence) (e n : ℕ) → Numbered m q → Numbered m (segment_of q e n)
segment_numbered m q e n h =
    let rest = drop (e - n) q in
    let behind = numbered-right m (take (e - n) q) rest
    (subst (Numbered m) (sym (take-append-drop (e - n) q)) h) in
    numbered_left m (take n rest) (drop n rest) (subst (Numbered m) (sym (take-append-drop n rest)) behind)

-- tests that agree on every number find the same first one
first-same : (f g : ℕ → Bool) → ((k : ℕ) → f k ≡ g k) → (l : List ℕ) → first_that f l ≡ first_that g l
first-same f g same [] = refl
first-same f g same (k ∷ l) = rw (same k, first-same f g same l) refl

any_same : (f g : ℕ → Bool) → ((k : ℕ) → f k ≡ g k) → (l : List ℕ) → any f l ≡ any g l
any_same f g same [] = refl
any_same f g same (k ∷ l) = rw (same k, any_same f g same l) refl

module _ (set : RuleSet) (query : Query) (q : Sequence)
    (near : query.reach ≤ 3) (rules : Numbered set.count q) where
  abbrev looked : Sequence → Bool
  looked = looked_up set.count query.reach query.table

  agree : (e n : ℕ) → looked (segment_of q e n) ≡ marks set query (segment_of q e n)
  agree e n =
      looked_up_lem set query.reach query.table (segment_of q e n) near (segment_numbered set.count q e n rules)

  -- the segment that is looked up is the marked one
  pub same_end : soonest_end looked q ≡ marked_end set query q
  unfolding soonest_end
  same_end =
      first-same _ _ (λ e. any_same _ _ (λ n. agree e n) (numbers_from 1 e)) (numbers_from 1 (length q))

  pub same_length : soonest_length looked q ≡ marked_length set query q
  unfolding soonest_length shortest_at
  same_length =
      ap (λ e. first_that (λ n. looked (segment_of q e n)) (numbers_from 1 e)) same_end
      ∙ first-same _ _ (λ n. agree (marked_end set query q) n) (numbers_from 1 (marked_end set query q))

-- ── The witness ──────────────────────────────────────────────────────────────────────────────────

module _ (set : RuleSet) (formed : WellFormed set) (query : Query) (near : query.reach ≤ 3)
    (accepts : Accepted set query.reach query.table) where
  -- the sequence that the entry at a marked sequence's index names
  entry-names : (b : Sequence) → Marked set query.reach query.table b
      → short_sequence set.count (entry_at query.table (index_of set.count (take 3 b))) ≡ witness_of set query b
  unfolding sequence_at table_entries
  entry-names b m =
      let short = (marked-short set query.reach query.table b
      ((marked_iff set query.reach query.table b).1 m)).0 in
      let many = count-sequences set.count query.reach in
      let index : index_of set.count (take 3 b) ≡ m.0 =
      ap (index_of set.count) (take_all 3 b (omega arith) ∙ sym m.2.0)
      ∙ index_of-place set.count query.reach m.0 (omega (arith, m.1)) in
      ap (λ i. short_sequence set.count (entry_at query.table i)) index
      ∙ near_at set formed query.reach near (entry_at query.table m.0) (entry-inside set query b accepts m)
      ∙ sym (witness-named set query b accepts m)

  -- the witness of the marked segment
  pub witness-named_by : (q : Sequence)
      → named_witness set.count query.table q (marked_end set query q) (marked_length set query q)
      ≡ segment_witness set query q
  unfolding named_witness segment_witness
  witness-named_by q =
      ⊎_elim
      (λ z. rw (eq-eqb (marked_end set query q) 0 z) refl)
      (λ n. rw (ne_eqb (marked_end set query q) 0 n) (entry-names _
      ((marked_iff set query.reach query.table _).0 (segment_passes (marks set query) q n))))
      (equal? (marked_end set query q) 0)
