-- The witness that an accepted table names for a marked sequence: it is earlier and short, and the sequence is
-- redundant with it.
-- Assumes nothing.
use mathlib.Core.Path.{◌≡◌, sym, ap, subst}
use mathlib.Core.Logic.{⊎_elim}
use mathlib.Core.Bool.{Bool, true}
use Prim.Native.Nat.{ℕ, ◌≤◌, ◌<◌}
use native.Mathlib.Omega.{arith}
use lib.ListN.{length}
use Rattle.theory_spec.specs.Lists.{same, numbers_from, first_that}
use Rattle.theory_spec.specs.Sequences.{Sequence}
use Rattle.theory_spec.specs.Order.{Before}
use Rattle.theory_spec.proofs.ListLaws.{not-both, same_true}
use Rattle.theory_spec.proofs.OrderLaws.{before_irrefl}
use Rattle.theory_spec.proofs.TestLaws.{below?, same_iff, FirstPasses, first_that_lem}
use Rattle.model_spec.specs.Rules.{RedundantIn}
use Rattle.model_spec.specs.declared.RuleSet.{RuleSet}
use Rattle.tables_spec.specs.Table.{table_entries, sequence_at, entry_at, Accepted, Marked}
use Rattle.tables_spec.proofs.TableLaws.{index_sequence, index-before_iff}
use Rattle.search_spec.specs.Query.{Query}
use Rattle.explain_spec.specs.Segments.{index_in, witness_of}

module _ (set : RuleSet) (query : Query) (b : Sequence) where
  abbrev reach : ℕ
  reach = query.reach

  abbrev entries : ℕ
  entries = table_entries set reach

  -- the index of a sequence is the one that has it
  pub index_in_lem : (i : ℕ) → i < entries → sequence_at set reach i ≡ b → index_in set query b ≡ i
  unfolding index_in
  index_in_lem i h e =
      ⊎_elim (λ w. not-both found (w.1 i (omega arith) (omega arith)))
      (λ w. first (first_that test (numbers_from 0 entries)) w)
      (first_that_lem test 0 entries)
    where
      test : ℕ → Bool
      test j = same b (sequence_at set reach j)

      found : test i ≡ true
      found = (same_iff b (sequence_at set reach i)).1 (sym e)

      first : (j : ℕ) → FirstPasses test 0 entries j → j ≡ i
      first j w =
          let high = w.1 in
          let there = same_true b (sequence_at set reach j) w.2 in
          ⊎_elim
          (λ d. absurd (before_irrefl b (subst (λ s. Before s b) (sym there)
          (subst (Before (sequence_at set reach j)) e ((index-before_iff set reach j i (omega arith) h).0 d)))))
          (λ d. ⊎_elim (λ k. not-both found (w.3 i (omega arith) k)) (λ k. omega arith) (below? i j))
          (below? j i)

  module _ (accepts : Accepted set reach query.table) (m : Marked set reach query.table b) where
    abbrev index : ℕ
    index = m.0

    abbrev entry : ℕ
    entry = entry_at query.table index

    -- the index of the witness is smaller
    pub entry-below : entry < index
    entry-below = (accepts.1 index m.1 m.2.1).0

    pub entry-inside : entry < entries
    entry-inside = omega (arith, entry-below, m.1)

    -- the witness is the table's own
    pub witness-named : witness_of set query b ≡ sequence_at set reach entry
    unfolding witness_of
    witness-named = ap (λ j. sequence_at set reach (entry_at query.table j)) (index_in_lem index m.1 m.2.0)

    pub witness-earlier : Before (witness_of set query b) b
    witness-earlier =
        subst (λ w. Before w b) (sym witness-named) (subst (Before (sequence_at set reach entry)) m.2.0
        ((index-before_iff set reach entry index entry-inside m.1).0 entry-below))

    pub witness-redundant : RedundantIn set b (witness_of set query b)
    witness-redundant =
        subst (RedundantIn set b) (sym witness-named) (subst (λ s. RedundantIn set s (sequence_at set reach entry))
        m.2.0 (accepts.1 index m.1 m.2.1).1)

    pub witness-short : length (witness_of set query b) ≤ reach
    witness-short =
        subst (λ w. length w ≤ reach) (sym witness-named) (index_sequence set reach entry entry-inside).0
