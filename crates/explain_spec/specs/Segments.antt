-- The marked segment of a proposal (document 02: the marked stretch that ends soonest, the shorter at equal end), and
-- its witness.
use Rattle.std.specs.Prelude.{Bool, cond, [], ℕ, ◌-◌, eqb, length, take, drop}
use Rattle.theory_spec.specs.Lists.{any, same, numbers_from, first_that}
use Rattle.theory_spec.specs.Sequences.{Sequence}
use Rattle.model_spec.specs.declared.RuleSet.{RuleSet}
use Rattle.tables_spec.specs.Table.{table_entries, sequence_at, entry_at, marked}
use Rattle.search_spec.specs.Query.{Query}

-- the n moves that end with move e, from 1
abbrev pub segment_of : Sequence → ℕ → ℕ → Sequence
segment_of q e n = take n (drop (e - n) q)

-- of all segments of q that pass a test
module _ (test : Sequence → Bool) (q : Sequence) where
  -- how long the shortest is that ends with move e; 0 if none does
  unfoldable pub shortest_at : ℕ → ℕ
  shortest_at e = first_that (λ n. test (segment_of q e n)) (numbers_from 1 e)

  -- the first move with which one ends; 0 if none passes
  unfoldable pub soonest_end : ℕ
  soonest_end = first_that (λ e. any (λ n. test (segment_of q e n)) (numbers_from 1 e)) (numbers_from 1 (length q))

  -- how long the shortest of those is that end with it; 0 if none passes
  unfoldable pub soonest_length : ℕ
  soonest_length = shortest_at soonest_end

module _ (set : RuleSet) (query : Query) where
  -- the query's table marks a sequence
  abbrev pub marks : Sequence → Bool
  marks = marked set query.reach query.table

  -- the index in the table of a sequence that has one
  unfoldable pub index_in : Sequence → ℕ
  index_in b =
      first_that (λ i. same b (sequence_at set query.reach i)) (numbers_from 0 (table_entries set query.reach))

  -- the witness that the table names for a marked sequence
  unfoldable pub witness_of : Sequence → Sequence
  witness_of b = sequence_at set query.reach (entry_at query.table (index_in b))

  module _ (q : Sequence) where
    -- the last move of the marked segment, and how many moves it has; 0 if none is marked
    abbrev pub marked_end : ℕ
    marked_end = soonest_end marks q

    abbrev pub marked_length : ℕ
    marked_length = soonest_length marks q

    -- its witness; empty if none is marked
    unfoldable pub segment_witness : Sequence
    segment_witness = cond (eqb marked_end 0) [] (witness_of (segment_of q marked_end marked_length))
