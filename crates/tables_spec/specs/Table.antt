-- The pruning table (document 01: the drop table): two bytes for each sequence of at most `reach` rules, by index, low
-- byte first. 65535 keeps the sequence; another value marks it and is the index of its witness.
use Rattle.std.specs.Prelude.{◌≡◌, ◌≢◌, Bool, not, cond, ◌&&◌, ◌||◌, List, [], ◌∷◌, ℕ, zero, suc, ◌+◌, ◌*◌, ◌/◌, ◌%◌}
use Rattle.std.specs.Prelude.{◌^◌, ◌≤◌, ◌<◌, ltb, eqb, length, get_or, take}
use Rattle.theory_spec.specs.Lists.{any, every, flat, numbers_from, same}
use Rattle.theory_spec.specs.Sequences.{Sequence, sequences, Numbered}
use Rattle.theory_spec.specs.Order.{Before}
use Rattle.model_spec.specs.Rules.{redundant, RedundantIn}
use Rattle.model_spec.specs.declared.RuleSet.{RuleSet}

-- ── Indices and entries ──────────────────────────────────────────────────────────────────────────

-- S = 1 + M + .. + M^reach, the number of sequences of at most `reach` of M rules
abbrev pub sequence_count : ℕ → ℕ → ℕ
sequence_count m zero = 1
sequence_count m (suc reach) = sequence_count m reach + m ^ suc reach

-- how many entries a table of the set has
unfoldable pub table_entries : RuleSet → ℕ → ℕ
table_entries set reach = sequence_count set.count reach

-- the sequence of an index, from 0, the empty one
unfoldable pub sequence_at : RuleSet → ℕ → ℕ → Sequence
sequence_at set reach i = get_or (sequences set.count reach) i []

-- the value of an entry that keeps its sequence
abbrev pub kept : ℕ
kept = 65535

-- entry i of a table: two bytes, low byte first
unfoldable pub entry_at : List ℕ → ℕ → ℕ
entry_at table i = get_or table (2 * i) 0 + 256 * get_or table (2 * i + 1) 0

-- the two bytes of an entry
abbrev pub entry_bytes : ℕ → List ℕ
entry_bytes e = (e % 256) ∷ (e / 256) ∷ []

-- the sequence q is marked: it has an index whose entry is not 65535
unfoldable pub marked : RuleSet → ℕ → List ℕ → Sequence → Bool
marked set reach table q =
    any (λ i. same q (sequence_at set reach i) && not (eqb (entry_at table i) kept))
    (numbers_from 0 (table_entries set reach))

-- ── The built table ──────────────────────────────────────────────────────────────────────────────

-- the first index, from i on, whose sequence passes the test; 65535 if none does
abbrev pub first_index : (Sequence → Bool) → ℕ → List Sequence → ℕ
first_index test i [] = kept
first_index test i (a ∷ later) = cond (test a) i (first_index test (suc i) later)

-- the smallest index of an earlier sequence with which sequence i is redundant; 65535 if there is none
unfoldable pub built_entry : RuleSet → ℕ → ℕ → ℕ
built_entry set reach i = first_index (redundant set (sequence_at set reach i)) 0 (take i (sequences set.count reach))

-- the table that the builder makes: for each index, in order, the smallest witness or 65535
unfoldable pub built_table : RuleSet → ℕ → List ℕ
built_table set reach = flat (λ i. entry_bytes (built_entry set reach i)) (numbers_from 0 (table_entries set reach))

-- ── Acceptance ───────────────────────────────────────────────────────────────────────────────────

-- entry i keeps its sequence, or names a smaller index with whose sequence it is redundant
unfoldable pub entry_justified : RuleSet → ℕ → List ℕ → ℕ → Bool
entry_justified set reach table i =
    let e = entry_at table i in
    eqb e kept || (ltb e i && redundant set (sequence_at set reach i) (sequence_at set reach e))

-- a table is accepted: entry 0 is 65535, and each mark is justified
unfoldable pub accepted : RuleSet → ℕ → List ℕ → Bool
accepted set reach table =
    eqb (entry_at table 0) kept
    && every (entry_justified set reach table) (numbers_from 0 (table_entries set reach))

-- ── The same as statements, over all states ──────────────────────────────────────────────────────

-- the sequence b is marked: it has an index whose entry is not 65535
abbrev pub Marked : RuleSet → ℕ → List ℕ → Sequence → Type 0
Marked set reach table b =
    (i : ℕ) × (i < table_entries set reach)
    × ((sequence_at set reach i ≡ b) × (entry_at table i ≢ kept))

-- b is prunable for a reach (document 01: needless): a sequence of 1 to `reach` rules of the set that is redundant with
-- some earlier one of at most `reach` rules
pub record Prunable (set : RuleSet) (reach : ℕ) (b : Sequence) : Type 0 where
  pub rules : Numbered set.count b
  pub not_empty : 1 ≤ length b
  pub short : length b ≤ reach
  pub witness : Sequence
  pub earlier : Before witness b
  pub witness_short : length witness ≤ reach
  pub witness_rules : Numbered set.count witness
  pub redundant_with : RedundantIn set b witness

-- the mark at index i is justified: it names a smaller index with whose sequence its own is redundant
abbrev pub MarkJustified : RuleSet → ℕ → List ℕ → ℕ → Type 0
MarkJustified set reach table i =
    (entry_at table i < i)
    × RedundantIn set (sequence_at set reach i) (sequence_at set reach (entry_at table i))

-- a table of 2 × S bytes is accepted
abbrev pub Accepted : RuleSet → ℕ → List ℕ → Type 0
Accepted set reach table =
    (entry_at table 0 ≡ kept)
    × ((i : ℕ) → i < table_entries set reach → entry_at table i ≢ kept → MarkJustified set reach table i)

-- n is the smallest index with whose sequence sequence i is redundant, and smaller than i
abbrev pub LeastWitness : RuleSet → ℕ → ℕ → ℕ → Type 0
LeastWitness set reach i n =
    (n < i)
    × (RedundantIn set (sequence_at set reach i) (sequence_at set reach n)
    × ((j : ℕ) → RedundantIn set (sequence_at set reach i) (sequence_at set reach j) → n ≤ j))
