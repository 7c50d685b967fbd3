-- What a report gives and leaves: the listing in the caller's buffer, or nothing where the buffer is shorter; and what
-- that means, over all sequences and states.
use Rattle.std.specs.Prelude.{◌≡◌, ◌↔◌, ◌≢◌, cond, List, [], ◌∷◌, ◌++◌, map, ℕ, ◌-◌, ◌≤◌, ◌<◌, leb, length, replicate}
use Rattle.theory_spec.specs.Lists.{◌∈◌, Pairwise, padded}
use Rattle.theory_spec.specs.Sequences.{Sequence}
use Rattle.model_spec.specs.Limits.{place_count}
use Rattle.model_spec.specs.declared.RuleSet.{RuleSet}
use Rattle.files_spec.specs.Text.{numeral, line}
use Rattle.files_spec.specs.Reading.{reading, ReadAs}
use Rattle.macros_spec.specs.Answers.{SequenceReads, SequenceWrites, Denied}
use Rattle.tables_spec.specs.Table.{table_entries, sequence_at, built_entry, Prunable, LeastWitness}
use Rattle.report_spec.specs.Listing.{listed_reach, marked_indices, sequence_items, mark_lines, listing_of, listing}

-- the length of the listing, for a buffer of `room` bytes; 0 where the buffer is shorter
unfoldable pub report_length : List ℕ → ℕ → ℕ
report_length text room = cond (leb (length (listing text)) room) (length (listing text)) 0

-- the buffer after the call: the listing, then zeros; zeros alone where it is shorter
unfoldable pub reported : List ℕ → ℕ → List ℕ
reported text room = cond (leb (length (listing text)) room) (padded room 0 (listing text)) (replicate room 0)

-- the sequence q is listed: it is that of a marked index
abbrev pub Listed : RuleSet → Sequence → Type 0
Listed set q = (i : ℕ) × (i ∈ marked_indices set) × (sequence_at set listed_reach i ≡ q)

-- the positions with a property, each of them and no other, in rising order
abbrev pub ExactlyThose : (ℕ → Type 0) → List ℕ → Type 0
ExactlyThose P positions =
    Pairwise (λ m n. m < n) positions
    × ((n : ℕ) → (n ∈ positions) ↔ ((1 ≤ n) × (n ≤ place_count) × P (n - 1)))

-- the lines of a mark: the sequence, its witness, and the positions that the sequence reads and writes, none for one
-- that no state admits
pub record MarkMeaning (set : RuleSet) (i : ℕ) : Type 0 where
  pub reads : List ℕ
  pub writes : List ℕ
  pub lines : mark_lines set i
      ≡ line "drop=" (sequence_items (sequence_at set listed_reach i))
      ++ line "for=" (sequence_items (sequence_at set listed_reach (built_entry set listed_reach i)))
      ++ line "reads=" (map numeral reads)
      ++ line "moves=" (map numeral writes)
  pub reads_exactly : ExactlyThose (SequenceReads set (sequence_at set listed_reach i)) reads
  pub writes_exactly : ExactlyThose (SequenceWrites set (sequence_at set listed_reach i)) writes
  pub denied : Denied set (sequence_at set listed_reach i) → (reads ≡ []) × (writes ≡ [])

-- what a report tells and leaves. A refused text is listed by its number alone. Of a text that is read, the sequences
-- listed are exactly the prunable ones (document 01: needless), in order, and each with the smallest index that will do
-- as its witness and the positions that it reads and writes. The buffer holds the whole listing, or nothing; the length
-- is 0 exactly if the buffer is shorter than the listing
pub record ReportMeaning (text : List ℕ) (room r : ℕ) (out : List ℕ) : Type 0 where
  pub refused : (reading text).outcome ≢ 0 → listing text ≡ line "refused=" (numeral (reading text).outcome ∷ [])
  pub read : (set : RuleSet) → ReadAs text set → listing text ≡ listing_of set
  pub marks : (set : RuleSet) → ReadAs text set → (i : ℕ)
      → (i ∈ marked_indices set)
      ↔ ((i < table_entries set listed_reach) × Prunable set listed_reach (sequence_at set listed_reach i))
  pub sequences : (set : RuleSet) → ReadAs text set → (q : Sequence) → Listed set q ↔ Prunable set listed_reach q
  pub rising : (set : RuleSet) → ReadAs text set → Pairwise (λ i j. i < j) (marked_indices set)
  pub least : (set : RuleSet) → ReadAs text set → (i : ℕ) → i ∈ marked_indices set
      → LeastWitness set listed_reach i (built_entry set listed_reach i)
  pub lines : (set : RuleSet) → ReadAs text set → (i : ℕ) → i ∈ marked_indices set → MarkMeaning set i
  pub short : (r ≡ 0) ↔ (room < length (listing text))
  pub shown : r ≢ 0 → (r ≡ length (listing text)) × (out ≡ listing text ++ replicate (room - r) 0)
  pub zeros : r ≡ 0 → out ≡ replicate room 0
