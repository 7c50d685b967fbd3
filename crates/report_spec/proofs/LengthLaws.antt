-- The length of a listing: at most 110,139 bytes. Numbers, sequences, positions, lines, and the marks, of which there
-- are at most 992, are bounded one after the other.
-- Assumes nothing.
use mathlib.Core.Path.{◌≡◌, refl, sym, ◌∙◌}
use mathlib.Core.Bool.{Bool, true, false, not, cond}
use mathlib.Core.List.{List, [], ◌∷◌, map}
use Prim.Native.Nat.{ℕ, zero, suc, ◌+◌, ◌-◌, ◌≤◌, ◌<◌}
use native.Mathlib.Omega.{arith}
use lib.Dec.{eqb}
use lib.ListN.{length, length-append}
use borrow.Author.Tests.{eqb-true, eq-eqb}
use Rattle.theory_spec.specs.Lists.{◌∈◌, keep_if, keep, numbers_from}
use Rattle.theory_spec.specs.Sets.{has}
use Rattle.theory_spec.specs.Sequences.{Sequence, Numbered}
use Rattle.theory_spec.proofs.ListLaws.{in_get_d, length-numbers_from}
use Rattle.model_spec.specs.declared.RuleSet.{RuleSet}
use Rattle.files_spec.specs.Text.{comma, numeral, comma_list, line}
use Rattle.files_spec.specs.Reading.{reading}
use Rattle.files_spec.proofs.LengthLaws.{numeral-length, line-length, flat-length}
use Rattle.files_spec.proofs.ReadTextLaws.{read-valid}
use Rattle.macros_spec.specs.Answers.{touched_in}
use Rattle.tables_spec.specs.Table.{table_entries, sequence_at, kept, built_entry, built_table}
use Rattle.tables_spec.proofs.CountLaws.{count_prefix}
use Rattle.tables_spec.proofs.TableLaws.{index_sequence, sequence-index, accepted_iff, built-entry, built-least}
use Rattle.tables_spec.proofs.TableLaws.{built-accepted}
use Rattle.report_spec.specs.Listing.{listed_reach, sequence_items, position_items, marked_indices, mark_lines}
use Rattle.report_spec.specs.Listing.{listing_of, listing}
use Rattle.report_spec.proofs.ListLaws.{keep-length}
use Rattle.report_spec.proofs.MarkLaws.{marked-entry_iff}

-- ── Sequences and positions ──────────────────────────────────────────────────────────────────────

-- at most two rule numbers have at most five bytes
sequence-length : (m : ℕ) → m ≤ 31 → (q : Sequence) → length q ≤ 2 → Numbered m q
    → length (comma_list (sequence_items q)) ≤ 5
sequence-length m few [] h n = omega arith
sequence-length m few (a ∷ []) h n = omega (arith, (numeral-length a).1 (omega (arith, n.1)))
sequence-length m few (a ∷ b ∷ []) h n =
    omega (
      arith,
      length-append (numeral a) (comma ∷ numeral b),
      (numeral-length a).1 (omega (arith, n.1)),
      (numeral-length b).1 (omega (arith, n.2.1)),
    )
sequence-length m few (a ∷ b ∷ c ∷ q) h n = absurd (omega arith)

-- the bytes of items with a comma after each
abbrev spaces : List (List ℕ) → ℕ
spaces [] = 0
spaces (x ∷ items) = length x + 1 + spaces items

-- between them there is one comma less
list_length : (items : List (List ℕ)) → length (comma_list items) ≤ spaces items - 1
list_length [] = omega arith
list_length (x ∷ []) = omega arith
list_length (x ∷ y ∷ items) =
    omega (arith, length-append x (comma ∷ comma_list (y ∷ items)), list_length (y ∷ items))

-- what is kept of a list has no more
kept_spaces : (text : ℕ → List ℕ) (p : ℕ → Bool) (l : List ℕ)
    → spaces (map text (keep p l)) ≤ spaces (map text l)
kept_spaces text p [] = omega arith
kept_spaces text p (x ∷ l) = go (p x) (kept_spaces text p l)
  where
    go : (b : Bool) → spaces (map text (keep p l)) ≤ spaces (map text l)
        → spaces (map text (keep_if b x (keep p l))) ≤ length (text x) + 1 + spaces (map text l)
    go true h = omega arith
    go false h = omega arith

-- all sixteen positions, with a comma after each
all_positions : spaces (map numeral (numbers_from 1 16)) ≡ 39
unfolding numeral
all_positions = refl

-- so positions have at most 38 bytes
positions-length : (m : ℕ) → length (comma_list (position_items m)) ≤ 38
positions-length m =
    omega (
      arith,
      list_length (position_items m),
      kept_spaces numeral (λ n. has m (n - 1)) (numbers_from 1 16),
      all_positions,
    )

-- ── Marks ────────────────────────────────────────────────────────────────────────────────────────

module _ (set : RuleSet) (few : set.count ≤ 31) where
  -- the lines of a mark
  mark-length : (i : ℕ) → i ∈ marked_indices set → length (mark_lines set i) ≤ 111
  unfolding mark_lines
  mark-length i d =
      let w = (marked-entry_iff set i).0 d in
      let k : built_entry set 2 i < table_entries set 2 = omega (arith, w.0, (built-least set 2 i w.0 w.1).0) in
      let own = index_sequence set 2 i w.0 in
      let witness = index_sequence set 2 (built_entry set 2 i) k in
      let touched = touched_in set (sequence_at set 2 i) in
      simp (
        length-append,
        line-length "drop=",
        line-length "for=",
        line-length "reads=",
        line-length "moves=",
      ) (omega (
        arith,
        sequence-length set.count few (sequence_at set 2 i) own.0 own.1,
        sequence-length set.count few (sequence_at set 2 (built_entry set 2 i)) witness.0 witness.1,
        positions-length touched.reads,
        positions-length touched.writes,
      ))

  -- there are sequences, and at most 993 of them
  entries_limits : (1 ≤ table_entries set 2) × (table_entries set 2 ≤ 993)
  unfolding table_entries
  entries_limits =
      (omega (arith, (sequence-index set 2 [] (omega arith) tt).1), count_prefix set.count 2 few (omega arith))

  -- the empty one is kept
  first-kept : built_entry set 2 0 ≡ kept
  first-kept =
      sym (built-entry set 2 0 (omega (arith, entries_limits.0)))
      ∙ ((accepted_iff set 2 (built_table set 2)).0 (built-accepted set 2)).0

  -- so at most 992 are marked
  pub marked_count : length (marked_indices set) ≤ 992
  unfolding marked_indices
  marked_count = go (table_entries set 2) entries_limits.0 entries_limits.1
    where
      go : (n : ℕ) → 1 ≤ n → n ≤ 993 → length (keep (λ i. not (eqb (built_entry set 2 i) kept)) (numbers_from 0 n)) ≤ 992
      go zero h k = absurd (omega arith)
      go (suc n) h k =
          rw (eq-eqb (built_entry set 2 0) kept first-kept)
          (omega (
            arith,
            keep-length (λ i. not (eqb (built_entry set 2 i) kept)) (numbers_from 1 n),
            length-numbers_from 1 n,
          ))

  -- the listing of a set
  pub listing_of-length : length (listing_of set) ≤ 110139
  unfolding listing_of
  listing_of-length =
      simp (length-append, line-length "reach=", line-length "rules=", line-length "marks=") (omega (
        arith,
        (numeral-length listed_reach).2 (omega arith),
        (numeral-length set.count).1 (omega arith),
        (numeral-length (length (marked_indices set))).0,
        flat-length (mark_lines set) 0 111 (marked_indices set)
            (λ k h. mark-length _ (in_get_d (marked_indices set) k 0 h)),
        marked_count,
      ))

-- ── Listings ─────────────────────────────────────────────────────────────────────────────────────

-- the listing of a set has its first line
listing_of_some : (set : RuleSet) → 1 ≤ length (listing_of set)
unfolding listing_of
listing_of_some set = simp (length-append, line-length "reach=") (omega arith)

-- a listing has at most 110,139 bytes, and at least one
pub listing_limits : (text : List ℕ) → (1 ≤ length (listing text)) × (length (listing text) ≤ 110139)
unfolding listing
listing_limits text = go (eqb (reading text).outcome 0) refl
  where
    go : (b : Bool) → eqb (reading text).outcome 0 ≡ b
        → (1 ≤ length (cond b (listing_of (reading text).set) (line "refused=" (numeral (reading text).outcome ∷ []))))
        × (length (cond b (listing_of (reading text).set)
        (line "refused=" (numeral (reading text).outcome ∷ []))) ≤ 110139)
    go true e =
        let valid = read-valid text (eqb-true (reading text).outcome 0 e) in
        (listing_of_some (reading text).set, listing_of-length (reading text).set valid.formed.count_limits.1)
    go false e =
        rw (line-length "refused=" (numeral (reading text).outcome ∷ []))
        (omega arith, omega (arith, (numeral-length (reading text).outcome).0))

-- a listing has at most 110,139 bytes
pub listing_bound : (text : List ℕ) → length (listing text) ≤ 110139
listing_bound text = (listing_limits text).1
