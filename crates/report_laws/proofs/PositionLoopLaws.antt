-- The turns of the loop that writes the positions of a set to the front of an array: those from place k on remain.
-- Assumes nothing.
use mathlib.Core.Path.{◌≡◌, sym, ap, ◌∙◌}
use mathlib.Core.Logic.{◌≢◌}
use mathlib.Core.List.{List, [], ◌∷◌, ◌++◌, append-nil, append_assoc}
use Prim.Native.Nat.{ℕ, ◌+◌, ◌-◌, ◌/◌, ◌%◌, ◌^◌, ◌≤◌, ◌<◌}
use native.Mathlib.Numerals.{add-one}
use native.Mathlib.Omega.{arith}
use lib.ListN.{length, take, set}
use lib.Seq.{take-suc-set, append_snoc}
use borrow.Author.Tests.{eq-eqb, ne_eqb}
use Rattle.theory_spec.specs.Lists.{keep_if, keep, numbers_from}
use Rattle.theory_spec.specs.Sets.{has}
use Rattle.model_spec.proofs.LoopLaws.{rules_left}
use Rattle.files_spec.specs.Text.{line_feed, numeral, comma_list}
use Rattle.output_laws.specs.How.Overlay.{list_text}
use Rattle.report_spec.specs.Listing.{positions_of, position_items}

module _ (members : ℕ) where
  -- the positions of the set from place k on
  abbrev positions_from : ℕ → List ℕ
  positions_from k = keep (λ n. has members (n - 1)) (numbers_from (k + 1) (16 - k))

  -- those that are written and those that remain are all
  abbrev pub Written : ℕ → ℕ → List ℕ → Type 0
  Written k count numbers = take count numbers ++ positions_from k ≡ positions_of members

  module _ (k count : ℕ) (numbers : List ℕ) (written : Written k count numbers) where
    module _ (h : k < 16) where
      -- the position at place k comes first if it is a member
      first : positions_from k ≡ keep_if (has members k) (k + 1) (positions_from (k + 1))
      first =
          let e : k + 1 - 1 ≡ k = omega arith in
          ap (keep (λ n. has members (n - 1))) (rules_left k 16 h)
          ∙ ap (λ i. keep_if (has members i) (k + 1) (positions_from (k + 1))) e

      -- a member is written behind the others
      pub position-written : members / 2 ^ k % 2 ≡ 1 → count < length numbers
          → Written (k + 1) (count + 1) (set numbers count (k + 1))
      unfolding has
      position-written t room =
          rw (add-one count, take-suc-set numbers count (k + 1) room)
          (append_snoc (take count numbers) (k + 1) (positions_from (k + 1))
          ∙ ap (λ l. take count numbers ++ l) (sym (first ∙ rw (eq-eqb (members / 2 ^ k % 2) 1 t)))
          ∙ written)

      -- another position is passed over
      pub position-passed : members / 2 ^ k % 2 ≢ 1 → Written (k + 1) count numbers
      unfolding has
      position-passed t =
          ap (λ l. take count numbers ++ l) (sym (first ∙ rw (ne_eqb (members / 2 ^ k % 2) 1 t))) ∙ written

    -- in the end all are written: the line
    pub positions-line : 16 ≤ k → (key : List ℕ)
        → key ++ list_text numeral count numbers ≡ key ++ comma_list (position_items members) ++ (line_feed ∷ [])
    unfolding list_text
    positions-line h key =
        let none : 16 - k ≡ 0 = omega arith in
        let all = sym (append-nil (take count numbers)) ∙ (rw none at written) in
        rw all (sym (append_assoc key (comma_list (position_items members)) (line_feed ∷ [])))
