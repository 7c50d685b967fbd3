-- The turns of the loops over a proposal's segments: an index with one move more, the lengths at an end, and the ends.
-- Assumes nothing.
use mathlib.Core.Path.{◌≡◌, refl, ap, ◌∙◌}
use mathlib.Core.Logic.{◌≢◌, ⊎_elim}
use mathlib.Core.Bool.{Bool, true, false, not}
use mathlib.Core.List.{List}
use Prim.Native.Nat.{ℕ, zero, suc, ◌+◌, ◌*◌, ◌≤◌, ◌<◌, min}
use native.Mathlib.Nat.{mul-le-mul}
use native.Mathlib.Numerals.{add-one}
use native.Mathlib.Omega.{arith}
use lib.Dec.{eqb}
use Rattle.std.specs.Prelude.{Option, Some, None}
use Rattle.explain_laws.specs.declared.Segment.{Segment}
use lib.ListN.{length, get_or, take}
use lib.Seq.{take-suc}
use borrow.Author.Tests.{lt-leb, le-leb}
use Rattle.theory_spec.specs.Lists.{numbers_from}
use Rattle.theory_spec.specs.Sequences.{Sequence}
use Rattle.theory_spec.specs.How.Indices.{index_of}
use Rattle.theory_spec.proofs.ListLaws.{never_true, not-both, any_true, true-any, of-numbers_from, in-numbers_from}
use Rattle.theory_spec.proofs.TestLaws.{first_that_lem, first_none_iff}
use Rattle.theory_spec.proofs.IndexLaws.{index_snoc}
use Rattle.tables_spec.specs.Table.{kept, entry_at}
use Rattle.explain_spec.specs.Segments.{segment_of, shortest_at, soonest_end, soonest_length}
use Rattle.explain_spec.proofs.SegmentLaws.{segment-length, ends_at}
use Rattle.explain_laws.specs.How.LookedUp.{looked_up, segment_if}
use Rattle.explain_laws.specs.How.Proposals.{place_if}
use Rattle.explain_laws.proofs.PlaceLaws.{segment_found, no_segment, place_is, no_place}
use Rattle.explain_laws.proofs.ProposalLoopLaws.{first_from, from-start, from_go, from_stop, from-end, from_none}

-- ── Indices ──────────────────────────────────────────────────────────────────────────────────────

-- one rule more
pub index_more : (m : ℕ) (q : Sequence) (i : ℕ) → i < length q
    → index_of m (take (i + 1) q) ≡ index_of m (take i q) * m + get_or q i 0
index_more m q i h =
    ap (λ n. index_of m (take n q)) (add-one i)
    ∙ ap (index_of m) (take-suc q i 0 h)
    ∙ index_snoc m 0 (take i q) (get_or q i 0)

-- the largest index of i bytes among those of 255 rules
pub index_limit : ℕ → ℕ
index_limit zero = 0
index_limit (suc i) = index_limit i * 255 + 255

pub limit-start : 0 ≤ index_limit 0
limit-start = omega arith

pub limit_more : (m number index i : ℕ) → m ≤ 255 → number ≤ 255 → index ≤ index_limit i
    → index * m + number ≤ index_limit (i + 1)
unfolding index_limit
limit_more m number index i h k l =
    let product : index * m ≤ index_limit i * 255 = mul-le-mul {n₂ = index_limit i} l h in
    rw (add-one i) (omega arith)

-- before the third it is small
pub limit_small : (m index i : ℕ) → m ≤ 255 → i < 3 → index ≤ index_limit i → index * m ≤ 65280 * 255
unfolding index_limit
limit_small m index i h k l = mul-le-mul {n₂ = 65280} (small i k l) h
  where
    small : (j : ℕ) → j < 3 → index ≤ index_limit j → index ≤ 65280
    small zero a b = omega arith
    small (suc zero) a b = omega arith
    small (suc (suc zero)) a b = omega arith
    small (suc (suc (suc j))) a b = absurd (omega arith)

-- ── Marks looked up ──────────────────────────────────────────────────────────────────────────────

module _ (m reach : ℕ) (table : List ℕ) (b : Sequence) where
  -- a sequence longer than the reach does not pass
  pub long_fails : min reach 3 < length b → looked_up m reach table b ≡ false
  unfolding looked_up
  long_fails h = rw (lt-leb (length b) (min reach 3) h) refl

  -- any other passes if its entry does
  pub short_passes : length b ≤ min reach 3
      → looked_up m reach table b ≡ not (eqb (entry_at table (index_of m b)) kept)
  unfolding looked_up
  short_passes h = rw (le-leb (length b) (min reach 3) h) refl

-- ── The lengths at an end ────────────────────────────────────────────────────────────────────────

module _ (m reach : ℕ) (table : List ℕ) (q : Sequence) where
  abbrev marks : Sequence → Bool
  marks = looked_up m reach table

  module _ (e : ℕ) (there : e ≤ length q) where
    abbrev at : ℕ → Bool
    at n = marks (segment_of q e n)

    pub shortest-start : first_from at e 1 ≡ shortest_at marks q e
    unfolding shortest_at
    shortest-start = from-start at e

    -- behind the reach, or the front of the sequence, nothing is left
    pub shortest-end : (n : ℕ) → 1 ≤ n → min (min reach 3) e < n → first_from at e n ≡ shortest_at marks q e
        → 0 ≡ shortest_at marks q e
    shortest-end n one h inv =
        from_none at e n _ inv one (λ k a b.
        long_fails m reach table (segment_of q e k) (omega (arith, segment-length q e k b there)))

  -- ── The ends ───────────────────────────────────────────────────────────────────────────────────

  -- a segment ends with a move exactly if there is a shortest one
  some_ends : (e : ℕ) → shortest_at marks q e ≢ 0 → ends_at marks q e ≡ true
  unfolding shortest_at
  some_ends e h =
      ⊎_elim (λ w. absurd (h w.0)) (λ w. true-any _ (in-numbers_from 1 e _ w.0 w.1) w.2)
      (first_that_lem (λ n. marks (segment_of q e n)) 1 e)

  none_ends : (e : ℕ) → shortest_at marks q e ≡ 0 → ends_at marks q e ≡ false
  unfolding shortest_at
  none_ends e z =
      never_true (ends_at marks q e) (λ t.
      let w = any_true (λ n. marks (segment_of q e n)) (numbers_from 1 e) t in
      let b = of-numbers_from 1 e w.1 in
      not-both w.2 ((first_none_iff (λ n. marks (segment_of q e n)) 1 e (omega arith)).0 z w.0 b.0 b.1))

  pub ends-start : first_from (ends_at marks q) (length q) 1 ≡ soonest_end marks q
  unfolding soonest_end
  ends-start = from-start (ends_at marks q) (length q)

  abbrev sought : Option Segment
  sought = segment_if (soonest_end marks q) (soonest_length marks q)

  module _ (e : ℕ) (inv : first_from (ends_at marks q) (length q) e ≡ soonest_end marks q) where
    pub ends_go : e ≤ length q → None ≡ place_if (shortest_at marks q e)
        → first_from (ends_at marks q) (length q) (e + 1) ≡ soonest_end marks q
    ends_go h z = from_go (ends_at marks q) (length q) e _ inv h (none_ends e (no_place _ z))

    -- the first end, and the shortest segment there
    pub ends_stop : 1 ≤ e → e ≤ length q → (n : ℕ) → Some n ≡ place_if (shortest_at marks q e)
        → Some (record { end = e; length = n }) ≡ sought
    unfolding soonest_length
    ends_stop one h n is =
        let place = place_is (shortest_at marks q e) n is in
        let end = from_stop (ends_at marks q) (length q) e _ inv h (some_ends e place.1) in
        segment_found e n _ _ (λ z. omega (arith, z, end)) end (place.0 ∙ ap (shortest_at marks q) end)

    pub ends-end : length q < e → None ≡ sought
    ends-end h = no_segment _ _ (from-end (ends_at marks q) (length q) e _ inv h)
