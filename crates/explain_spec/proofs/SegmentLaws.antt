-- Laws of the segment that passes a test, ends soonest and is the shortest there: there is one exactly if some segment
-- passes.
-- Assumes nothing.
use mathlib.Core.Path.{◌≡◌, refl, sym, ap, subst, ◌∙◌}
use mathlib.Core.Logic.{◌↔◌, ◌≢◌, ⊎_elim}
use mathlib.Core.Bool.{Bool, true}
use mathlib.Core.List.{[], ◌∷◌, ◌++◌, append_assoc}
use Prim.Native.Nat.{ℕ, ◌+◌, ◌-◌, ◌≤◌}
use native.Mathlib.Omega.{arith}
use lib.ListN.{length, take, drop, take-append-drop, length-drop, length-append}
use lib.Seq.{length-take-le, drop-drop, take-append_seam, drop-append_seam}
use Rattle.theory_spec.specs.Lists.{any, numbers_from, first_that}
use Rattle.theory_spec.specs.Sequences.{Sequence}
use Rattle.theory_spec.proofs.ListLaws.{never_true, not-both, any_true, true-any, of-numbers_from, in-numbers_from}
use Rattle.theory_spec.proofs.TestLaws.{below?, equal?, FirstPasses, first_that_lem, first_none_iff, first_that_iff}
use Rattle.explain_spec.specs.Segments.{segment_of, shortest_at, soonest_end, soonest_length}

-- ── Segments by their last move and their length ─────────────────────────────────────────────────

module _ (q : Sequence) where
  -- what stands before a segment, the segment, and what stands behind it
  pub segment-splits : (e n : ℕ) → n ≤ e → q ≡ take (e - n) q ++ segment_of q e n ++ drop e q
  segment-splits e n h =
      let rest = drop (e - n) q in
      let at : e - n + n ≡ e = omega arith in
      sym (take-append-drop (e - n) q)
      ∙ ap (λ r. take (e - n) q ++ r)
      (sym (take-append-drop n rest) ∙ ap (λ s. take n rest ++ s) (drop-drop n (e - n) q ∙ ap (λ k. drop k q) at))
      ∙ sym (append_assoc (take (e - n) q) (segment_of q e n) (drop e q))

  pub segment-length : (e n : ℕ) → n ≤ e → e ≤ length q → length (segment_of q e n) ≡ n
  segment-length e n h k = length-take-le n (drop (e - n) q) (omega (arith, length-drop (e - n) q))

  pub front_length : (e n : ℕ) → n ≤ e → e ≤ length q → length (take (e - n) q) ≡ e - n
  front_length e n h k = length-take-le (e - n) q (omega arith)

  -- a segment that stands there is the one of its last move and its length
  pub segment_of_lem : (x b y : Sequence) → q ≡ x ++ b ++ y → segment_of q (length (x ++ b)) (length b) ≡ b
  segment_of_lem x b y e =
      let at : length (x ++ b) - length b ≡ length x = omega (arith, length-append x b) in
      ap (λ k. take (length b) (drop k q)) at
      ∙ ap (λ p. take (length b) (drop (length x) p)) (e ∙ append_assoc x b y)
      ∙ ap (take (length b)) (drop-append_seam x (b ++ y))
      ∙ take-append_seam b y

  end-inside : (x b y : Sequence) → q ≡ x ++ b ++ y → length (x ++ b) ≤ length q
  end-inside x b y e = omega (arith, ap length e, length-append (x ++ b) y)

some-length : (b : Sequence) → (b ≡ [] → ⊥) → 1 ≤ length b
some-length [] h = absurd (h refl)
some-length (r ∷ b) h = omega arith

no_nothing : (b : Sequence) → 1 ≤ length b → b ≡ [] → ⊥
no_nothing b h e = omega (arith, ap length e)

-- ── The first end, and the shortest segment there ────────────────────────────────────────────────

module _ (test : Sequence → Bool) (q : Sequence) where
  -- the n moves that end with move e pass
  abbrev pub passes_at : ℕ → ℕ → Bool
  passes_at e n = test (segment_of q e n)

  -- some segment that ends with move e passes
  abbrev pub ends_at : ℕ → Bool
  ends_at e = any (passes_at e) (numbers_from 1 e)

  ends_of : (e : ℕ) → ends_at e ≡ true → (n : ℕ) × (1 ≤ n) × (n ≤ e) × (passes_at e n ≡ true)
  ends_of e h =
      let w = any_true (passes_at e) (numbers_from 1 e) h in
      let b = of-numbers_from 1 e w.1 in
      let high = b.1 in
      (w.0, b.0, omega arith, w.2)

  ends_at_lem : (e n : ℕ) → 1 ≤ n → n ≤ e → passes_at e n ≡ true → ends_at e ≡ true
  ends_at_lem e n l h m = true-any (passes_at e) (in-numbers_from 1 e n l (omega arith)) m

  -- a segment that passes makes its last move an end
  passes-end : (x b y : Sequence) → q ≡ x ++ b ++ y → (b ≡ [] → ⊥) → test b ≡ true
      → (1 ≤ length b) × (length b ≤ length (x ++ b)) × (passes_at (length (x ++ b)) (length b) ≡ true)
  passes-end x b y e h m =
      (some-length b h, omega (arith, length-append x b), ap test (segment_of_lem q x b y e) ∙ m)

  -- there is no end exactly if no segment passes
  pub no-end_iff : (soonest_end test q ≡ 0)
      ↔ ((x b y : Sequence) → q ≡ x ++ b ++ y → (b ≡ [] → ⊥) → test b ≡ true → ⊥)
  unfolding soonest_end
  no-end_iff =
      let i = first_none_iff ends_at 1 (length q) (omega arith) in (
        λ z x b y e h m.
            let w = passes-end x b y e h m in
            not-both (ends_at_lem (length (x ++ b)) (length b) w.0 w.1 w.2)
            (i.0 z (length (x ++ b)) (omega (arith, w.0, w.1)) (omega (arith, end-inside q x b y e))),
        λ u. i.1 (λ e a c. never_true (ends_at e) (λ t.
            let w = ends_of e t in
            let low = w.1 in
            u (take (e - w.0) q) (segment_of q e w.0) (drop e q) (segment-splits q e w.0 w.2)
            (no_nothing _ (omega (arith, segment-length q e w.0 w.2 (omega arith)))) w.3)),
      )

  module _ (there : soonest_end test q ≢ 0) where
    abbrev end : ℕ
    end = soonest_end test q

    abbrev many : ℕ
    many = soonest_length test q

    end-first : FirstPasses ends_at 1 (length q) end
    unfolding soonest_end
    end-first = (first_that_iff ends_at 1 (length q) end (omega arith)).0 (refl, there)

    length-first : FirstPasses (passes_at end) 1 end many
    unfolding soonest_length shortest_at
    length-first =
        ⊎_elim
        (λ w. let v = ends_of end end-first.2 in not-both v.3 (w.1 v.0 v.1 (omega (arith, v.2))))
        (λ w. w)
        (first_that_lem (passes_at end) 1 end)

    -- the limits of both
    pub end_limits : (1 ≤ end) × (end ≤ length q) × (1 ≤ many) × (many ≤ end)
    end_limits =
        let u = end-first in
        let v = length-first in
        (u.0, omega (arith, u.1), v.0, omega (arith, v.1))

    -- every segment that passes ends no sooner, and one that ends there is no shorter
    pub soonest : (x b y : Sequence) → q ≡ x ++ b ++ y → (b ≡ [] → ⊥) → test b ≡ true
        → (end ≤ length (x ++ b)) × (end ≡ length (x ++ b) → many ≤ length b)
    soonest x b y e h m =
        let w = passes-end x b y e h m in
        let at = ends_at_lem (length (x ++ b)) (length b) w.0 w.1 w.2 in (
          ⊎_elim
              (λ k. not-both at (end-first.3 (length (x ++ b)) (omega (arith, w.0, w.1)) k))
              (λ k. k)
              (below? (length (x ++ b)) end),
          λ s. ⊎_elim
              (λ k. not-both (subst (λ j. passes_at j (length b) ≡ true) (sym s) w.2)
              (length-first.3 (length b) w.0 k))
              (λ k. k)
              (below? (length b) many),
        )

    -- the segment itself passes
    pub segment_passes : test (segment_of q end many) ≡ true
    segment_passes = length-first.2

  -- the limits of both, of any sequence
  pub segment_limits : (soonest_length test q ≤ soonest_end test q) × (soonest_end test q ≤ length q)
  unfolding soonest_length shortest_at
  segment_limits =
      ⊎_elim
      (λ z. (
        omega (arith, z, ap (λ e. first_that (λ n. test (segment_of q e n)) (numbers_from 1 e)) z),
        omega (arith, z),
      ))
      (λ n. let w = end_limits n in (w.3, w.1))
      (equal? (soonest_end test q) 0)
