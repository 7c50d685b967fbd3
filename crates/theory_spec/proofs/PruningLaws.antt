-- Where every mark is justified, the cheapest plan within both bounds is not pruned (source document 000, Lemma 1 and
-- Theorem 2).
-- Assumes nothing.
use mathlib.Core.Path.{◌≡◌, refl, sym, ap, ◌∙◌, subst}
use mathlib.Core.Logic.{◌⊎◌, inl, inr, ◌≢◌}
use mathlib.Core.Bool.{Bool, true, false, false≢true}
use mathlib.Core.Option.{Option, some, none, some-injective}
use mathlib.Core.List.{[], ◌∷◌, ◌++◌, append_assoc}
use mathlib.Core.List.Memᴰ
use Prim.Native.Nat.{ℕ, ◌≤◌}
use native.Mathlib.Omega.{arith}
use lib.Dec.{leb}
use lib.ListN.{length}
use borrow.Author.Tests.{leb-true, le-leb}
use Rattle.theory_spec.specs.Lists.{◌∈◌, keep}
use Rattle.theory_spec.specs.Sequences.{Sequence, and_then, run, cost_of, Numbered, with_first, sequences}
use Rattle.theory_spec.specs.Order.{Before}
use Rattle.theory_spec.specs.Pruning.{prefixes, segments, pruned, Redundant}
use Rattle.theory_spec.specs.Plans.{ends_in, is_plan, candidates, cheapest, Preferred}
use Rattle.theory_spec.specs.How.Firsts.{Least}
use Rattle.theory_spec.specs.How.Pruning.{Closed, Justified}
use Rattle.theory_spec.proofs.ListLaws.{here, any_true, true-any, in-keep, of-keep, pairwise-keep, and_split}
use Rattle.theory_spec.proofs.ListLaws.{and_join}
use Rattle.theory_spec.proofs.SequenceLaws.{of-with_first, in-with_first, run_split, run_join, cost-append}
use Rattle.theory_spec.proofs.SequenceLaws.{numbered-append, numbered_left, numbered-right, of-sequences}
use Rattle.theory_spec.proofs.SequenceLaws.{in-sequences}
use Rattle.theory_spec.proofs.OrderLaws.{before-length, before_nested, sequences-ordered}
use Rattle.theory_spec.proofs.CheapestLaws.{preferred_of, none-preferred, cheapest-least}

-- ── Segments ─────────────────────────────────────────────────────────────────────────────────────

pub in-prefixes : (r : ℕ) (b y : Sequence) → (r ∷ b) ∈ prefixes (r ∷ (b ++ y))
in-prefixes r [] y = here (r ∷ []) (with_first (prefixes y) r)
in-prefixes r (p ∷ b) y = Memᴰ.tail (in-with_first r (in-prefixes p b y))

in-segments-cons : (x : Sequence) (r : ℕ) (b y : Sequence) → (r ∷ b) ∈ segments (x ++ (r ∷ b) ++ y)
in-segments-cons [] r b y = Memᴰ.append_left (segments (b ++ y)) (in-prefixes r b y)
in-segments-cons (p ∷ x) r b y = Memᴰ.append_right (prefixes (p ∷ (x ++ (r ∷ b) ++ y))) (in-segments-cons x r b y)

-- what stands within a sequence and is not empty is one of its segments
pub in-segments : (x b y : Sequence) → b ≢ [] → b ∈ segments (x ++ b ++ y)
in-segments x [] y h = absurd (h refl)
in-segments x (r ∷ b) y h = in-segments-cons x r b y

cons_not_empty : (r : ℕ) (q : Sequence) → (r ∷ q) ≢ []
cons_not_empty r q e = let z : ◌≡◌ {A = ℕ} 0 1 = cc in omega arith

pub of-prefixes : (q : Sequence) {b : Sequence} → b ∈ prefixes q → (b ≢ []) × ((y : Sequence) × (q ≡ b ++ y))
of-prefixes [] d = elim d [ ]
of-prefixes (r ∷ q) {b} (Memᴰ.head e) =
    subst (λ c. (c ≢ []) × ((y : Sequence) × ((r ∷ q) ≡ c ++ y))) (sym e) (cons_not_empty r [], (q, refl))
of-prefixes (r ∷ q) {b} (Memᴰ.tail d) =
    let w = of-with_first (prefixes q) r d in
    let ih = of-prefixes q w.1 in
    subst (λ c. (c ≢ []) × ((y : Sequence) × ((r ∷ q) ≡ c ++ y))) w.2
    (cons_not_empty r w.0, (ih.1.0, ap {B = Sequence} (λ v. r ∷ v) ih.1.1))

-- q has b as a segment
abbrev pub Within : Sequence → Sequence → Type 0
Within b q = (b ≢ []) × ((x : Sequence) × (y : Sequence) × (q ≡ x ++ b ++ y))

-- a segment stands within its sequence
pub of-segments : (q : Sequence) {b : Sequence} → b ∈ segments q → Within b q
of-segments [] d = elim d [ ]
of-segments (r ∷ q) {b} d = go (Memᴰ.append_cases (prefixes (r ∷ q)) d) (of-segments q)
  where
    go : (b ∈ prefixes (r ∷ q)) ⊎ (b ∈ segments q) → (b ∈ segments q → Within b q) → Within b (r ∷ q)
    go (inl d') ih = let w = of-prefixes (r ∷ q) d' in (w.0, ([], w.1.0, w.1.1))
    go (inr d') ih = let w = ih d' in (w.0, (r ∷ w.1.0, w.1.1, ap {B = Sequence} (λ v. r ∷ v) w.1.2))

-- ── Pruned sequences ─────────────────────────────────────────────────────────────────────────────

module _ (marked : Sequence → Bool) where
  -- the marked segment of a pruned sequence
  pub pruned-segment : (q : Sequence) → pruned marked q ≡ true → (b : Sequence) × (marked b ≡ true) × Within b q
  pruned-segment q h = let w = any_true marked (segments q) h in (w.0, w.2, of-segments q w.1)

  -- a sequence with a marked segment is pruned
  pub segment-pruned : (x b y : Sequence) → b ≢ [] → marked b ≡ true → pruned marked (x ++ b ++ y) ≡ true
  segment-pruned x b y h k = true-any marked (in-segments x b y h) k

  -- what holds a pruned sequence is pruned
  pub pruned_around : (x q y : Sequence) → pruned marked q ≡ true → pruned marked (x ++ q ++ y) ≡ true
  pruned_around x q y h =
      let w = pruned-segment q h in
      let u = w.2.1.0 in
      let v = w.2.1.1 in
      let e : (x ++ u ++ w.0 ++ (v ++ y)) ≡ (x ++ (u ++ w.0 ++ v) ++ y) = simp append_assoc in
      subst (λ p. pruned marked p ≡ true) (e ∙ ap (λ p. x ++ p ++ y) (sym w.2.1.2))
      (segment-pruned (x ++ u) w.0 (v ++ y) w.2.0 w.1)

-- ── Plans ────────────────────────────────────────────────────────────────────────────────────────

module _ {A : Type 0} (goal : A → Bool) where
  pub of-ends_in : (o : Option A) → ends_in goal o ≡ true → (t : A) × (o ≡ some t) × (goal t ≡ true)
  of-ends_in none h = absurd (false≢true h)
  of-ends_in (some t) h = (t, refl, h)

  pub in-ends_in : (o : Option A) (t : A) → o ≡ some t → goal t ≡ true → ends_in goal o ≡ true
  in-ends_in o t e h = ap (ends_in goal) e ∙ h

module _ {A : Type 0} (step : ℕ → A → Option A) (cost : ℕ → ℕ) (start : A) (goal : A → Bool) (max_cost : ℕ) where
  pub of-plan : (q : Sequence) → is_plan step cost start goal max_cost q ≡ true
      → (t : A) × (run step q start ≡ some t) × (goal t ≡ true) × (cost_of cost q ≤ max_cost)
  of-plan q h =
      let w = and_split (ends_in goal (run step q start)) (leb (cost_of cost q) max_cost) h in
      let u = of-ends_in goal (run step q start) w.0 in
      (u.0, u.1, u.2, leb-true (cost_of cost q) max_cost w.1)

  pub in-plan : (q : Sequence) (t : A) → run step q start ≡ some t → goal t ≡ true → cost_of cost q ≤ max_cost
      → is_plan step cost start goal max_cost q ≡ true
  in-plan q t e h k = and_join (in-ends_in goal (run step q start) t e h) (le-leb (cost_of cost q) max_cost k)

-- ── Lemma 1: a redundant segment may be replaced ─────────────────────────────────────────────────

module _ {A : Type 0} (step : ℕ → A → Option A) (m : ℕ) (Valid : A → Type 0) (closed : Closed step m Valid) where
  pub run-valid : (q : Sequence) (s t : A) → Numbered m q → Valid s → run step q s ≡ some t → Valid t
  run-valid [] s t h v e = subst Valid (some-injective s t e) v
  run-valid (r ∷ q) s t h v e =
      let w = run_split step (r ∷ []) q s t e in
      run-valid q w.0 t h.2 (closed r s w.0 h.0 h.1 v (one_step w.0 w.1)) w.2
    where
      one_step : (u : A) → run step (r ∷ []) s ≡ some u → step r s ≡ some u
      one_step u p = go (step r s) p
        where
          go : (o : Option A) → and_then o some ≡ some u → o ≡ some u
          go none p = p
          go (some u') p = p

  -- what is redundant stays so between the same rules
  pub redundant_around : (cost : ℕ → ℕ) (x a b y : Sequence) → Numbered m x → Redundant step cost Valid b a
      → Redundant step cost Valid (x ++ b ++ y) (x ++ a ++ y)
  redundant_around cost x a b y hx h = (simp (cost-append cost) (let c = h.0 in omega arith), ends)
    where
      ends : (s t : A) → Valid s → run step (x ++ b ++ y) s ≡ some t → run step (x ++ a ++ y) s ≡ some t
      ends s t v e =
          let w = run_split step (x ++ b) y s t e in
          let u = run_split step x b s w.0 w.1 in
          let k = h.1 u.0 w.0 (run-valid x s u.0 hx v u.1) u.2 in
          run_join step (x ++ a) y s t w.0 (run_join step x a s w.0 u.0 u.1 k) w.2

-- ── Theorem 2: the preferred sequence is not pruned ──────────────────────────────────────────────

module _ {A : Type 0} (step : ℕ → A → Option A) (cost : ℕ → ℕ) (m : ℕ) (Valid : A → Type 0)
    (closed : Closed step m Valid)
    (marked : Sequence → Bool) (justified : Justified step cost m Valid marked) where
  -- for a pruned sequence there is an earlier one that does the same at no more cost
  pub replacement : (p : Sequence) → Numbered m p → pruned marked p ≡ true
      → (q : Sequence) × Before q p × Numbered m q × Redundant step cost Valid p q
  replacement p n h =
      let w = pruned-segment marked p h in
      let b = w.0 in
      let x = w.2.1.0 in
      let y = w.2.1.1 in
      let j = justified b w.1 in
      let a = j.0 in
      let n' = subst (Numbered m) w.2.1.2 n in
      let nx = numbered_left m x b (numbered_left m (x ++ b) y n') in
      let ny = numbered-right m (x ++ b) y n' in
      subst (λ p'. (q : Sequence) × Before q p' × Numbered m q × Redundant step cost Valid p' q) (sym w.2.1.2) (
        x ++ a ++ y,
        before_nested x a b y j.1,
        numbered-append m (x ++ a) y (numbered-append m x a nx j.2) ny,
        redundant_around step m Valid closed cost x a b y nx j.3,
      )

  -- what is preferred to its replacements is not pruned
  not-pruned : (p : Sequence) → Numbered m p
      → ((q : Sequence) → length q ≤ length p → Numbered m q → Redundant step cost Valid p q → (q ≡ p)
      ⊎ Preferred cost p q) → pruned marked p ≡ false
  not-pruned p n h = go (pruned marked p) refl
    where
      go : (b : Bool) → pruned marked p ≡ b → b ≡ false
      go false e = refl
      go true e =
          let w = replacement p n e in
          absurd (none-preferred cost p w.0 (preferred_of cost w.0 p w.3.0 w.1)
          (h w.0 (before-length w.0 p w.1) w.2 w.3))

  -- Theorem 2 with both bounds: the cheapest plan is not pruned
  pub cheapest_not-pruned : (start : A) (goal : A → Bool) (max_moves max_cost : ℕ) (p : Sequence) → Valid start
      → cheapest cost (candidates step cost m start goal max_moves max_cost) ≡ some p → pruned marked p ≡ false
  cheapest_not-pruned start goal max_moves max_cost p v e = not-pruned p inside.1 rival
    where
      plan? : Sequence → Bool
      plan? = is_plan step cost start goal max_cost

      least : Least cost (keep plan? (sequences m max_moves)) p
      least =
          cheapest-least cost (keep plan? (sequences m max_moves))
          (pairwise-keep Before plan? (sequences m max_moves) (sequences-ordered m max_moves)) p e

      listed : (p ∈ sequences m max_moves) × (plan? p ≡ true)
      listed = of-keep plan? (sequences m max_moves) least.0

      inside : (length p ≤ max_moves) × Numbered m p
      inside = of-sequences m max_moves listed.0

      -- a replacement of p is a plan too
      plan : (q : Sequence) → Redundant step cost Valid p q → plan? q ≡ true
      plan q r =
          let w = of-plan step cost start goal max_cost p listed.1 in
          let c = r.0 in
          in-plan step cost start goal max_cost q w.0 (r.1 start w.0 v w.1) w.2 (omega arith)

      rival : (q : Sequence) → length q ≤ length p → Numbered m q → Redundant step cost Valid p q → (q ≡ p)
          ⊎ Preferred cost p q
      rival q l n r =
          least.1 q (in-keep plan? (in-sequences m max_moves q (let k = inside.0 in omega arith) n) (plan q r))
