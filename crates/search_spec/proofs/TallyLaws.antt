-- What the update of a tally means: each query adds 1 to just one of the first four counts, that of its outcome, unless
-- that one is at its top, and its steps to their sum.
-- Assumes nothing.
use mathlib.Core.Path.{◌≡◌, refl, ap, ◌∙◌}
use mathlib.Core.Logic.{◌⊎◌, inl, inr, ◌≢◌}
use mathlib.Core.List.{List}
use Prim.Native.Nat.{ℕ, ◌<◌}
use native.Mathlib.Omega.{arith}
use lib.Dec.{lit<}
use lib.ListN.{get_or, set as replace}
use lib.Seq.{get_or-set_same, get_or-set_other}
use borrow.Author.Tests.{ne_eqb}
use Rattle.theory_spec.proofs.TestLaws.{equal?}
use Rattle.search_spec.specs.Tallies.{raised, tallied_of, counts, count_at, count_place, OneRaised, TallyMeaning}
use Rattle.search_spec.specs.declared.Tally.{Tally}

module _ (tally : Tally) (outcome steps : ℕ) where
  -- the counts with one of them raised by 1
  abbrev raised_at : ℕ → List ℕ
  raised_at i = replace (counts tally) i (raised (count_at tally i) 1)

  -- the outcome's count is raised
  abbrev Updated : Tally → Type 0
  Updated after = (i : ℕ) × (i < 4) × (i ≡ count_place outcome) × (counts after ≡ raised_at i)

  updated : Updated (tallied_of tally outcome steps)
  unfolding tallied_of
  updated = go (equal? outcome 0) (equal? outcome 15) (equal? outcome 16) (equal? outcome 18)
    where
      go : (outcome ≡ 0) ⊎ (outcome ≢ 0) → (outcome ≡ 15) ⊎ (outcome ≢ 15) → (outcome ≡ 16) ⊎ (outcome ≢ 16)
          → (outcome ≡ 18) ⊎ (outcome ≢ 18) → Updated (tallied_of tally outcome steps)
      go (inl e) _ _ _ = rw e (0, lit< tt, refl, refl)
      go (inr _) (inl e) _ _ = rw e (1, lit< tt, refl, refl)
      go (inr _) (inr _) (inl e) _ = rw e (2, lit< tt, refl, refl)
      go (inr _) (inr _) (inr _) (inl e) = rw e (2, lit< tt, refl, refl)
      go (inr k) (inr l) (inr m) (inr n) =
          rw (ne_eqb outcome 0 k, ne_eqb outcome 15 l, ne_eqb outcome 16 m, ne_eqb outcome 18 n)
          (3, lit< tt, refl, refl)

  -- one count is raised by one, or stays at its top, and the others stay as they were
  pub one-raised : OneRaised tally (tallied_of tally outcome steps)
  one-raised =
      let i = updated.0 in
      let bound : i < 4 = updated.1 in
      let own : count_at (tallied_of tally outcome steps) i ≡ raised (count_at tally i) 1 = at i
      ∙ get_or-set_same (counts tally) i (raised (count_at tally i) 1) 0 (omega arith) in
      record {
        place = i;
        first_four = bound;
        one_more = λ k. omega arith;
        at_top = λ k. omega arith;
        others_stay = λ j k n. at j ∙ get_or-set_other (counts tally) i j (raised (count_at tally i) 1) 0 n;
      }
    where
      at : (j : ℕ) → count_at (tallied_of tally outcome steps) j ≡ get_or (raised_at updated.0) j 0
      at j = ap (λ l. get_or l j 0) updated.3

  -- the tally after a query has its meaning, for every tally, outcome and number of steps
  pub tally_meaning : TallyMeaning outcome steps tally (tallied_of tally outcome steps)
  unfolding tallied_of one-raised
  tally_meaning =
      record {
        one_raised = one-raised;
        of_outcome = updated.2;
        steps_added = λ h. omega arith;
        steps_at_top = λ h. omega arith;
      }
