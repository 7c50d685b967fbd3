-- How long a table is: which outcome each cause in turn has, and what it means; a build with a table of that length,
-- and of no other, is not refused.
-- Assumes nothing.
use mathlib.Core.Path.{◌≡◌, refl, sym, ◌∙◌}
use mathlib.Core.Logic.{◌↔◌, ◌≢◌}
use mathlib.Core.Bool.{Bool, true, false, not, cond}
use mathlib.Core.List.{[], ◌∷◌}
use Prim.Native.Nat.{ℕ, ◌*◌, ◌≤◌}
use native.Mathlib.Omega.{arith}
use lib.Dec.{eqb}
use Rattle.theory_spec.specs.Lists.{within}
use Rattle.theory_spec.proofs.ListLaws.{not-both, never_true}
use Rattle.theory_spec.proofs.TestLaws.{within_iff}
use Rattle.model_spec.specs.Refusals.{first_refusal}
use Rattle.model_spec.specs.Validity.{valid, Valid}
use Rattle.model_spec.specs.declared.RuleSet.{RuleSet}
use Rattle.model_spec.proofs.ValidityLaws.{valid_iff}
use Rattle.tables_spec.specs.declared.TableSize.{TableSize}
use Rattle.tables_spec.specs.Table.{table_entries}
use Rattle.tables_spec.specs.Answers.{reach_causes, size_with, table_size, build_outcome, ReachLimits, SizeMeaning}
use Rattle.tables_spec.proofs.CountLaws.{count_bound}
use Rattle.tables_spec.proofs.AnswerLaws.{build_ready_iff}

module _ (set : RuleSet) (reach : ℕ) where
  -- an answer, and what it is the answer to
  data Sized : TableSize → Type 0 where
    invalid : (Valid set → ⊥) → Sized (record { outcome = 7; length = 0 })
    unreached : Valid set → (ReachLimits reach → ⊥) → Sized (record { outcome = 5; length = 0 })
    given : Valid set → ReachLimits reach → Sized (record { outcome = 0; length = 2 * table_entries set reach })

  size-answered : Sized (table_size set reach)
  unfolding table_size
  size-answered = go (valid set) refl (within 1 3 reach) refl
    where
      go : (v : Bool) → valid set ≡ v → (r : Bool) → within 1 3 reach ≡ r
          → (let outcome = first_refusal ((7, not v) ∷ (5, not r) ∷ []) in
          Sized (record { outcome = outcome; length = cond (eqb outcome 0) (2 * table_entries set reach) 0 }))
      go false e r _ = invalid (λ v. not-both ((valid_iff set).1 v) e)
      go true e false k = unreached ((valid_iff set).0 e) (λ h. not-both ((within_iff 1 3 reach).1 h) k)
      go true e true k = given ((valid_iff set).0 e) ((within_iff 1 3 reach).0 k)

  -- once the set is judged, the reach decides
  pub size-judged : valid set ≡ true → table_size set reach ≡ size_with set reach (first_refusal (reach_causes reach))
  unfolding table_size
  size-judged v = rw v

  pub reach-refused : (ReachLimits reach → ⊥) → first_refusal (reach_causes reach) ≡ 5
  reach-refused n = rw (never_true (within 1 3 reach) (λ t. n ((within_iff 1 3 reach).0 t)))

  pub reach-passed : ReachLimits reach → first_refusal (reach_causes reach) ≡ 0
  reach-passed h = rw ((within_iff 1 3 reach).1 h)

  -- at most 61,568 bytes
  bytes_bound : Valid set → ReachLimits reach → 2 * table_entries set reach ≤ 61568
  unfolding table_entries
  bytes_bound v r = omega (arith, count_bound set.count reach v.formed.count_limits.1 r.1)

  -- the size of a table has its meaning, for every set and reach
  pub size_meaning : SizeMeaning set reach (table_size set reach)
  size_meaning = go size-answered
    where
      go : {a : TableSize} → Sized a → SizeMeaning set reach a
      go (invalid n) = record {
        not_valid = (λ _. n, λ _. refl);
        bad_reach = (λ e. absurd (omega arith), λ w. absurd (n w.0));
        sized = (λ e. absurd (omega arith), λ w. absurd (n w.0));
        bytes = λ e. absurd (omega arith);
        bounded = omega arith;
        refused = λ _. refl;
      }
      go (unreached v n) = record {
        not_valid = (λ e. absurd (omega arith), λ h. absurd (h v));
        bad_reach = (λ _. (v, n), λ _. refl);
        sized = (λ e. absurd (omega arith), λ w. absurd (n w.1));
        bytes = λ e. absurd (omega arith);
        bounded = omega arith;
        refused = λ _. refl;
      }
      go (given v r) = record {
        not_valid = (λ e. absurd (omega arith), λ h. absurd (h v));
        bad_reach = (λ e. absurd (omega arith), λ w. absurd (w.1 r));
        sized = (λ _. (v, r), λ _. refl);
        bytes = λ _. refl;
        bounded = bytes_bound v r;
        refused = λ h. absurd (h refl);
      }

  -- a refusal
  pub size-refused : (n : ℕ) → n ≢ 0 → (table_size set reach).outcome ≡ n
      → table_size set reach ≡ record { outcome = n; length = 0 }
  size-refused n h e = let z = size_meaning.refused (λ k. h (sym e ∙ k)) in λ i. record { outcome = e i; length = z i }

  -- a build is not refused exactly if the table has the length that is told
  pub size_builds_iff : (size : ℕ) → (build_outcome set reach size ≡ 0)
      ↔ (((table_size set reach).outcome ≡ 0) × (size ≡ (table_size set reach).length))
  size_builds_iff size =
      let m = size_meaning in
      let b = build_ready_iff set reach size in (
        λ e. let w = b.0 e in let z = m.sized.1 (w.0, w.1.0) in (z, omega (arith, w.1.1, m.bytes z)),
        λ w. let v = m.sized.0 w.0 in b.1 (v.0, (v.1, w.1 ∙ m.bytes w.0)),
      )
