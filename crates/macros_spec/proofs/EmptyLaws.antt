-- The empty sequence's vectors: each position's variable in its own place, 0 where there is a single value. In every
-- state they stand for that state, and they are canonical where each place has a value.
-- Assumes nothing.
use mathlib.Core.Path.{◌≡◌, refl, sym, ap, ◌∙◌}
use mathlib.Core.Logic.{⊎_elim}
use mathlib.Core.Bool.{cond}
use mathlib.Core.List.{List}
use Prim.Native.Nat.{ℕ, ◌+◌, ◌≤◌, ◌<◌}
use native.Mathlib.Omega.{arith}
use lib.ListN.{length, get_or, get_or-eq_default}
use lib.Seq.{ext_get_or}
use borrow.Author.Tests.{lt-ltb, le-ltb}
use Rattle.theory_spec.proofs.TestLaws.{below?}
use Rattle.model_spec.specs.States.{State, value_of, values_of, width, many_valued, ManyValued, IsState}
use Rattle.model_spec.proofs.StateLaws.{at_places, width_beyond, value-constant, value-variable, values_at}
use Rattle.model_spec.proofs.StateLaws.{values_length}
use Rattle.macros_spec.specs.Composition.{own_variables}
use Rattle.macros_spec.proofs.CanonicalForm.{Fitting, Canonical}

module _ (positions : ℕ) (sizes : List ℕ) (few : positions ≤ 16) where
  abbrev own : List ℕ
  own = own_variables positions sizes

  own-length : length own ≡ 16
  unfolding own_variables
  own-length = refl

  own_at : (i : ℕ) → i < 16 → get_or own i 0 ≡ cond (many_valued positions sizes i) (16 + i) 0
  unfolding own_variables
  own_at = at_places (λ i. cond (many_valued positions sizes i) (16 + i) 0)

  -- a place with two values or more is a position's
  many-position : (i : ℕ) → ManyValued positions sizes i → i < positions
  many-position i many =
      ⊎_elim (λ h. h) (λ h. absurd (omega (arith, many, width_beyond positions sizes i h))) (below? i positions)

  pub own-many : (i : ℕ) → ManyValued positions sizes i → get_or (own_variables positions sizes) i 0 ≡ 16 + i
  own-many i many = own_at i (omega (arith, many-position i many)) ∙ rw (lt-ltb 1 (width positions sizes i) many)

  pub own_single : (i : ℕ) → width positions sizes i < 2 → get_or (own_variables positions sizes) i 0 ≡ 0
  own_single i h =
      ⊎_elim (λ q. own_at i q ∙ rw (le-ltb 1 (width positions sizes i) (omega arith)))
      (λ q. get_or-eq_default own 0 {n = i} (omega (arith, own-length))) (below? i 16)

  -- a vector with 0 wherever there is a single value is read as it is
  own-kept : (s : List ℕ) → length s ≡ 16 → ((i : ℕ) → width positions sizes i < 2 → get_or s i 0 ≡ 0)
      → values_of own s ≡ s
  own-kept s n z =
      ext_get_or 0 (values_of own s) s (values_length own s ∙ own-length ∙ sym n)
      (λ i h.
      values_at own s i
      ∙ ⊎_elim (λ q. ap (λ e. value_of e s) (own_single i q) ∙ value-constant 0 s (omega arith) ∙ sym (z i q))
      (λ q. let p = many-position i q in
      ap (λ e. value_of e s) (own-many i q) ∙ value-variable (16 + i) s (omega arith) (omega arith)
      ∙ ap (λ j. get_or s j 0) (omega arith))
      (below? (width positions sizes i) 2))

  pub own-state : (s : State) → IsState positions sizes s → values_of (own_variables positions sizes) s ≡ s
  own-state s d =
      own-kept s d.0
      (λ i p. ⊎_elim (λ k. omega (arith, d.1 i k, p)) (λ k. get_or-eq_default s 0 {n = i} (omega arith))
      (below? i 16))

  module _ (some-value : (i : ℕ) → 1 ≤ width positions sizes i) where
    own-fits : Fitting positions sizes own
    own-fits i =
        ⊎_elim
        (λ q.
        rw (own_single i q)
        (record {
          constant = λ h. some-value i;
          position = λ h. absurd (omega arith);
          equal_sizes = λ h. absurd (omega arith);
          several = λ h. absurd (omega arith);
        }))
        (λ q.
        rw (own-many i q)
        (record {
          constant = λ h. absurd (omega arith);
          position = λ h. omega (arith, many-position i q);
          equal_sizes =
              λ h. ap (width positions sizes) (omega arith);
          several = λ h. q;
        }))
        (below? (width positions sizes i) 2)

    pub own_canonical : Canonical positions sizes (own_variables positions sizes) (own_variables positions sizes)
    own_canonical =
        let kept = own-kept own own-length own_single in
        record {
          condition_length = own-length;
          effect_length = own-length;
          keeps_itself = kept;
          not_later =
              λ i. ⊎_elim (λ q. omega (arith, own_single i q)) (λ q. omega (arith, own-many i q))
              (below? (width positions sizes i) 2);
          keeps_effect = kept;
          condition_fits = own-fits;
          effect_fits = own-fits;
        }
