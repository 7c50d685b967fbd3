-- The form of a rule's lines, place by place, is the canonical form.
-- Assumes nothing.
use mathlib.Core.Path.{◌≡◌, sym, ◌∙◌}
use mathlib.Core.Logic.{◌↔◌, ⊎_elim}
use mathlib.Core.List.{List}
use Prim.Native.Nat.{ℕ, ◌+◌, ◌-◌, ◌≤◌, ◌<◌}
use native.Mathlib.Omega.{arith}
use lib.ListN.{length, get_or, get_or-eq_default}
use lib.Seq.{ext_get_or}
use Rattle.theory_spec.proofs.TestLaws.{below?}
use Rattle.model_spec.specs.States.{value_of, values_of, width}
use Rattle.model_spec.specs.Validity.{EntryValid, LinesValid}
use Rattle.model_spec.proofs.StateLaws.{width_beyond, value-constant, value-variable, values_at, values_length}
use Rattle.macros_spec.proofs.VectorLaws.{value_at}
use Rattle.macros_spec.proofs.CanonicalForm.{Fits, Fitting, Canonical}

module _ (positions : ℕ) (sizes condition : List ℕ) (few : positions ≤ 16) where
  -- a valid entry is read in the condition as it is
  entry_kept : (i e : ℕ) → EntryValid positions sizes condition i e → value_of e condition ≡ e
  entry_kept i e v =
      ⊎_elim (value-constant e condition) (λ h. let k = v.position h in value-variable e condition h (omega arith)
      ∙ v.itself h) (below? e 16)

  -- an entry that fits and is read in the condition as it is, is valid
  entries-valid : (line : List ℕ) → Fitting positions sizes line → values_of line condition ≡ line → (i : ℕ) → i < 16
      → EntryValid positions sizes condition i (get_or line i 0)
  entries-valid line f k i h = record {
    constant = (f i).constant;
    position = (f i).position;
    several = (f i).several;
    equal_sizes = (f i).equal_sizes;
    itself = λ b.
        let p = (f i).position b in
        sym (value-variable (get_or line i 0) condition b (omega arith)) ∙ value_at line condition line i k;
  }

  module _ (line : List ℕ) (long : length line ≡ 16) where
    line_kept : ((i : ℕ) → i < 16 → EntryValid positions sizes condition i (get_or line i 0))
        → values_of line condition ≡ line
    line_kept v =
        let n = values_length line condition in
        ext_get_or 0 (values_of line condition) line n
        (λ i h. values_at line condition i ∙ entry_kept i (get_or line i 0) (v i (omega arith)))

    -- beyond the sixteen places a line reads 0, the one value there
    line-fits : ((i : ℕ) → i < 16 → EntryValid positions sizes condition i (get_or line i 0))
        → Fitting positions sizes line
    line-fits v i = ⊎_elim inside beyond (below? i 16)
      where
        inside : i < 16 → Fits positions sizes (width positions sizes i) (get_or line i 0)
        inside h = record {
          constant = (v i h).constant;
          position = (v i h).position;
          equal_sizes = (v i h).equal_sizes;
          several = (v i h).several;
        }

        beyond : 16 ≤ i → Fits positions sizes (width positions sizes i) (get_or line i 0)
        beyond h =
            let reads = get_or-eq_default line 0 {n = i} (omega arith) in
            record {
              constant = λ _. omega (arith, width_beyond positions sizes i (omega arith));
              position = λ k. absurd (omega arith);
              equal_sizes = λ k. absurd (omega arith);
              several = λ k. absurd (omega arith);
            }

-- a variable is not later than its place
not-later : (condition : List ℕ) → length condition ≡ 16
    → ((i : ℕ) → i < 16 → 16 ≤ get_or condition i 0 → get_or condition i 0 - 16 ≤ i) → (i : ℕ) → get_or condition i 0 ≤ 16 + i
not-later condition long h i =
    ⊎_elim (λ k. ⊎_elim (λ c. omega arith) (λ c. omega (arith, h i k c)) (below? (get_or condition i 0) 16))
    (λ k. omega (arith, get_or-eq_default condition 0 {n = i} (omega arith))) (below? i 16)

pub canonical_iff : (positions : ℕ) (sizes condition effect : List ℕ) → positions ≤ 16
    → LinesValid positions sizes condition effect ↔ Canonical positions sizes condition effect
canonical_iff positions sizes condition effect few = (
  λ v. record {
    condition_length = v.condition_length;
    effect_length = v.effect_length;
    keeps_itself = line_kept positions sizes condition few condition v.condition_length v.condition_entries;
    not_later = not-later condition v.condition_length v.not_later;
    keeps_effect = line_kept positions sizes condition few effect v.effect_length v.effect_entries;
    condition_fits = line-fits positions sizes condition few condition v.condition_length v.condition_entries;
    effect_fits = line-fits positions sizes condition few effect v.effect_length v.effect_entries;
  },
  λ c. record {
    condition_length = c.condition_length;
    effect_length = c.effect_length;
    condition_entries = entries-valid positions sizes condition few condition c.condition_fits c.keeps_itself;
    not_later = λ i _ _. omega (arith, c.not_later i);
    effect_entries = entries-valid positions sizes condition few effect c.effect_fits c.keeps_effect;
  },
)
