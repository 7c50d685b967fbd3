-- The form of a rule's lines and of a macro's, as equations: a condition leaves itself as it is, and an effect's
-- entries are read in the condition as they are.
-- Assumes nothing.
use mathlib.Core.Path.{◌≡◌}
use mathlib.Core.List.{List}
use Prim.Native.Nat.{ℕ, ◌+◌, ◌-◌, ◌≤◌, ◌<◌}
use lib.ListN.{length, get_or}
use Rattle.model_spec.specs.States.{values_of, width}

-- an entry may stand at a place of n values: a constant below n, or, where there are two values or more, the variable
-- of a position with as many
pub record Fits (positions : ℕ) (sizes : List ℕ) (n e : ℕ) : Type 0 where
  pub constant : e < 16 → e < n
  pub position : 16 ≤ e → e - 16 < positions
  pub equal_sizes : 16 ≤ e → width positions sizes (e - 16) ≡ n
  pub several : 16 ≤ e → 2 ≤ n

-- every entry of a vector fits; beyond its end it reads 0
abbrev pub Fitting : ℕ → List ℕ → List ℕ → Type 0
Fitting positions sizes v = (i : ℕ) → Fits positions sizes (width positions sizes i) (get_or v i 0)

-- a condition and an effect in canonical form
pub record Canonical (positions : ℕ) (sizes condition effect : List ℕ) : Type 0 where
  pub condition_length : length condition ≡ 16
  pub effect_length : length effect ≡ 16
  pub keeps_itself : values_of condition condition ≡ condition
  pub not_later : (i : ℕ) → get_or condition i 0 ≤ 16 + i
  pub keeps_effect : values_of effect condition ≡ effect
  pub condition_fits : Fitting positions sizes condition
  pub effect_fits : Fitting positions sizes effect
