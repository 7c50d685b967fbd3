-- What the laws of pruning ask of a transition system and of the marks. No promise of a call needs this file: a rule
-- set's states are closed under its rules (`valid_closed`), and the marks of an accepted table are justified
-- (`accepted-justified`).
use Rattle.std.specs.Prelude.{◌≡◌, Bool, true, ℕ, ◌≤◌}
use Rattle.std.proofs.Math.Option.{Option, some}
use Rattle.theory_spec.specs.Sequences.{Sequence, Numbered}
use Rattle.theory_spec.specs.Order.{Before}
use Rattle.theory_spec.specs.Pruning.{Redundant}

-- the valid states are closed under the rules
abbrev pub Closed : {A : Type 0} → (ℕ → A → Option A) → ℕ → (A → Type 0) → Type 0
Closed {A} step m Valid = (r : ℕ) (s t : A) → 1 ≤ r → r ≤ m → Valid s → step r s ≡ some t → Valid t

-- each marked sequence is redundant with an earlier one, its witness
abbrev pub Justified : {A : Type 0} → (ℕ → A → Option A) → (ℕ → ℕ) → ℕ → (A → Type 0) → (Sequence → Bool) → Type 0
Justified step cost m Valid marked =
    (b : Sequence) → marked b ≡ true
    → (a : Sequence) × Before a b × Numbered m a × Redundant step cost Valid b a
