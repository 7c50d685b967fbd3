-- What tables make of two rules with the same lines (document 02, request 2026-02: the same shunt, other cost).
use Rattle.std.specs.Prelude.{◌≡◌, ◌↔◌, ◌≢◌, List, [], ◌∷◌, ℕ, ◌≤◌, ◌<◌}
use Rattle.model_spec.specs.Rules.{rule_at, rule_cost}
use Rattle.model_spec.specs.Validity.{SameLines}
use Rattle.model_spec.specs.declared.RuleSet.{RuleSet}
use Rattle.tables_spec.specs.Table.{sequence_at, entry_at, built_table, Marked, Prunable, MarkJustified, Accepted}

-- rule b stands after rule a and has the same lines
abbrev pub SameLinesLater : RuleSet → ℕ → ℕ → Type 0
SameLinesLater set a b = (1 ≤ a) × (a < b) × (b ≤ set.count) × SameLines (rule_at set a) (rule_at set b)

-- of at most 31 rules at a reach of 1 to 3 (`same-lines-marks`). A rule's number is the index of its sequence of one
-- rule. If the later of two rules with the same lines costs no less, it is prunable (document 01: needless) as a
-- sequence of one rule: the built table marks it, with the earlier one or with a smaller index that will do. A mark of
-- it with the earlier one is justified exactly then. If it costs less, no accepted table marks one of the two with the
-- other; another witness may serve, as the empty sequence for a rule that is idle
pub record SameLinesMarks (set : RuleSet) (reach : ℕ) : Type 0 where
  pub index : (r : ℕ) → 1 ≤ r → r ≤ set.count → sequence_at set reach r ≡ r ∷ []
  pub prunable : (a b : ℕ) → SameLinesLater set a b → rule_cost set a ≤ rule_cost set b → Prunable set reach (b ∷ [])
  pub marked : (a b : ℕ) → SameLinesLater set a b → rule_cost set a ≤ rule_cost set b
      → Marked set reach (built_table set reach) (b ∷ [])
  pub witness : (a b : ℕ) → SameLinesLater set a b → rule_cost set a ≤ rule_cost set b
      → entry_at (built_table set reach) b ≤ a
  pub justified : (a b : ℕ) → SameLinesLater set a b → (table : List ℕ) → entry_at table b ≡ a
      → MarkJustified set reach table b ↔ (rule_cost set a ≤ rule_cost set b)
  pub cheaper_later : (a b : ℕ) → SameLinesLater set a b → rule_cost set b < rule_cost set a
      → (table : List ℕ) → Accepted set reach table → (entry_at table b ≢ a) × (entry_at table a ≢ b)
