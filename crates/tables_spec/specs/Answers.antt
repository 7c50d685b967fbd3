-- What the builder and the check (document 01: the judge) answer, what the builder leaves in the table, and how long a
-- table is.
use Rattle.std.specs.Prelude.{◌≡◌, ◌↔◌, ◌≢◌, not, cond, List, [], ◌∷◌, ◌++◌, ℕ, ◌*◌, ◌≤◌, ◌<◌, eqb, length, replicate}
use Rattle.theory_spec.specs.Lists.{within}
use Rattle.theory_spec.specs.Sequences.{Sequence}
use Rattle.model_spec.specs.Refusals.{Cause, first_refusal}
use Rattle.model_spec.specs.Validity.{valid, Valid}
use Rattle.model_spec.specs.declared.RuleSet.{RuleSet}
use Rattle.tables_spec.specs.declared.TableSize.{TableSize}
use Rattle.tables_spec.specs.Table.{table_entries, kept, entry_at, built_table, accepted}
use Rattle.tables_spec.specs.Table.{Marked, Prunable, LeastWitness, Accepted}

-- ── Once the set is judged ───────────────────────────────────────────────────────────────────────

-- the cause for which a table has no length: the reach is not 1 to 3
abbrev pub reach_causes : ℕ → List Cause
reach_causes reach = (5, not (within 1 3 reach)) ∷ []

-- the causes that all calls on a table share, for a table of `size` bytes: this, and that the table's length is not
-- 2 × S
abbrev pub shape_causes : RuleSet → ℕ → ℕ → List Cause
shape_causes set reach size = reach_causes reach ++ ((6, not (eqb size (2 * table_entries set reach))) ∷ [])

-- the check's causes: these, and last that the table is not accepted
abbrev pub mark_causes : RuleSet → ℕ → List ℕ → List Cause
mark_causes set reach table = shape_causes set reach (length table) ++ ((14, not (accepted set reach table)) ∷ [])

-- how long a table is, with an outcome: 2 × S bytes, 0 when refused
abbrev pub size_with : RuleSet → ℕ → ℕ → TableSize
size_with set reach outcome =
    record { outcome = outcome; length = cond (eqb outcome 0) (2 * table_entries set reach) 0 }

-- the table after the builder, with an outcome: the built table, or zeros when refused
abbrev pub built_with : RuleSet → ℕ → ℕ → ℕ → List ℕ
built_with set reach size outcome = cond (eqb outcome 0) (built_table set reach) (replicate size 0)

-- ── For any set: first, that it is not valid ─────────────────────────────────────────────────────

abbrev pub size_causes : RuleSet → ℕ → List Cause
size_causes set reach = (7, not (valid set)) ∷ reach_causes reach

-- how long a table is
unfoldable pub table_size : RuleSet → ℕ → TableSize
table_size set reach = size_with set reach (first_refusal (size_causes set reach))

unfoldable pub table_causes : RuleSet → ℕ → ℕ → List Cause
table_causes set reach size = (7, not (valid set)) ∷ shape_causes set reach size

-- the builder's outcome
unfoldable pub build_outcome : RuleSet → ℕ → ℕ → ℕ
build_outcome set reach size = first_refusal (table_causes set reach size)

-- the table after the builder
unfoldable pub built_buffer : RuleSet → ℕ → ℕ → List ℕ
built_buffer set reach size = built_with set reach size (build_outcome set reach size)

unfoldable pub check_causes : RuleSet → ℕ → List ℕ → List Cause
check_causes set reach table = (7, not (valid set)) ∷ mark_causes set reach table

-- the check's outcome
unfoldable pub check_outcome : RuleSet → ℕ → List ℕ → ℕ
check_outcome set reach table = first_refusal (check_causes set reach table)

-- ── What the answers mean, over all states and sequences ─────────────────────────────────────────

-- the reach is 1 to 3
abbrev pub ReachLimits : ℕ → Type 0
ReachLimits reach = (1 ≤ reach) × (reach ≤ 3)

-- what is judged before a table's content: the set is valid, the reach is 1 to 3, and the table has 2 × S bytes
abbrev pub Ready : RuleSet → ℕ → ℕ → Type 0
Ready set reach size = Valid set × (ReachLimits reach × (size ≡ 2 * table_entries set reach))

-- what is told of a table's length: each number exactly if its cause holds and none before it does, 0 exactly if none
-- holds; and the length, which a refusal does not show
pub record SizeMeaning (set : RuleSet) (reach : ℕ) (answer : TableSize) : Type 0 where
  pub not_valid : (answer.outcome ≡ 7) ↔ (Valid set → ⊥)
  pub bad_reach : (answer.outcome ≡ 5) ↔ (Valid set × (ReachLimits reach → ⊥))
  pub sized : (answer.outcome ≡ 0) ↔ (Valid set × ReachLimits reach)
  pub bytes : answer.outcome ≡ 0 → answer.length ≡ 2 * table_entries set reach
  pub bounded : answer.length ≤ 61568
  pub refused : answer.outcome ≢ 0 → answer.length ≡ 0

-- what a build tells and leaves: each number exactly if its cause holds and none before it does, 0 exactly if none
-- holds; the marks are exactly those of prunable sequences, each names the smallest index that will do; and a refusal
-- leaves zeros
pub record BuildMeaning (set : RuleSet) (reach size outcome : ℕ) (table : List ℕ) : Type 0 where
  pub not_valid : (outcome ≡ 7) ↔ (Valid set → ⊥)
  pub bad_reach : (outcome ≡ 5) ↔ (Valid set × (ReachLimits reach → ⊥))
  pub bad_length : (outcome ≡ 6) ↔ (Valid set × (ReachLimits reach × (size ≢ 2 * table_entries set reach)))
  pub built : (outcome ≡ 0) ↔ Ready set reach size
  pub marks : outcome ≡ 0 → (q : Sequence) → Marked set reach table q ↔ Prunable set reach q
  pub least : outcome ≡ 0 → (i : ℕ) → i < table_entries set reach → entry_at table i ≢ kept
      → LeastWitness set reach i (entry_at table i)
  pub zeros : outcome ≢ 0 → table ≡ replicate size 0

-- what a check tells: each number exactly if its cause holds and none before it does, 0 exactly if none holds
pub record CheckMeaning (set : RuleSet) (reach : ℕ) (table : List ℕ) (outcome : ℕ) : Type 0 where
  pub not_valid : (outcome ≡ 7) ↔ (Valid set → ⊥)
  pub bad_reach : (outcome ≡ 5) ↔ (Valid set × (ReachLimits reach → ⊥))
  pub bad_length : (outcome ≡ 6) ↔ (Valid set × (ReachLimits reach × (length table ≢ 2 * table_entries set reach)))
  pub not_accepted : (outcome ≡ 14) ↔ (Ready set reach (length table) × (Accepted set reach table → ⊥))
  pub accepts : (outcome ≡ 0) ↔ (Ready set reach (length table) × Accepted set reach table)
