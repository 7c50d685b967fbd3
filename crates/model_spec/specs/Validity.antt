-- Validity of a rule set (document 01: soundness), by limits and places alone. A place that is not used holds 0
-- throughout. The limits are outcome 2's, the places outcome 3's, duplicates outcome 4's.
use Rattle.std.specs.Prelude.{◌≡◌, Bool, not, cond, ◌&&◌, ◌||◌, List, ℕ, ◌-◌, ◌≤◌, ◌<◌, leb, ltb, eqb, length, get_or}
use Rattle.std.specs.Prelude.{replicate}
use Rattle.theory_spec.specs.Lists.{any, every, numbers_from, within, same}
use Rattle.model_spec.specs.Limits.{max_positions, place_count, max_size, max_rules, max_rule_cost, first_variable}
use Rattle.model_spec.specs.States.{places, is_constant, width, many_valued, ManyValued}
use Rattle.model_spec.specs.Rules.{no_rule, blank_rule}
use Rattle.model_spec.specs.declared.Rule.{Rule}
use Rattle.model_spec.specs.declared.RuleSet.{RuleSet}

-- ── Entries ──────────────────────────────────────────────────────────────────────────────────────

-- the place of a variable's position
abbrev pub variable_place : ℕ → ℕ
variable_place e = e - first_variable

-- an entry at place i is within its limit: a constant below the size there, or the variable of one of the positions
unfoldable pub entry_limited : ℕ → List ℕ → ℕ → ℕ → Bool
entry_limited positions sizes i e =
    cond (is_constant e) (ltb e (width positions sizes i)) (ltb (variable_place e) positions)

-- a variable `xj` at place i of a condition is in place: two values or more there (document 02, request 2026-05), equal
-- sizes, j at most i, and `xj` itself at j
unfoldable pub condition_placed : ℕ → List ℕ → List ℕ → ℕ → ℕ → Bool
condition_placed positions sizes condition i e =
    is_constant e
    || (many_valued positions sizes i
    && (eqb (width positions sizes (variable_place e)) (width positions sizes i)
    && (leb (variable_place e) i && eqb (get_or condition (variable_place e) 0) e)))

-- a variable `xj` at place i of an effect is in place: two values or more there, equal sizes, and `xj` at j of the
-- condition
unfoldable pub effect_placed : ℕ → List ℕ → List ℕ → ℕ → ℕ → Bool
effect_placed positions sizes condition i e =
    is_constant e
    || (many_valued positions sizes i
    && (eqb (width positions sizes (variable_place e)) (width positions sizes i)
    && eqb (get_or condition (variable_place e) 0) e))

-- ── The parts of a set ───────────────────────────────────────────────────────────────────────────

-- every entry of a condition is within its limit and in place
unfoldable pub condition_valid : ℕ → List ℕ → List ℕ → Bool
condition_valid positions sizes condition =
    eqb (length condition) place_count
    && every (λ i.
    entry_limited positions sizes i (get_or condition i 0)
    && condition_placed positions sizes condition i (get_or condition i 0)) places

-- every entry of an effect, after its condition
unfoldable pub effect_valid : ℕ → List ℕ → List ℕ → List ℕ → Bool
effect_valid positions sizes condition effect =
    eqb (length effect) place_count
    && every (λ i.
    entry_limited positions sizes i (get_or effect i 0)
    && effect_placed positions sizes condition i (get_or effect i 0)) places

-- the size at place i: 1 to 16 for a position, 0 beyond
unfoldable pub size_valid : ℕ → List ℕ → ℕ → Bool
size_valid positions sizes i = cond (ltb i positions) (within 1 max_size (get_or sizes i 0)) (eqb (get_or sizes i 0) 0)

-- every size
unfoldable pub sizes_valid : ℕ → List ℕ → Bool
sizes_valid positions sizes = eqb (length sizes) place_count && every (size_valid positions sizes) places

-- a rule of the set: its cost from 0 to 255, and both its lines
unfoldable pub rule_valid : ℕ → List ℕ → Rule → Bool
rule_valid positions sizes rule =
    leb rule.cost max_rule_cost
    && (condition_valid positions sizes rule.condition
    && effect_valid positions sizes rule.condition rule.effect)

-- an unused rule is zero throughout
unfoldable pub rule_blank : Rule → Bool
rule_blank rule =
    eqb rule.cost 0
    && (same rule.condition (replicate place_count 0) && same rule.effect (replicate place_count 0))

-- the rule at place k: valid where it is used, blank beyond
unfoldable pub rule_valid_at : RuleSet → ℕ → Bool
rule_valid_at set k =
    cond (ltb k set.count)
    (rule_valid set.positions set.sizes (get_or set.rules k no_rule))
    (rule_blank (get_or set.rules k no_rule))

-- every rule
unfoldable pub rules_valid : RuleSet → Bool
rules_valid set = eqb (length set.rules) max_rules && every (rule_valid_at set) (numbers_from 0 max_rules)

-- two rules are duplicates (document 01: twins): equal conditions, equal effects, and (document 02, request 2026-02)
-- equal costs too
unfoldable pub duplicate : Rule → Rule → Bool
duplicate a b =
    eqb a.cost b.cost
    && (same a.condition b.condition && same a.effect b.effect)

-- the rule at place k is a duplicate of an earlier one
unfoldable pub repeated : List Rule → ℕ → Bool
repeated rules k = any (λ j. duplicate (get_or rules j no_rule) (get_or rules k no_rule)) (numbers_from 0 k)

-- some of the first n rules are duplicates
unfoldable pub has_duplicates : List Rule → ℕ → Bool
has_duplicates rules n = any (repeated rules) (numbers_from 0 n)

-- ── Sets ─────────────────────────────────────────────────────────────────────────────────────────

-- valid but for duplicates: 1 to 16 positions, 1 to 31 rules, all sizes and rules valid
unfoldable pub well_formed : RuleSet → Bool
well_formed set =
    within 1 max_positions set.positions
    && (sizes_valid set.positions set.sizes
    && (within 1 max_rules set.count && rules_valid set))

-- the set is valid (document 01: sound)
unfoldable pub valid : RuleSet → Bool
valid set = well_formed set && not (has_duplicates set.rules set.count)

-- ── The same as statements ───────────────────────────────────────────────────────────────────────

-- an entry e at place i; a variable stands only where there are two values or more, and has to stand at its own place
-- of the condition
pub record EntryValid (positions : ℕ) (sizes condition : List ℕ) (i e : ℕ) : Type 0 where
  pub constant : e < first_variable → e < width positions sizes i
  pub position : first_variable ≤ e → e - first_variable < positions
  pub several : first_variable ≤ e → ManyValued positions sizes i
  pub equal_sizes : first_variable ≤ e → width positions sizes (e - first_variable) ≡ width positions sizes i
  pub itself : first_variable ≤ e → get_or condition (e - first_variable) 0 ≡ e

-- the two lines of a rule, and of a macro
pub record LinesValid (positions : ℕ) (sizes condition effect : List ℕ) : Type 0 where
  pub condition_length : length condition ≡ place_count
  pub effect_length : length effect ≡ place_count
  pub condition_entries : (i : ℕ) → i < place_count → EntryValid positions sizes condition i (get_or condition i 0)
  pub not_later : (i : ℕ) → i < place_count → first_variable ≤ get_or condition i 0
      → get_or condition i 0 - first_variable ≤ i
  pub effect_entries : (i : ℕ) → i < place_count → EntryValid positions sizes condition i (get_or effect i 0)

-- the set is valid but for duplicates
pub record WellFormed (set : RuleSet) : Type 0 where
  pub position_limits : (1 ≤ set.positions) × (set.positions ≤ max_positions)
  pub sizes_length : length set.sizes ≡ place_count
  pub size_limits : (i : ℕ) → i < set.positions → (1 ≤ get_or set.sizes i 0) × (get_or set.sizes i 0 ≤ max_size)
  pub sizes_beyond : (i : ℕ) → set.positions ≤ i → get_or set.sizes i 0 ≡ 0
  pub count_limits : (1 ≤ set.count) × (set.count ≤ max_rules)
  pub rules_length : length set.rules ≡ max_rules
  pub cost_limits : (k : ℕ) → k < set.count → (get_or set.rules k no_rule).cost ≤ max_rule_cost
  pub lines : (k : ℕ) → k < set.count
      → (let rule = get_or set.rules k no_rule in
      LinesValid set.positions set.sizes rule.condition rule.effect)
  pub rules_beyond : (k : ℕ) → set.count ≤ k → k < max_rules → get_or set.rules k no_rule ≡ blank_rule

-- two rules have the same lines (document 02: they do the same shunt): equal conditions and equal effects, at any costs
abbrev pub SameLines : Rule → Rule → Type 0
SameLines a b = (a.condition ≡ b.condition) × (a.effect ≡ b.effect)

-- two rules are duplicates (documents 01 and 02: twins)
abbrev pub Duplicate : Rule → Rule → Type 0
Duplicate a b = (a.cost ≡ b.cost) × SameLines a b

-- the set is valid (document 01: sound)
pub record Valid (set : RuleSet) : Type 0 where
  pub formed : WellFormed set
  pub no_duplicates : (j k : ℕ) → j < k → k < set.count
      → Duplicate (get_or set.rules j no_rule) (get_or set.rules k no_rule) → ⊥
