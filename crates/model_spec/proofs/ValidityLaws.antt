-- Laws of validity: the test passes exactly if the set is valid, part by part; what may stand where there is a single
-- value; and what a valid set gives: widths, a state, steps that keep to states, and costs.
-- Assumes nothing.
use mathlib.Core.Path.{◌≡◌, refl, sym, ap, ◌∙◌, subst}
use mathlib.Core.Logic.{◌⊎◌, ◌↔◌, ⊎_elim}
use mathlib.Core.Bool.{Bool, true, false, ◌&&◌, false≢true}
use mathlib.Core.Option.{Option, some, some-injective, none-ne-some}
use mathlib.Core.List.{List, [], ◌∷◌}
use Prim.Native.Nat.{ℕ, ◌-◌, ◌*◌, ◌≤◌, ◌<◌}
use native.Mathlib.Omega.{arith}
use lib.ListN.{length, get_or, replicate, get_or-replicate, get_or-eq_default}
use Rattle.theory_spec.specs.Lists.{only_if}
use Rattle.theory_spec.specs.Sequences.{Sequence, Numbered}
use Rattle.theory_spec.specs.How.Pruning.{Closed}
use Rattle.theory_spec.proofs.ListLaws.{never_true}
use Rattle.theory_spec.proofs.TestLaws.{below?, leb_iff, ltb_iff, eqb_iff, same_iff, not_iff, and_iff, within_iff}
use Rattle.theory_spec.proofs.TestLaws.{cond_iff, or_iff, every-below_iff, any-below_iff}
use Rattle.model_spec.specs.States.{State, value_of, applicable, successor, width, ManyValued, IsState}
use Rattle.model_spec.specs.Rules.{no_rule, blank_rule, empty_set, rule_at, step_of, rule_cost, StateOf, sequence_cost}
use Rattle.model_spec.specs.Validity.{entry_limited, condition_placed, effect_placed, condition_valid, effect_valid}
use Rattle.model_spec.specs.Validity.{size_valid, sizes_valid, rule_valid, rule_blank, rule_valid_at, rules_valid}
use Rattle.model_spec.specs.Validity.{duplicate, repeated, has_duplicates, well_formed, valid, EntryValid}
use Rattle.model_spec.specs.Validity.{LinesValid, WellFormed, Duplicate, Valid}
use Rattle.model_spec.specs.declared.Rule.{Rule}
use Rattle.model_spec.specs.declared.RuleSet.{RuleSet}
use Rattle.model_spec.proofs.StateLaws.{width-position, width_beyond, value-constant, value-variable}
use Rattle.model_spec.proofs.StateLaws.{successor_at, successor-length}

-- ── The lines of a rule ──────────────────────────────────────────────────────────────────────────

module _ (positions : ℕ) (sizes : List ℕ) where
  limited_iff : (i e : ℕ) → (entry_limited positions sizes i e ≡ true)
      ↔ ((e < 16 → e < width positions sizes i) × (16 ≤ e → e - 16 < positions))
  unfolding entry_limited
  limited_iff i e = cond_iff e 16 _ _ (ltb_iff e (width positions sizes i)) (ltb_iff (e - 16) positions)

  -- a variable is in place in an effect
  effect_placed_iff : (condition : List ℕ) (i e : ℕ) → (effect_placed positions sizes condition i e ≡ true)
      ↔ (16 ≤ e → ManyValued positions sizes i
      × ((width positions sizes (e - 16) ≡ width positions sizes i) × (get_or condition (e - 16) 0 ≡ e)))
  unfolding effect_placed
  effect_placed_iff condition i e =
      or_iff e 16 _ (and_iff _ _ (ltb_iff _ _)
      (and_iff _ _ (eqb_iff (width positions sizes (e - 16)) (width positions sizes i))
      (eqb_iff (get_or condition (e - 16) 0) e)))

  -- and in a condition
  pub condition_placed_iff : (condition : List ℕ) (i e : ℕ) → (condition_placed positions sizes condition i e ≡ true)
      ↔ (16 ≤ e → ManyValued positions sizes i
      × ((width positions sizes (e - 16) ≡ width positions sizes i)
      × ((e - 16 ≤ i) × (get_or condition (e - 16) 0 ≡ e))))
  unfolding condition_placed
  condition_placed_iff condition i e =
      or_iff e 16 _ (and_iff _ _ (ltb_iff _ _)
      (and_iff _ _ (eqb_iff (width positions sizes (e - 16)) (width positions sizes i))
      (and_iff _ _ (leb_iff (e - 16) i) (eqb_iff (get_or condition (e - 16) 0) e))))

  -- an entry of an effect
  pub effect-entry_iff : (condition : List ℕ) (i e : ℕ)
      → ((entry_limited positions sizes i e && effect_placed positions sizes condition i e) ≡ true)
      ↔ EntryValid positions sizes condition i e
  effect-entry_iff condition i e =
      let tests = and_iff _ _ (limited_iff i e) (effect_placed_iff condition i e) in (
        λ t. let w =
            tests.0 t in record {
              constant = w.0.0;
              position = w.0.1;
              several = λ h. (w.1 h).0;
              equal_sizes = λ h. (w.1 h).1.0;
              itself =
                  λ h. (w.1 h).1.1;
            },
        λ v. tests.1 ((v.constant, v.position), λ h. (v.several h, (v.equal_sizes h, v.itself h))),
      )

  -- an entry of a condition
  pub condition-entry_iff : (condition : List ℕ) (i e : ℕ)
      → ((entry_limited positions sizes i e && condition_placed positions sizes condition i e) ≡ true)
      ↔ (EntryValid positions sizes condition i e × (16 ≤ e → e - 16 ≤ i))
  condition-entry_iff condition i e =
      let tests = and_iff _ _ (limited_iff i e) (condition_placed_iff condition i e) in (
        λ t. let w =
            tests.0 t in (
              record {
                constant = w.0.0;
                position = w.0.1;
                several = λ h. (w.1 h).0;
                equal_sizes = λ h. (w.1 h).1.0;
                itself =
                    λ h. (w.1 h).1.1.1;
              },
              λ h. (w.1 h).1.1.0,
            ),
        λ v. tests.1 (
          (v.0.constant, v.0.position),
          λ h. (v.0.several h, (v.0.equal_sizes h, (v.1 h, v.0.itself h))),
        ),
      )

  -- every entry of a condition
  pub condition_iff : (condition : List ℕ)
      → (condition_valid positions sizes condition ≡ true)
      ↔ ((length condition ≡ 16) × ((i : ℕ) → i < 16 → EntryValid positions sizes condition i (get_or condition i 0)
      × (16 ≤ get_or condition i 0 → get_or condition i 0 - 16 ≤ i)))
  unfolding condition_valid
  condition_iff condition =
      and_iff _ _ (eqb_iff (length condition) 16)
      (every-below_iff _ _ (λ i. condition-entry_iff condition i (get_or condition i 0)) 16)

  -- every entry of an effect
  pub effect_iff : (condition effect : List ℕ)
      → (effect_valid positions sizes condition effect ≡ true)
      ↔ ((length effect ≡ 16) × ((i : ℕ) → i < 16 → EntryValid positions sizes condition i (get_or effect i 0)))
  unfolding effect_valid
  effect_iff condition effect =
      and_iff _ _ (eqb_iff (length effect) 16) (every-below_iff _ _
      (λ i. effect-entry_iff condition i (get_or effect i 0)) 16)

  pub lines_iff : (condition effect : List ℕ)
      → ((condition_valid positions sizes condition && effect_valid positions sizes condition effect) ≡ true)
      ↔ LinesValid positions sizes condition effect
  lines_iff condition effect =
      let tests = and_iff _ _ (condition_iff condition) (effect_iff condition effect) in (
        λ t. let w =
            tests.0 t in record {
              condition_length = w.0.0;
              effect_length = w.1.0;
              condition_entries =
                  λ i h. (w.0.1 i h).0;
              not_later = λ i h. (w.0.1 i h).1;
              effect_entries = w.1.1;
            },
        λ v. tests.1 (
          (v.condition_length, λ i h. (v.condition_entries i h, v.not_later i h)),
          (v.effect_length, v.effect_entries),
        ),
      )

  -- ── Places with a single value ───────────────────────────────────────────────────────────────────

  -- a variable that stands there, or that names one, is out of place
  pub single-misplaced : (condition : List ℕ) (i e : ℕ) → 16 ≤ e
      → (width positions sizes i ≡ 1) ⊎ (width positions sizes (e - 16) ≡ 1)
      → (condition_placed positions sizes condition i e ≡ false) × (effect_placed positions sizes condition i e ≡ false)
  single-misplaced condition i e variable one = (
    never_true _ (λ t. let w = (condition_placed_iff condition i e).0 t variable in single w.0 w.1.0),
    never_true _ (λ t. let w = (effect_placed_iff condition i e).0 t variable in single w.0 w.1.0),
  )
    where
      single : ManyValued positions sizes i → width positions sizes (e - 16) ≡ width positions sizes i → ⊥
      single many equal = ⊎_elim (λ h. omega (arith, many, h)) (λ h. omega (arith, many, equal, h)) one

  -- the constant 0 is the one valid entry there
  pub single-entry_iff : (condition : List ℕ) (i e : ℕ) → width positions sizes i ≡ 1
      → EntryValid positions sizes condition i e ↔ (e ≡ 0)
  single-entry_iff condition i e one = (
    λ v. ⊎_elim (λ c. omega (arith, v.constant c, one)) (λ h. absurd (omega (arith, v.several h, one))) (below? e 16),
    λ z. record {
      constant = λ _. omega (arith, z, one);
      position = λ h. absurd (omega (arith, z, h));
      several = λ h. absurd (omega (arith, z, h));
      equal_sizes = λ h. absurd (omega (arith, z, h));
      itself = λ h. absurd (omega (arith, z, h));
    },
  )

  -- so both lines of a rule, and both vectors of a macro, hold 0 there
  pub single-lines : (condition effect : List ℕ) → LinesValid positions sizes condition effect
      → (i : ℕ) → width positions sizes i ≡ 1 → (get_or condition i 0 ≡ 0) × (get_or effect i 0 ≡ 0)
  single-lines condition effect v i one = (
    zero condition v.condition_length v.condition_entries,
    zero effect v.effect_length v.effect_entries,
  )
    where
      zero : (line : List ℕ) → length line ≡ 16
          → ((k : ℕ) → k < 16 → EntryValid positions sizes condition k (get_or line k 0)) → get_or line i 0 ≡ 0
      zero line long entries =
          ⊎_elim (λ h. (single-entry_iff condition i (get_or line i 0) one).0 (entries i h))
          (λ h. get_or-eq_default line 0 {n = i} (omega (arith, long, h))) (below? i 16)

  -- ── Sizes and rules ──────────────────────────────────────────────────────────────────────────────

  pub sizes_iff : (sizes_valid positions sizes ≡ true)
      ↔ ((length sizes ≡ 16) × ((i : ℕ) → i < 16 → (i < positions → (1 ≤ get_or sizes i 0) × (get_or sizes i 0 ≤ 16))
      × (positions ≤ i → get_or sizes i 0 ≡ 0)))
  unfolding sizes_valid size_valid
  sizes_iff =
      and_iff _ _ (eqb_iff _ _) (every-below_iff _ _
      (λ i. cond_iff i positions _ _ (within_iff 1 16 (get_or sizes i 0)) (eqb_iff (get_or sizes i 0) 0)) 16)

  rule_iff : (rule : Rule) → (rule_valid positions sizes rule ≡ true)
      ↔ ((rule.cost ≤ 255) × LinesValid positions sizes rule.condition rule.effect)
  unfolding rule_valid
  rule_iff rule = and_iff _ _ (leb_iff _ _) (lines_iff rule.condition rule.effect)

pub blank_iff : (rule : Rule) → (rule_blank rule ≡ true) ↔ (rule ≡ blank_rule)
unfolding rule_blank
blank_iff rule =
    let tests = and_iff _ _ (eqb_iff rule.cost 0)
    (and_iff _ _ (same_iff rule.condition (replicate 16 0)) (same_iff rule.effect (replicate 16 0))) in (
      λ t. let w = tests.0 t in λ i. record { cost = w.0 i; condition = w.1.0 i; effect = w.1.1 i },
      λ e. tests.1 (ap (λ r. r.cost) e, (ap (λ r. r.condition) e, ap (λ r. r.effect) e)),
    )

rules_iff : (set : RuleSet) → (rules_valid set ≡ true)
    ↔ ((length set.rules ≡ 31)
    × ((k : ℕ) → k < 31
    → (k < set.count → ((get_or set.rules k no_rule).cost ≤ 255)
    × LinesValid set.positions set.sizes (get_or set.rules k no_rule).condition
    (get_or set.rules k no_rule).effect)
    × (set.count ≤ k → get_or set.rules k no_rule ≡ blank_rule)))
unfolding rules_valid rule_valid_at
rules_iff set =
    and_iff _ _ (eqb_iff _ _) (every-below_iff _ _
    (λ k. cond_iff k set.count _ _ (rule_iff set.positions set.sizes (get_or set.rules k no_rule))
    (blank_iff (get_or set.rules k no_rule))) 31)

-- ── Duplicates ───────────────────────────────────────────────────────────────────────────────────

pub duplicate_iff : (a b : Rule) → (duplicate a b ≡ true) ↔ Duplicate a b
unfolding duplicate
duplicate_iff a b =
    and_iff _ _ (eqb_iff a.cost b.cost)
    (and_iff _ _ (same_iff a.condition b.condition) (same_iff a.effect b.effect))

-- the test for duplicates passes exactly if some rule is a duplicate of an earlier one
pub duplicates_iff : (rules : List Rule) (n : ℕ) → (has_duplicates rules n ≡ true)
    ↔ ((k : ℕ) × (k < n)
    × ((j : ℕ) × (j < k) × Duplicate (get_or rules j no_rule) (get_or rules k no_rule)))
unfolding has_duplicates repeated
duplicates_iff rules n =
    any-below_iff _ _ (λ k. any-below_iff _ _ (λ j. duplicate_iff (get_or rules j no_rule) (get_or rules k no_rule)) k) n

-- ── Sets ─────────────────────────────────────────────────────────────────────────────────────────

-- beyond the sixteen places a list of sixteen reads 0
zero_beyond : (sizes : List ℕ) (i : ℕ) → length sizes ≡ 16 → (i < 16 → get_or sizes i 0 ≡ 0) → get_or sizes i 0 ≡ 0
zero_beyond sizes i n f = ⊎_elim f (λ h. get_or-eq_default sizes 0 (omega arith)) (below? i 16)

pub formed_iff : (set : RuleSet) → (well_formed set ≡ true) ↔ WellFormed set
unfolding well_formed
formed_iff set =
    let tests =
    and_iff _ _ (within_iff 1 16 set.positions)
    (and_iff _ _ (sizes_iff set.positions set.sizes)
    (and_iff _ _ (within_iff 1 31 set.count) (rules_iff set))) in (
      λ t.
          let w = tests.0 t in
          let sizes = w.1.0 in
          let rules = w.1.1.1 in
          record {
            position_limits = w.0;
            sizes_length = sizes.0;
            size_limits = λ i h. (sizes.1 i (omega arith)).0 h;
            sizes_beyond = λ i h. zero_beyond set.sizes i sizes.0 (λ k. (sizes.1 i k).1 h);
            count_limits = w.1.1.0;
            rules_length = rules.0;
            cost_limits = λ k h. ((rules.1 k (omega arith)).0 h).0;
            lines = λ k h. ((rules.1 k (omega arith)).0 h).1;
            rules_beyond = λ k h b. (rules.1 k b).1 h;
          },
      λ v.
          tests.1 (
            v.position_limits,
            (
              (v.sizes_length, λ i _. (v.size_limits i, v.sizes_beyond i)),
              (
                v.count_limits,
                (
                  v.rules_length,
                  λ k h. (
                    λ b. (v.cost_limits k b, v.lines k b),
                    λ b. v.rules_beyond k b h,
                  ),
                ),
              ),
            ),
          ),
    )

-- the test of validity passes exactly if the set is valid
pub valid_iff : (set : RuleSet) → (valid set ≡ true) ↔ Valid set
unfolding valid
valid_iff set =
    let tests = and_iff _ _ (formed_iff set) (not_iff _ (duplicates_iff set.rules set.count)) in (
      λ t. let w = tests.0 t in record { formed = w.0; no_duplicates = λ j k h b e. w.1 (k, b, (j, h, e)) },
      λ v. tests.1 (v.formed, λ d. v.no_duplicates d.2.0 d.0 d.2.1 d.1 d.2.2),
    )

pub empty_invalid : valid empty_set ≡ false
unfolding valid well_formed
empty_invalid = refl

-- ── Widths and states of a valid set ─────────────────────────────────────────────────────────────

-- each place has a value, and at most sixteen
pub valid-width : (set : RuleSet) → WellFormed set → (i : ℕ) → (1 ≤ width set.positions set.sizes i)
    × (width set.positions set.sizes i ≤ 16)
valid-width set v i =
    ⊎_elim (λ h. omega (arith, v.size_limits i h, width-position set.positions set.sizes i h))
    (λ h. omega (arith, width_beyond set.positions set.sizes i h)) (below? i set.positions)

pub valid-state : (set : RuleSet) → WellFormed set → StateOf set (replicate 16 0)
valid-state set v = (refl, λ i h. omega (arith, valid-width set v i, get_or-replicate {A = ℕ} 16 i 0 0 h))

-- ── Steps ────────────────────────────────────────────────────────────────────────────────────────

-- an entry of a valid line stands for a value of its place
pub entry_value : (positions : ℕ) (sizes condition : List ℕ) (i e : ℕ) (s : State) → positions ≤ 16
    → EntryValid positions sizes condition i e → IsState positions sizes s
    → value_of e s < width positions sizes i
entry_value positions sizes condition i e s p v h =
    ⊎_elim (λ c. omega (arith, value-constant e s c, v.constant c))
    (λ c. let k = v.position c in omega (
      arith,
      value-variable e s c (omega arith),
      h.1 (e - 16) (omega arith),
      v.equal_sizes c,
    ))
    (below? e 16)

-- the effect of valid lines leads from a state to a state
pub lines-state : (positions : ℕ) (sizes condition effect : List ℕ) (s : State) → positions ≤ 16
    → LinesValid positions sizes condition effect → IsState positions sizes s
    → IsState positions sizes (successor effect s)
lines-state positions sizes condition effect s p v h = (
  successor-length effect s ∙ v.effect_length,
  λ i k. rw (successor_at effect s i) (entry_value positions sizes condition i (get_or effect i 0) s p
      (v.effect_entries i k) h),
)

only_if_iff : (b : Bool) (s t : State) → (only_if b s ≡ some t) ↔ ((b ≡ true) × (t ≡ s))
only_if_iff true s t = (λ e. (refl, sym (some-injective s t e)), λ w. ap {B = Option State} some (sym w.1))
only_if_iff false s t = (λ e. absurd (none-ne-some t e), λ w. absurd (false≢true w.0))

-- a rule leads from a state to another exactly if it runs there and the other is where its effect leads
pub step_iff : (set : RuleSet) (r : ℕ) (s t : State) → (step_of set r s ≡ some t)
    ↔ ((applicable (rule_at set r).condition s ≡ true) × (t ≡ successor (rule_at set r).effect s))
unfolding step_of
step_iff set r s t = only_if_iff (applicable (rule_at set r).condition s) (successor (rule_at set r).effect s) t

pub valid_closed : (set : RuleSet) → WellFormed set → Closed (step_of set) set.count (StateOf set)
unfolding rule_at
valid_closed set v r s t h k d e =
    subst (StateOf set) (sym ((step_iff set r s t).0 e).1)
    (lines-state set.positions set.sizes (rule_at set r).condition (rule_at set r).effect s v.position_limits.1
    (v.lines (r - 1) (omega arith)) d)

-- ── Costs ────────────────────────────────────────────────────────────────────────────────────────

pub valid_cost : (set : RuleSet) → WellFormed set → (q : Sequence) → Numbered set.count q
    → sequence_cost set q ≤ 255 * length q
unfolding sequence_cost rule_cost rule_at
valid_cost set v [] h = omega arith
valid_cost set v (r ∷ q) h = omega (arith, v.cost_limits (r - 1) (omega arith), valid_cost set v q h.2)
