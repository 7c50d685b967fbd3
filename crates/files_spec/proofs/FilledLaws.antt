-- What fills the places of an array: items of which each passes its test after those before it, and blanks beyond them.
-- Sizes, conditions, effects and rules are valid exactly if they do.
-- Assumes nothing.
use mathlib.Core.Path.{◌≡◌, refl, sym, ap, ap₂, subst, ◌∙◌}
use mathlib.Core.Logic.Iff
use mathlib.Core.Logic.{◌↔◌, ⊎_elim}
use mathlib.Core.Bool.{Bool, true, ◌&&◌}
use mathlib.Core.List.{List, [], ◌∷◌, ◌++◌, append-nil, append_assoc}
use Prim.Native.Nat.{ℕ, zero, suc, ◌-◌, ◌≤◌, ◌<◌}
use native.Mathlib.Omega.{arith}
use lib.ListN.{length, get_or, take, length-take, length-append, get_or-append}
use lib.Seq.{length-take-le, take-suc, take-take, take-append-le, take-append_seam, get_or-take, get_or-append_seam}
use Rattle.theory_spec.specs.Lists.{every, padded}
use Rattle.theory_spec.proofs.ListLaws.{and_join, every_at, in_get_d}
use Rattle.theory_spec.proofs.TestLaws.{below?, eqb_iff, and_iff, cond_iff, within_iff, every-below_iff}
use Rattle.model_spec.specs.Rules.{no_rule, blank_rule}
use Rattle.model_spec.specs.Validity.{entry_limited, condition_placed, condition_valid, effect_valid, sizes_valid, rule_valid}
use Rattle.model_spec.specs.Validity.{rule_valid_at, rules_valid, EntryValid}
use Rattle.model_spec.specs.declared.Rule.{Rule}
use Rattle.model_spec.specs.declared.RuleSet.{RuleSet}
use Rattle.model_spec.proofs.StateLaws.{width_beyond}
use Rattle.model_spec.proofs.ValidityLaws.{condition-entry_iff, effect-entry_iff, condition_iff, effect_iff, sizes_iff}
use Rattle.model_spec.proofs.ValidityLaws.{single-entry_iff, blank_iff}
use Rattle.files_spec.specs.Faults.{ItemTest, size_faultless, condition_faultless, effect_faultless}
use Rattle.files_spec.proofs.PaddedLaws.{padded_front, padded_iff}

-- ── Items that pass their tests ──────────────────────────────────────────────────────────────────

-- every item passes its test after those before it
abbrev pub EachFaultless : ItemTest → List ℕ → List ℕ → Type 0
EachFaultless faultless before l = (i : ℕ) → i < length l → faultless (before ++ take i l) (get_or l i 0) ≡ true

-- the first item is faultless, and so are the others after it
pub first-faultless : (faultless : ItemTest) (before : List ℕ) (e : ℕ) (l : List ℕ)
    → EachFaultless faultless before (e ∷ l)
    → (faultless before e ≡ true) × EachFaultless faultless (before ++ (e ∷ [])) l
first-faultless faultless before e l h = (
  ap (λ s. faultless s e) (sym (append-nil before))
      ∙ h 0 (omega arith),
  λ i b. ap (λ s. faultless s (get_or l i 0)) (append_assoc before (e ∷ []) (take i l))
      ∙ h (suc i) (omega arith),
)

-- a first item and others after it
pub with_first : (faultless : ItemTest) (before : List ℕ) (e : ℕ) (l : List ℕ) → faultless before e ≡ true
    → EachFaultless faultless (before ++ (e ∷ [])) l
    → EachFaultless faultless before (e ∷ l)
with_first faultless before e l h k zero b = ap (λ s. faultless s e) (append-nil before) ∙ h
with_first faultless before e l h k (suc i) b =
    ap (λ s. faultless s (get_or l i 0)) (sym (append_assoc before (e ∷ []) (take i l))) ∙ k i (omega arith)

-- a last item after others
pub with-last : (faultless : ItemTest) (before : List ℕ) (e : ℕ) → EachFaultless faultless [] before
    → faultless before e ≡ true → EachFaultless faultless [] (before ++ (e ∷ []))
with-last faultless before e each h i b =
    ⊎_elim earlier (λ k. last (omega (arith, length-append before (e ∷ [])))) (below? i (length before))
  where
    earlier : i < length before → faultless (take i (before ++ (e ∷ []))) (get_or (before ++ (e ∷ [])) i 0) ≡ true
    earlier k = rw (take-append-le i before (e ∷ []) (omega arith), get_or-append before (e ∷ []) 0 i k) (each i k)

    last : i ≡ length before → faultless (take i (before ++ (e ∷ []))) (get_or (before ++ (e ∷ [])) i 0) ≡ true
    last j = rw (j, take-append_seam before (e ∷ []), get_or-append_seam before e [] 0) h

-- the first n of sixteen places hold faultless items, and the others 0
abbrev pub Filled : ItemTest → ℕ → List ℕ → Type 0
Filled faultless n entries = (entries ≡ padded 16 0 (take n entries)) × EachFaultless faultless [] (take n entries)

-- faultless items fill as many places
pub filled_by : (faultless : ItemTest) (n : ℕ) (l : List ℕ) → length l ≡ n → EachFaultless faultless [] l
    → Filled faultless n (padded 16 0 l)
filled_by faultless n l e h =
    let front = padded_front 16 0 n l e in (
      ap (padded 16 0) (sym front),
      subst (EachFaultless faultless []) (sym front) h,
    )

-- ── Sixteen places are valid ─────────────────────────────────────────────────────────────────────

-- the first n items of a list, by their places in it
front-faultless : (faultless : ItemTest) (n : ℕ) (l : List ℕ) → n ≤ length l → EachFaultless faultless [] (take n l)
    ↔ ((i : ℕ) → i < n → faultless (take i l) (get_or l i 0) ≡ true)
front-faultless faultless n l h =
    let long = length-take-le n l h in
    let same : (i : ℕ) → i < n → faultless (take i (take n l)) (get_or (take n l) i 0)
    ≡ faultless (take i l) (get_or l i 0) =
    λ i b. ap₂ faultless (take-take i n l (omega arith)) (get_or-take n l i 0 b) in
    (λ each i b. sym (same i b) ∙ each i (omega arith), λ each i b. let c : i < n = omega arith in same i c ∙ each i c)

-- a statement of each of sixteen places, `Right`: of the first n it says that they pass their tests, and of the others
-- that they are 0
module _ (faultless : ItemTest) (n : ℕ) (l : List ℕ) (Right : ℕ → Type 0) (few : n ≤ 16)
    (front : length l ≡ 16 → (i : ℕ) → i < n → (faultless (take i l) (get_or l i 0) ≡ true) ↔ Right i)
    (beyond : (i : ℕ) → n ≤ i → Right i ↔ (get_or l i 0 ≡ 0)) where
  -- it holds of all exactly if faultless items fill the first n
  filled_iff : ((length l ≡ 16) × ((i : ℕ) → i < 16 → Right i)) ↔ Filled faultless n l
  filled_iff = (
    λ v. (
      (padded_iff 16 0 l 0 n few).0 (v.0, λ i a b. (beyond i a).0 (v.1 i b)),
      (front-faultless faultless n l (omega arith)).1 (λ i b. (front v.0 i b).1 (v.1 i (omega arith))),
    ),
    λ f.
        let w = (padded_iff 16 0 l 0 n few).1 f.0 in (
          w.0,
          λ i b. ⊎_elim (λ h. (front w.0 i h).0 ((front-faultless faultless n l (omega arith)).0 f.1 i h))
              (λ h. (beyond i h).1 (w.1 i h b)) (below? i n),
        ),
  )

module _ (positions : ℕ) (sizes : List ℕ) where
  -- an entry is as valid after a condition that agrees with another at the variable's place
  entry_agrees : (a b : List ℕ) (i e : ℕ) → (16 ≤ e → get_or b (e - 16) 0 ≡ get_or a (e - 16) 0)
      → EntryValid positions sizes a i e → EntryValid positions sizes b i e
  entry_agrees a b i e agree v =
      record {
        constant = v.constant;
        position = v.position;
        several = v.several;
        equal_sizes = v.equal_sizes;
        itself = λ h. agree h
            ∙ v.itself h;
      }

  -- an entry of a condition, after those before it
  condition_front_iff : (condition : List ℕ) (i : ℕ) → i < length condition
      → (condition_faultless positions sizes (take i condition) (get_or condition i 0) ≡ true)
      ↔ (EntryValid positions sizes condition i (get_or condition i 0)
      × (16 ≤ get_or condition i 0 → get_or condition i 0 - 16 ≤ i))
  unfolding condition_faultless
  condition_front_iff condition i b = rw (length-take-le i condition (omega arith)) (
    λ t. let v = tests.0 t in (entry_agrees front condition i e (λ h. sym (agree h (v.1 h))) v.0, v.1),
    λ v. tests.1 (entry_agrees condition front i e (λ h. agree h (v.1 h)) v.0, v.1),
  )
    where
      e : ℕ
      e = get_or condition i 0

      front : List ℕ
      front = take i condition ++ (e ∷ [])

      tests : ((entry_limited positions sizes i e && condition_placed positions sizes front i e) ≡ true)
          ↔ (EntryValid positions sizes front i e × (16 ≤ e → e - 16 ≤ i))
      tests = condition-entry_iff positions sizes front i e

      agree : 16 ≤ e → e - 16 ≤ i → get_or front (e - 16) 0 ≡ get_or condition (e - 16) 0
      agree h k =
          ap (λ s. get_or s (e - 16) 0) (sym (take-suc condition i 0 b))
          ∙ get_or-take (suc i) condition (e - 16) 0 (omega arith)

  -- an entry of an effect
  effect_front_iff : (condition effect : List ℕ) (i : ℕ) → i < length effect
      → (effect_faultless positions sizes condition (take i effect) (get_or effect i 0) ≡ true)
      ↔ EntryValid positions sizes condition i (get_or effect i 0)
  unfolding effect_faultless
  effect_front_iff condition effect i b =
      rw (length-take-le i effect (omega arith)) (effect-entry_iff positions sizes condition i (get_or effect i 0))

module _ (positions : ℕ) (sizes : List ℕ) (few : positions ≤ 16) where
  -- a line of sizes fills its places exactly with valid sizes
  pub sizes_filled_iff : (sizes_valid positions sizes ≡ true) ↔ Filled size_faultless positions sizes
  unfolding size_faultless
  sizes_filled_iff =
      Iff.trans (sizes_iff positions sizes) (filled_iff size_faultless positions sizes _ few
      (λ _ i h. let w = within_iff 1 16 (get_or sizes i 0) in
      (λ t. (λ _. w.0 t, λ k. absurd (omega arith)), λ v. w.1 (v.0 h)))
      (λ i h. (λ v. v.1 h, λ z. (λ k. absurd (omega arith), λ _. z))))

  -- no valid size is above 16
  pub small_sizes : sizes_valid positions sizes ≡ true → (i : ℕ) → i < positions → get_or sizes i 0 ≤ 16
  small_sizes limits i h = ((((sizes_iff positions sizes).0 limits).1 i (omega arith)).0 h).1

  -- beyond the positions only the constant 0 is valid
  beyond_iff : (condition : List ℕ) (i e : ℕ) → positions ≤ i → EntryValid positions sizes condition i e ↔ (e ≡ 0)
  beyond_iff condition i e b = single-entry_iff positions sizes condition i e (width_beyond positions sizes i b)

  -- a line of a condition fills its places exactly with a valid condition
  pub condition_filled_iff : (condition : List ℕ) → (condition_valid positions sizes condition ≡ true)
      ↔ Filled (condition_faultless positions sizes) positions condition
  condition_filled_iff condition =
      Iff.trans (condition_iff positions sizes condition)
      (filled_iff (condition_faultless positions sizes) positions condition _ few
      (λ long i h. condition_front_iff positions sizes condition i (omega arith))
      (λ i h. let w = beyond_iff condition i (get_or condition i 0) h in
      (λ v. w.0 v.0, λ z. (w.1 z, λ k. absurd (omega arith)))))

  -- a line of an effect fills its places exactly with a valid effect
  pub effect_filled_iff : (condition effect : List ℕ) → (effect_valid positions sizes condition effect ≡ true)
      ↔ Filled (effect_faultless positions sizes condition) positions effect
  effect_filled_iff condition effect =
      Iff.trans (effect_iff positions sizes condition effect)
      (filled_iff (effect_faultless positions sizes condition) positions effect _ few
      (λ long i h. effect_front_iff positions sizes condition effect i (omega arith))
      (λ i h. beyond_iff condition i (get_or effect i 0) h))

-- ── Rules ────────────────────────────────────────────────────────────────────────────────────────

-- the first of 31 rules are valid, and the others blank
abbrev pub RulesFilled : ℕ → List ℕ → ℕ → List Rule → Type 0
RulesFilled positions sizes count rules =
    (rules ≡ padded 31 blank_rule (take count rules)) × (every (rule_valid positions sizes) (take count rules) ≡ true)

-- a test that passes at each of the first n places passes for each of the first n elements
every_front : {A : Type 0} (test : A → Bool) (n : ℕ) (l : List A) (d : A) → ((i : ℕ) → i < n → test (get_or l i d) ≡ true)
    → every test (take n l) ≡ true
every_front test zero l d h = refl
every_front test (suc n) [] d h = refl
every_front test (suc n) (x ∷ l) d h =
    and_join (h 0 (omega arith)) (every_front test n l d (λ i b. h (suc i) (omega arith)))

-- rules are valid exactly so
pub rules_filled_iff : (set : RuleSet) → set.count ≤ 31 → (rules_valid set ≡ true)
    ↔ RulesFilled set.positions set.sizes set.count set.rules
unfolding rules_valid rule_valid_at
rules_filled_iff set few = (
  λ t.
      let v = tests.0 t in (
        shape.0 (v.0, λ i a b. (v.1 i b).1 a),
        every_front (rule_valid set.positions set.sizes) set.count set.rules no_rule
            (λ i b. (v.1 i (omega arith)).0 b),
      ),
  λ f.
      let w = shape.1 f.0 in
      tests.1 (
        w.0,
        λ k b. (
          λ h.
              ap (rule_valid set.positions set.sizes) (sym (get_or-take set.count set.rules k no_rule h))
              ∙ every_at (rule_valid set.positions set.sizes) f.1
              (in_get_d (take set.count set.rules) k no_rule
              (omega (arith, w.0, length-take set.count set.rules))),
          λ h. w.1 k h b,
        ),
      ),
)
  where
    tests : (rules_valid set ≡ true)
        ↔ ((length set.rules ≡ 31)
        × ((k : ℕ) → k < 31
        → (k < set.count → rule_valid set.positions set.sizes (get_or set.rules k no_rule) ≡ true)
        × (set.count ≤ k → get_or set.rules k no_rule ≡ blank_rule)))
    tests =
        and_iff _ _ (eqb_iff (length set.rules) 31)
        (every-below_iff _ _ (λ k. cond_iff k set.count _ _ Iff.rfl (blank_iff (get_or set.rules k no_rule))) 31)

    shape : ((length set.rules ≡ 31) × ((k : ℕ) → set.count ≤ k → k < 31 → get_or set.rules k no_rule ≡ blank_rule))
        ↔ (set.rules ≡ padded 31 blank_rule (take set.count set.rules))
    shape = padded_iff 31 blank_rule set.rules no_rule set.count few
