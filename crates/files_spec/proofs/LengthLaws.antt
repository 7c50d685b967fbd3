-- The length of a file: a valid set's has at most 4,292 bytes. Numbers, entries, comma lists, lines and rules are
-- bounded one after the other.
-- Assumes nothing.
use mathlib.Core.Path.{◌≡◌}
use mathlib.Core.Logic.{⊎_elim}
use mathlib.Core.Bool.{true, cond}
use mathlib.Core.List.{List, [], ◌∷◌, map}
use Prim.Native.Nat.{ℕ, zero, suc, ◌+◌, ◌-◌, ◌*◌, ◌≤◌, ◌<◌}
use Prim.Native.String.{String}
use native.Mathlib.Omega.{arith}
use lib.Dec.{ltb}
use lib.ListN.{length, get_or, take, length-append}
use lib.Seq.{length-take-le, get_or-take}
use borrow.Author.Tests.{lt-ltb, le-ltb}
use Rattle.theory_spec.specs.Lists.{flat}
use Rattle.theory_spec.proofs.TestLaws.{below?}
use Rattle.model_spec.specs.Rules.{no_rule}
use Rattle.model_spec.specs.Validity.{valid, EntryValid, LinesValid, WellFormed}
use Rattle.model_spec.specs.declared.Rule.{Rule}
use Rattle.model_spec.specs.declared.RuleSet.{RuleSet}
use Rattle.model_spec.proofs.ValidityLaws.{valid_iff}
use Rattle.files_spec.specs.Text.{bytes, comma, numeral, comma_list, line}
use Rattle.files_spec.specs.File.{entry_text, rule_text, render}
use Rattle.files_spec.proofs.TextLaws.{by_length, constant-text, variable-text}

-- ── Numbers and entries ──────────────────────────────────────────────────────────────────────────

-- a number has at most three digits, below 100 at most two, below ten one
pub numeral-length : (n : ℕ) → (length (numeral n) ≤ 3) × (n < 100 → length (numeral n) ≤ 2)
    × (n < 10 → length (numeral n) ≤ 1)
numeral-length n =
    by_length (λ ds. (length ds ≤ 3) × (n < 100 → length ds ≤ 2) × (n < 10 → length ds ≤ 1)) n
    (λ _. (omega arith, λ _. omega arith, λ _. omega arith))
    (λ h _. (omega arith, λ _. omega arith, λ k. absurd (omega arith)))
    (λ h. (omega arith, λ k. absurd (omega arith), λ k. absurd (omega arith)))

-- an entry has at most three bytes, and at most two up to x9
entry_length : (e : ℕ) → e < 32 → (length (entry_text e) ≤ 3) × (e < 25 → length (entry_text e) ≤ 2)
entry_length e b =
    let constant = numeral-length e in
    let variable = numeral-length (e - 15) in
    ⊎_elim (λ h. rw (constant-text e h) (omega arith, λ _. omega (arith, constant.1 (omega arith))))
    (λ h. rw (variable-text e h) (
      omega (arith, variable.1 (omega arith)),
      λ s. omega (arith, variable.2 (omega arith)),
    ))
    (below? e 16)

-- ── Lists and lines ──────────────────────────────────────────────────────────────────────────────

-- the room of n places, given that of each
abbrev total : (ℕ → ℕ) → ℕ → ℕ
total room zero = 0
total room (suc n) = room 0 + total (λ i. room (suc i)) n

-- a comma list of at most n items fits the room of n places if each item, with a comma, fits that of its place
comma-length : (text : ℕ → List ℕ) (l : List ℕ) (room : ℕ → ℕ) (n : ℕ) → 1 ≤ length l → length l ≤ n
    → ((i : ℕ) → i < length l → length (text (get_or l i 0)) < room i)
    → length (comma_list (map text l)) < total room n
comma-length text [] room n m b h = absurd (omega arith)
comma-length text (x ∷ l) room zero m b h = absurd (omega arith)
comma-length text (x ∷ []) room (suc n) m b h = omega (arith, h 0 (omega arith))
comma-length text (x ∷ y ∷ l) room (suc n) m b h =
    omega (
      arith,
      length-append (text x) (comma ∷ comma_list (map text (y ∷ l))),
      h 0 (omega arith),
      comma-length text (y ∷ l) (λ i. room (suc i)) n (omega arith) (omega arith) (λ i k. h (suc i) (omega arith)),
    )

-- a line has its key, its list and a line feed
pub line-length : (key : String) (items : List (List ℕ))
    → length (line key items) ≡ length (bytes key) + length (comma_list items) + 1
unfolding line
line-length key items = simp length-append (omega arith)

-- a line of the first p of sixteen entries fits the room of sixteen places
list-line-length : (key : String) (text : ℕ → List ℕ) (l : List ℕ) (room : ℕ → ℕ) (p : ℕ) → 1 ≤ p → p ≤ 16
    → length l ≡ 16
    → ((i : ℕ) → i < p → length (text (get_or l i 0)) < room i)
    → length (line key (map text (take p l))) ≤ length (bytes key) + total room 16
list-line-length key text l room p m b s h =
    let n : length (take p l) ≡ p = length-take-le p l (omega arith) in
    omega (
      arith,
      line-length key (map text (take p l)),
      comma-length text (take p l) room 16 (omega arith) (omega arith)
          (λ i k. let q : i < p = omega arith in rw (get_or-take p l i 0 q) (h i q)),
    )

-- ── Rules and files ──────────────────────────────────────────────────────────────────────────────

-- each element of a list gives at most b elements
pub flat-length : {A B : Type 0} (f : A → List B) (d : A) (b : ℕ) (l : List A)
    → ((k : ℕ) → k < length l → length (f (get_or l k d)) ≤ b) → length (flat f l) ≤ length l * b
flat-length f d b [] h = omega arith
flat-length f d b (x ∷ l) h =
    omega (
      arith,
      length-append (f x) (flat f l),
      h 0 (omega arith),
      flat-length f d b l (λ k n. h (suc k) (omega arith)),
    )

module _ (positions : ℕ) (sizes condition effect : List ℕ) (v : LinesValid positions sizes condition effect)
    (m : 1 ≤ positions) (b : positions ≤ 16) where
  -- no entry is beyond x16
  entry-below : (i e : ℕ) → EntryValid positions sizes condition i e → e < 32
  entry-below i e w = ⊎_elim (λ c. omega arith) (λ c. omega (arith, w.position c)) (below? e 16)

  -- the `if` line: in its first nine places no variable is beyond x9
  condition-length : length (line "if=" (map entry_text (take positions condition))) ≤ 58
  condition-length =
      list-line-length "if=" entry_text condition (λ i. cond (ltb i 9) 3 4) positions m b v.condition_length
      (λ i h. fits i (omega arith))
    where
      fits : (i : ℕ) → i < 16 → length (entry_text (get_or condition i 0)) < cond (ltb i 9) 3 4
      fits i h =
          let text = entry_length (get_or condition i 0) (entry-below i (get_or condition i 0) (v.condition_entries i h)) in
          let early : get_or condition i 0 ≤ 16 + i =
          ⊎_elim (λ c. omega arith) (λ c. omega (arith, v.not_later i h c)) (below? (get_or condition i 0) 16) in
          ⊎_elim (λ n. rw (lt-ltb i 9 n) (omega (arith, text.1 (omega arith)))) (λ n. rw (le-ltb i 9 n) (omega arith))
          (below? i 9)

  -- the `then` line
  effect-length : length (line "then=" (map entry_text (take positions effect))) ≤ 69
  effect-length =
      list-line-length "then=" entry_text effect (λ _. 4) positions m b v.effect_length (λ i h. fits i (omega arith))
    where
      fits : (i : ℕ) → i < 16 → length (entry_text (get_or effect i 0)) < 4
      fits i h =
          omega (arith, (entry_length (get_or effect i 0) (entry-below i (get_or effect i 0) (v.effect_entries i h))).0)

-- the three lines of a rule
rule-length : (positions : ℕ) (sizes : List ℕ) (rule : Rule) → 1 ≤ positions → positions ≤ 16
    → LinesValid positions sizes rule.condition rule.effect → length (rule_text positions rule) ≤ 136
unfolding rule_text
rule-length positions sizes rule m b v =
    simp (length-append, line-length "cost=") (omega (
      arith,
      (numeral-length rule.cost).0,
      condition-length positions sizes rule.condition rule.effect v m b,
      effect-length positions sizes rule.condition rule.effect v m b,
    ))

module _ (set : RuleSet) (v : WellFormed set) where
  -- the line of the sizes
  sizes-length : length (line "sizes=" (map numeral (take set.positions set.sizes))) ≤ 54
  sizes-length =
      list-line-length "sizes=" numeral set.sizes (λ _. 3) set.positions v.position_limits.0
      v.position_limits.1 v.sizes_length fits
    where
      fits : (i : ℕ) → i < set.positions → length (numeral (get_or set.sizes i 0)) < 3
      fits i h = omega (arith, (numeral-length (get_or set.sizes i 0)).1 (omega (arith, v.size_limits i h)))

  -- the lines of all rules
  rules-length : length (flat (rule_text set.positions) (take set.count set.rules)) ≤ 4216
  rules-length =
      let n : length (take set.count set.rules) ≡ set.count =
      length-take-le set.count set.rules (omega arith) in
      omega (
        arith,
        flat-length (rule_text set.positions) no_rule 136 (take set.count set.rules)
            (λ k h. fits k (omega arith)),
      )
    where
      fits : (k : ℕ) → k < set.count → length (rule_text set.positions
          (get_or (take set.count set.rules) k no_rule)) ≤ 136
      fits k h =
          rw (get_or-take set.count set.rules k no_rule h)
          (rule-length set.positions set.sizes (get_or set.rules k no_rule) v.position_limits.0
          v.position_limits.1 (v.lines k h))

-- the file of a valid set has at most 4,292 bytes
pub render_bound : (set : RuleSet) → valid set ≡ true → length (render set) ≤ 4292
unfolding render
render_bound set t =
    let v : WellFormed set = ((valid_iff set).0 t).formed in
    simp (length-append, line-length "positions=", line-length "rules=") (omega (
      arith,
      (numeral-length set.positions).1 (omega arith),
      sizes-length set v,
      (numeral-length set.count).1 (omega arith),
      rules-length set v,
    ))
