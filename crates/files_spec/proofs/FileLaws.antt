-- Laws of the rule file: what is read is well formed and stands at the front of the text, and the file of what is well
-- formed is read.
-- Assumes nothing.
use mathlib.Core.Path.{◌≡◌, refl, sym, ap, ap₂, ◌∙◌}
use mathlib.Core.Bool.{true}
use mathlib.Core.List.{List, [], ◌∷◌, ◌++◌, map, append-nil, append_assoc}
use Prim.Native.Nat.{ℕ, zero, suc, ◌+◌, ◌≤◌}
use native.Mathlib.Omega.{arith}
use lib.Dec.{leb}
use borrow.Author.Tests.{leb-true, le-leb}
use lib.ListN.{length, take, length-take}
use Rattle.theory_spec.specs.Lists.{every, within, padded, flat}
use Rattle.theory_spec.proofs.ListLaws.{and_split, and_join}
use Rattle.theory_spec.proofs.TestLaws.{within_iff}
use Rattle.model_spec.specs.Rules.{no_rule, blank_rule}
use Rattle.model_spec.specs.Validity.{condition_valid, effect_valid, sizes_valid, rule_valid, well_formed}
use Rattle.model_spec.specs.declared.Rule.{Rule}
use Rattle.model_spec.specs.declared.RuleSet.{RuleSet}
use Rattle.files_spec.specs.Text.{numeral, line}
use Rattle.files_spec.specs.File.{entry_text, rule_text, render}
use Rattle.files_spec.specs.Reading.{parsed, size_item, condition_item, effect_item, number_line, list_line, rule_lines}
use Rattle.files_spec.specs.Reading.{rules_after, rule_list, file_lines}
use Rattle.files_spec.specs.Faults.{size_faultless, condition_faultless, effect_faultless}
use Rattle.files_spec.proofs.PaddedLaws.{padded_front, padded_iff}
use Rattle.files_spec.proofs.ParserLaws.{of-parsed, then-read, then_back}
use Rattle.files_spec.proofs.EntryLaws.{ItemLaw, size_law, condition_law, effect_law}
use Rattle.files_spec.proofs.FilledLaws.{sizes_filled_iff, small_sizes, condition_filled_iff, effect_filled_iff}
use Rattle.files_spec.proofs.FilledLaws.{RulesFilled, rules_filled_iff}
use Rattle.files_spec.proofs.LineLaws.{list-line-read, list-line_back, number-line-read, number-line_back}

-- ── Lines of lists ───────────────────────────────────────────────────────────────────────────────

-- a line of sizes that is read has valid sizes, and stands at the front of the text
pub sizes-read : (positions : ℕ) (text sizes rest : List ℕ) → 1 ≤ positions → positions ≤ 16
    → list_line "sizes=" size_item positions text ≡ parsed sizes rest
    → (sizes_valid positions sizes ≡ true) × (text ≡ line "sizes=" (map numeral (take positions sizes)) ++ rest)
sizes-read positions text sizes rest some few p =
    let v = list-line-read size_item numeral size_faultless positions
    (size_law positions) "sizes=" text sizes rest some p in
    ((sizes_filled_iff positions sizes few).1 v.0, v.1)

-- a line of valid sizes is read
pub sizes_back : (positions : ℕ) (sizes rest : List ℕ) → 1 ≤ positions → positions ≤ 16
    → sizes_valid positions sizes ≡ true
    → list_line "sizes=" size_item positions (line "sizes=" (map numeral (take positions sizes)) ++ rest)
    ≡ parsed sizes rest
sizes_back positions sizes rest some few valid =
    list-line_back size_item numeral size_faultless positions (size_law positions) "sizes=" sizes rest some few
    ((sizes_filled_iff positions sizes few).0 valid)

module _ (positions : ℕ) (sizes : List ℕ) (some : 1 ≤ positions) (few : positions ≤ 16)
    (limits : sizes_valid positions sizes ≡ true) where
  -- the items of an `if` line
  pub condition_items : ItemLaw (condition_item positions sizes) entry_text (condition_faultless positions sizes) positions
  condition_items = condition_law positions sizes few (small_sizes positions sizes few limits)

  -- an `if` line that is read has a valid condition, and stands at the front of the text
  pub condition-read : (text condition rest : List ℕ)
      → list_line "if=" (condition_item positions sizes) positions text ≡ parsed condition rest
      → (condition_valid positions sizes condition ≡ true)
      × (text ≡ line "if=" (map entry_text (take positions condition)) ++ rest)
  condition-read text condition rest p =
      let v = list-line-read (condition_item positions sizes) entry_text
      (condition_faultless positions sizes) positions condition_items "if=" text condition rest some p in
      ((condition_filled_iff positions sizes few condition).1 v.0, v.1)

  -- an `if` line of a valid condition is read
  pub condition_back : (condition rest : List ℕ) → condition_valid positions sizes condition ≡ true
      → list_line "if=" (condition_item positions sizes) positions
      (line "if=" (map entry_text (take positions condition)) ++ rest) ≡ parsed condition rest
  condition_back condition rest valid =
      list-line_back (condition_item positions sizes) entry_text
      (condition_faultless positions sizes) positions condition_items "if=" condition rest some few
      ((condition_filled_iff positions sizes few condition).0 valid)

  module _ (condition : List ℕ) where
    -- the items of a `then` line
    pub effect_items : ItemLaw (effect_item positions sizes condition) entry_text
        (effect_faultless positions sizes condition) positions
    effect_items = effect_law positions sizes condition few (small_sizes positions sizes few limits)

    -- a `then` line that is read has a valid effect, and stands at the front of the text
    effect-read : (text effect rest : List ℕ)
        → list_line "then=" (effect_item positions sizes condition) positions text ≡ parsed effect rest
        → (effect_valid positions sizes condition effect ≡ true)
        × (text ≡ line "then=" (map entry_text (take positions effect)) ++ rest)
    effect-read text effect rest p =
        let v = list-line-read (effect_item positions sizes condition) entry_text
        (effect_faultless positions sizes condition) positions effect_items "then=" text effect rest some p in
        ((effect_filled_iff positions sizes few condition effect).1 v.0, v.1)

    -- a `then` line of a valid effect is read
    effect_back : (effect rest : List ℕ) → effect_valid positions sizes condition effect ≡ true
        → list_line "then=" (effect_item positions sizes condition) positions
        (line "then=" (map entry_text (take positions effect)) ++ rest) ≡ parsed effect rest
    effect_back effect rest valid =
        list-line_back (effect_item positions sizes condition) entry_text
        (effect_faultless positions sizes condition) positions effect_items "then=" effect rest some few
        ((effect_filled_iff positions sizes few condition effect).0 valid)

  -- ── Rules ────────────────────────────────────────────────────────────────────────────────────────

  -- the lines of a rule that are read are those of a valid rule
  pub rule-read : (text : List ℕ) (rule : Rule) (rest : List ℕ) → rule_lines positions sizes text ≡ parsed rule rest
      → (rule_valid positions sizes rule ≡ true) × (text ≡ rule_text positions rule ++ rest)
  unfolding rule_lines rule_valid rule_text
  rule-read text rule rest p =
      then-read (number_line "cost=" 0 255 text) p (λ cost r₁ first p₁.
      then-read (list_line "if=" (condition_item positions sizes) positions r₁) p₁ (λ condition r₂ second p₂.
      then-read (list_line "then=" (effect_item positions sizes condition) positions r₂) p₂ (λ effect r₃ third e.
      let u = number-line-read "cost=" 0 255 text cost r₁ first in
      let v = condition-read r₁ condition r₂ second in
      let w = effect-read condition r₂ effect r₃ third in
      of-parsed (λ rule rest. (rule_valid positions sizes rule ≡ true) × (text ≡ rule_text positions rule ++ rest)) e (
        and_join (le-leb cost 255 u.1) (and_join v.0 w.0),
        u.2 ∙ ap (λ s. line "cost=" (numeral cost ∷ []) ++ s)
            (v.1 ∙ ap (λ s. line "if=" (map entry_text (take positions condition)) ++ s) w.1)
            ∙ sym (simp append_assoc),
      ))))

  -- the lines of a valid rule are read
  rule_back : (rule : Rule) (rest : List ℕ) → rule_valid positions sizes rule ≡ true
      → rule_lines positions sizes (rule_text positions rule ++ rest) ≡ parsed rule rest
  unfolding rule_lines rule_valid rule_text
  rule_back rule rest h =
      let u = and_split (leb rule.cost 255) _ h in
      let v = and_split (condition_valid positions sizes rule.condition) _ u.1 in
      ap (rule_lines positions sizes) (simp append_assoc)
      ∙ then_back _ (number-line_back "cost=" 0 255 rule.cost _ (omega arith) (leb-true rule.cost 255 u.0)
      (omega arith))
      (then_back _ (condition_back rule.condition _ v.0)
      (then_back _ (effect_back rule.condition rule.effect rest v.1) refl))

  -- the lines of rules that are read are those of valid rules
  rules-read : (n : ℕ) (before : List Rule) (text : List ℕ) (all : List Rule) (rest : List ℕ)
      → rules_after positions sizes n before text ≡ parsed all rest
      → (l : List Rule) × (all ≡ before ++ l) × (length l ≡ n) × (every (rule_valid positions sizes) l ≡ true)
      × (text ≡ flat (rule_text positions) l ++ rest)
  unfolding rules_after
  rules-read zero before text all rest p =
      ([], (let q : before ≡ all = cc in sym q ∙ sym (append-nil before)), refl, refl, cc)
  rules-read (suc n) before text all rest p =
      then-read (rule_lines positions sizes text) p (λ rule mid first others.
      let r = rule-read text rule mid first in
      let v = rules-read n (before ++ (rule ∷ [])) mid all rest others in (
        rule ∷ v.0,
        v.1 ∙ append_assoc before (rule ∷ []) v.0,
        ap suc v.2,
        and_join r.0 v.3,
        r.1 ∙ ap (λ s. rule_text positions rule ++ s) v.4
            ∙ sym (append_assoc (rule_text positions rule) (flat (rule_text positions) v.0) rest),
      ))

  -- the lines of valid rules lead to the rules after them
  pub rules_through : (l : List Rule) (n k : ℕ) (before : List Rule) (tail : List ℕ) → n ≡ length l + k
      → every (rule_valid positions sizes) l ≡ true
      → rules_after positions sizes n before (flat (rule_text positions) l ++ tail)
      ≡ rules_after positions sizes k (before ++ l) tail
  unfolding rules_after
  rules_through [] n k before tail e h =
      let q : n ≡ k = omega arith in ap₂ (λ m s. rules_after positions sizes m s tail) q (sym (append-nil before))
  rules_through (rule ∷ l) zero k before tail e h = absurd (omega arith)
  rules_through (rule ∷ l) (suc n) k before tail e h =
      let w = and_split (rule_valid positions sizes rule) (every (rule_valid positions sizes) l) h in
      ap (rules_after positions sizes (suc n) before)
      (append_assoc (rule_text positions rule) (flat (rule_text positions) l) tail)
      ∙ then_back _ (rule_back rule (flat (rule_text positions) l ++ tail) w.0)
      (rules_through l n k (before ++ (rule ∷ [])) tail (omega arith) w.1
      ∙ ap (λ s. rules_after positions sizes k s tail) (append_assoc before (rule ∷ []) l))

  -- the lines of `count` rules that are read are those of valid rules, and the rules beyond them are blank
  rule_list-read : (count : ℕ) (text : List ℕ) (rules : List Rule) (rest : List ℕ)
      → rule_list positions sizes count text ≡ parsed rules rest
      → RulesFilled positions sizes count rules × (text ≡ flat (rule_text positions) (take count rules) ++ rest)
  unfolding rule_list
  rule_list-read count text rules rest p =
      then-read (rules_after positions sizes count [] text) p (λ all after each e.
      let v = rules-read count [] text all after each in
      let front = padded_front 31 blank_rule count v.0 v.2 in
      of-parsed (λ rules rest. RulesFilled positions sizes count rules
      × (text ≡ flat (rule_text positions) (take count rules) ++ rest))
      (ap (λ s. parsed (padded 31 blank_rule s) after) (sym v.1) ∙ e) (
        (ap (padded 31 blank_rule) (sym front), ap (every (rule_valid positions sizes)) front ∙ v.3),
        v.4
            ∙ ap (λ s. flat (rule_text positions) s ++ after) (sym front),
      ))

  -- the lines of `count` valid rules are read
  rule_list_back : (count : ℕ) (rules : List Rule) (rest : List ℕ) → count ≤ 31
      → RulesFilled positions sizes count rules
      → rule_list positions sizes count (flat (rule_text positions) (take count rules) ++ rest) ≡ parsed rules rest
  unfolding rule_list rules_after
  rule_list_back count rules rest b h =
      let long = ((padded_iff 31 blank_rule rules no_rule count b).1 h.0).0 in
      then_back _ (rules_through (take count rules) count 0 [] rest (omega (arith, length-take count rules)) h.1)
      (ap (λ s. parsed s rest) (sym h.0))

-- ── The file ─────────────────────────────────────────────────────────────────────────────────────

-- the lines of a file that are read are those of a well-formed set
pub file-read : (text : List ℕ) (set : RuleSet) (rest : List ℕ) → file_lines text ≡ parsed set rest
    → (well_formed set ≡ true) × (text ≡ render set ++ rest)
unfolding file_lines well_formed render
file-read text set rest p =
    then-read (number_line "positions=" 1 16 text) p (λ positions r₁ first p₁.
    then-read (list_line "sizes=" size_item positions r₁) p₁ (λ sizes r₂ second p₂.
    then-read (number_line "rules=" 1 31 r₂) p₂ (λ count r₃ third p₃.
    then-read (rule_list positions sizes count r₃) p₃ (λ rules r₄ fourth e.
    let u = number-line-read "positions=" 1 16 text positions r₁ first in
    let v = sizes-read positions r₁ sizes r₂ u.0 u.1 second in
    let w = number-line-read "rules=" 1 31 r₂ count r₃ third in
    let x = rule_list-read positions sizes u.0 u.1 v.0 count r₃ rules r₄ fourth in
    of-parsed (λ set rest. (well_formed set ≡ true) × (text ≡ render set ++ rest)) e (
      and_join ((within_iff 1 16 positions).1 (u.0, u.1))
          (and_join v.0
          (and_join ((within_iff 1 31 count).1 (w.0, w.1))
          ((rules_filled_iff (record { positions = positions; sizes = sizes; count = count; rules = rules })
          w.1).1 x.0))),
      u.2
          ∙ ap (λ s. line "positions=" (numeral positions ∷ []) ++ s)
          (v.1 ∙ ap (λ s. line "sizes=" (map numeral (take positions sizes)) ++ s)
          (w.2 ∙ ap (λ s. line "rules=" (numeral count ∷ []) ++ s) x.1))
          ∙ sym (simp append_assoc),
    )))))

-- the file of a well-formed set is read
pub file_back : (set : RuleSet) (rest : List ℕ) → well_formed set ≡ true
    → file_lines (render set ++ rest) ≡ parsed set rest
unfolding file_lines well_formed render
file_back set rest h =
    let a = and_split (within 1 16 set.positions) _ h in
    let b = and_split (sizes_valid set.positions set.sizes) _ a.1 in
    let c = and_split (within 1 31 set.count) _ b.1 in
    let u = (within_iff 1 16 set.positions).0 a.0 in
    let w = (within_iff 1 31 set.count).0 c.0 in
    ap file_lines (simp append_assoc)
    ∙ then_back _ (number-line_back "positions=" 1 16 set.positions _ u.0 u.1 (omega arith))
    (then_back _ (sizes_back set.positions set.sizes _ u.0 u.1 b.0)
    (then_back _ (number-line_back "rules=" 1 31 set.count _ w.0 w.1 (omega arith))
    (then_back _ (rule_list_back set.positions set.sizes u.0 u.1 b.0 set.count set.rules rest
    w.1 ((rules_filled_iff set w.1).0 c.1)) refl)))
