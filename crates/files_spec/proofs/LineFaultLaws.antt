-- Where the lines of a file are refused: a line, a rule and the lines of the file are refused by n exactly if they have
-- that fault after a faultless front, and n is 1, 2 or 3.
-- Assumes nothing.
use mathlib.Core.Path.{◌≡◌, refl, sym, ap, ◌∙◌, subst}
use mathlib.Core.Logic.Iff
use mathlib.Core.Logic.{◌↔◌}
use mathlib.Core.Bool.{Bool, true}
use mathlib.Core.List.{List, [], ◌∷◌, ◌++◌, map, append-nil, append_assoc}
use Prim.Native.Nat.{ℕ, zero, suc, ◌+◌, ◌-◌, ◌≤◌, ◌<◌}
use Prim.Native.String.{String}
use native.Mathlib.Omega.{arith}
use lib.ListN.{length, take, length-append}
use Rattle.theory_spec.specs.Lists.{every, flat, padded}
use Rattle.theory_spec.proofs.ListLaws.{and_join, flat_append}
use Rattle.theory_spec.proofs.TestLaws.{within_iff}
use Rattle.model_spec.specs.Validity.{sizes_valid, rule_valid}
use Rattle.model_spec.specs.declared.Rule.{Rule}
use Rattle.files_spec.specs.Text.{bytes, line_feed, comma, numeral, line}
use Rattle.files_spec.specs.File.{entry_text, rule_text}
use Rattle.files_spec.specs.Reading.{Parsed, refused, parsed, and_read, literal, number_within, Item, size_item}
use Rattle.files_spec.specs.Reading.{condition_item, effect_item, ending_of, items_after, number_line, list_line}
use Rattle.files_spec.specs.Reading.{rule_lines, rules_after, rule_list, file_lines, reading}
use Rattle.files_spec.specs.Faults.{NumberFault, no_number, number_outside, EntryFault, no_entry, constant_outside}
use Rattle.files_spec.specs.Faults.{variable_outside, misplaced, LineFault, no_key, after_key, ItemTest, ItemFault}
use Rattle.files_spec.specs.Faults.{ListFault, size_faultless, SizeFault, condition_faultless, ConditionFault}
use Rattle.files_spec.specs.Faults.{effect_faultless, EffectFault, RuleFault, in_cost, in_condition, in_effect}
use Rattle.files_spec.specs.Faults.{FileFault, in_positions, in_sizes, in_count, in_rules, left_over}
use Rattle.files_spec.proofs.ParserLaws.{not-refused, then_back, refused_part, refused-first, made_iff}
use Rattle.files_spec.proofs.TextLaws.{ending-digit}
use Rattle.files_spec.proofs.NumberLaws.{literal-read, literal_back}
use Rattle.files_spec.proofs.EntryLaws.{ItemLaw, size_law}
use Rattle.files_spec.proofs.FilledLaws.{EachFaultless, with-last, small_sizes}
use Rattle.files_spec.proofs.LineLaws.{items_through, number-line-read, number-line_back}
use Rattle.files_spec.proofs.FileLaws.{sizes-read, sizes_back, condition_items, condition-read, condition_back}
use Rattle.files_spec.proofs.FileLaws.{effect_items, rule-read, rules_through, file_back}
use Rattle.files_spec.proofs.ReadingLaws.{line_refused, left_over_lem}
use Rattle.files_spec.proofs.ItemFaultLaws.{no_word_iff, number_fault, FaultLaw, size_fault, condition_fault}
use Rattle.files_spec.proofs.ItemFaultLaws.{effect_fault}

-- ── Lines ────────────────────────────────────────────────────────────────────────────────────────

-- a line is refused exactly if its key is not there, or what stands after it has the fault
key_fault : {A : Type 0} (key : String) (next : List ℕ → Parsed A) (n : ℕ) (Fault : List ℕ → Type 0)
    → ((tail : List ℕ) → (next tail ≡ refused n) ↔ Fault tail)
    → (text : List ℕ) → (and_read (literal (bytes key) text) (λ _ rest. next rest) ≡ refused n)
    ↔ LineFault n key Fault text
key_fault key next n Fault judged text = (
  λ e.
      refused_part (literal (bytes key) text) e
      (λ q. let w = (no_word_iff (bytes key) text n).0 q in no_key w.0 w.1)
      (λ _ rest q after. after_key rest (literal-read (bytes key) text rest q) ((judged rest).0 after)),
  back,
)
  where
    back : LineFault n key Fault text → and_read (literal (bytes key) text) (λ _ rest. next rest) ≡ refused n
    back (no_key o none) = refused-first _ ((no_word_iff (bytes key) text n).1 (o, none))
    back (after_key tail e f) =
        then_back (λ _ rest. next rest) (ap (literal (bytes key)) e ∙ literal_back (bytes key) tail) ((judged tail).1 f)

-- a line of one number
number-line_fault : (n : ℕ) (key : String) (lo hi : ℕ) (text : List ℕ) → (number_line key lo hi text ≡ refused n)
    ↔ LineFault n key (NumberFault n lo hi line_feed) text
unfolding number_line
number-line_fault n key lo hi =
    key_fault key (number_within lo hi line_feed) n (NumberFault n lo hi line_feed) (number_fault n line_feed refl lo hi)

-- an item with m more after it, and its comma
comma_joined : (item_text : ℕ → List ℕ) (m : ℕ) (before text : List ℕ) (e : ℕ) (rest : List ℕ) → 1 ≤ m
    → text ≡ item_text e ++ (ending_of m ∷ rest)
    → flat (λ e. item_text e ++ (comma ∷ [])) (before ++ (e ∷ []))
    ++ rest ≡ flat (λ e. item_text e ++ (comma ∷ [])) before ++ text
comma_joined item_text zero before text e rest h s = absurd (omega arith)
comma_joined item_text (suc m) before text e rest h s = simp (flat_append, append_assoc, append-nil, s)

module _ (item : Item) (item_text : ℕ → List ℕ) (faultless : ItemTest) (fault : ItemFault) (n count : ℕ)
    (law : ItemLaw item item_text faultless count) (judged : FaultLaw n item fault count) where
  -- what is refused has an item to be read
  more_items : (m : ℕ) (before text : List ℕ) → items_after item m before text ≡ refused n → 1 ≤ m
  unfolding items_after
  more_items zero before text e = not-refused e
  more_items (suc m) before text e = omega arith

  -- m more items, after faultless ones
  items_refused : (m : ℕ) (before text : List ℕ) → length before + m ≡ count → EachFaultless faultless [] before
      → items_after item m before text ≡ refused n
      → ListFault item_text faultless fault count (flat (λ e. item_text e ++ (comma ∷ [])) before ++ text)
  unfolding items_after
  items_refused zero before text b each e = not-refused e
  items_refused (suc m) before text b each e =
      refused_part (item before (ending_of m) text) e
      (λ q.
      let after : count - 1 - length before ≡ m = omega arith in
      record {
        before = before;
        tail = text;
        fewer = omega arith;
        right = each;
        splits = refl;
        found =
            rw after ((judged before (ending_of m) text (omega arith) (ending-digit m)).0 q);
      })
      (λ x rest q others.
      let r = law.reads before (ending_of m) text x rest (omega arith) q in
      subst (ListFault item_text faultless fault count)
      (comma_joined item_text m before text x rest (more_items m (before ++ (x ∷ [])) rest others) r.1)
      (items_refused m (before ++ (x ∷ [])) rest (omega (arith, length-append before (x ∷ [])))
      (with-last faultless before x each r.0) others))

  -- the items of a line: faultless ones, then one with the fault
  items_fault : (text : List ℕ) → (items_after item count [] text ≡ refused n)
      ↔ ListFault item_text faultless fault count text
  unfolding items_after
  items_fault text = (items_refused count [] text (omega arith) (λ i h. absurd (omega arith)), back)
    where
      back : ListFault item_text faultless fault count text → items_after item count [] text ≡ refused n
      back f =
          let after = count - 1 - length f.before in
          ap (items_after item count []) f.splits
          ∙ items_through item item_text faultless count law f.before count after [] f.tail (omega arith)
          (omega arith) f.right
          ∙ refused-first _ ((judged f.before (ending_of after) f.tail f.fewer (ending-digit after)).1
          f.found)

  -- a line of items
  list-line_fault : (key : String) (text : List ℕ) → (list_line key item count text ≡ refused n)
      ↔ LineFault n key (ListFault item_text faultless fault count) text
  unfolding list_line
  list-line_fault key =
      key_fault key (λ rest. and_read (items_after item count [] rest) (λ items rest. parsed (padded 16 0 items) rest)) n
      (ListFault item_text faultless fault count)
      (λ tail. Iff.trans (made_iff (items_after item count [] tail) (padded 16 0) n) (items_fault tail))

-- ── Rules ────────────────────────────────────────────────────────────────────────────────────────

-- among the lines of `count` rules: valid rules, then one with the fault
abbrev RulesFault : ℕ → ℕ → List ℕ → ℕ → List ℕ → Type 0
RulesFault n positions sizes count text =
    (before : List Rule) × (tail : List ℕ) × (length before < count) × (every (rule_valid positions sizes) before ≡ true)
    × (text ≡ flat (rule_text positions) before ++ tail)
    × RuleFault n positions sizes tail

module _ (n positions : ℕ) (sizes : List ℕ) (some : 1 ≤ positions) (few : positions ≤ 16)
    (limits : sizes_valid positions sizes ≡ true) where
  -- the two lines of entries
  if_fault : (text : List ℕ) → (list_line "if=" (condition_item positions sizes) positions text ≡ refused n)
      ↔ LineFault n "if=" (ListFault entry_text (condition_faultless positions sizes)
      (ConditionFault n positions sizes) positions) text
  if_fault =
      list-line_fault _ _ _ _ n positions (condition_items positions sizes some few limits)
      (condition_fault n positions sizes few (small_sizes positions sizes few limits)) "if="

  then_fault : (condition text : List ℕ) → (list_line "then=" (effect_item positions sizes condition) positions text
      ≡ refused n)
      ↔ LineFault n "then=" (ListFault entry_text (effect_faultless positions sizes condition)
      (EffectFault n positions sizes condition) positions) text
  then_fault condition =
      list-line_fault _ _ _ _ n positions (effect_items positions sizes some few limits condition)
      (effect_fault n positions sizes few (small_sizes positions sizes few limits) condition) "then="

  -- a rule: a line with a fault, after lines that are read
  rule_fault : (text : List ℕ) → (rule_lines positions sizes text ≡ refused n) ↔ RuleFault n positions sizes text
  unfolding rule_lines
  rule_fault text = (found, back)
    where
      found : rule_lines positions sizes text ≡ refused n → RuleFault n positions sizes text
      found e =
          refused_part (number_line "cost=" 0 255 text) e (λ q. in_cost ((number-line_fault n "cost=" 0 255 text).0 q))
          (λ cost r₁ first e₁.
          let u = number-line-read "cost=" 0 255 text cost r₁ first in
          refused_part (list_line "if=" (condition_item positions sizes) positions r₁) e₁
          (λ q. in_condition cost r₁ u.1 u.2 ((if_fault r₁).0 q)) (λ condition r₂ second e₂.
          let v = condition-read positions sizes some few limits r₁ condition r₂ second in
          in_effect cost condition r₂ u.1 v.0 (u.2 ∙ ap (λ s. line "cost=" (numeral cost ∷ []) ++ s) v.1)
          ((then_fault condition r₂).0 ((made_iff _ _ n).0 e₂))))

      back : RuleFault n positions sizes text → rule_lines positions sizes text ≡ refused n
      back (in_cost f) = refused-first _ ((number-line_fault n "cost=" 0 255 text).1 f)
      back (in_condition cost tail small e f) =
          ap (rule_lines positions sizes) e ∙ then_back _
          (number-line_back "cost=" 0 255 cost _ (omega arith) small (omega arith))
          (refused-first _ ((if_fault tail).1 f))
      back (in_effect cost condition tail small valid e f) =
          ap (rule_lines positions sizes) e
          ∙ then_back _ (number-line_back "cost=" 0 255 cost _ (omega arith) small (omega arith))
          (then_back _ (condition_back positions sizes some few limits condition _ valid)
          (refused-first _ ((then_fault condition tail).1 f)))

  -- the lines of m rules, after any
  rules-refused : (m : ℕ) (before : List Rule) (text : List ℕ) → rules_after positions sizes m before text ≡ refused n
      → RulesFault n positions sizes m text
  unfolding rules_after
  rules-refused zero before text e = not-refused e
  rules-refused (suc m) before text e =
      refused_part (rule_lines positions sizes text) e (λ q. ([], text, omega arith, refl, refl, (rule_fault text).0 q))
      (λ rule rest q others.
      let r = rule-read positions sizes some few limits text rule rest q in
      let f = rules-refused m (before ++ (rule ∷ [])) rest others in
      let splits = r.1 ∙ ap (λ s. rule_text positions rule ++ s) f.4
      ∙ sym (append_assoc (rule_text positions rule) (flat (rule_text positions) f.0) f.1) in
      (rule ∷ f.0, f.1, omega arith, and_join r.0 f.3, splits, f.5))

  -- the rules: valid ones, then one with the fault
  rules_fault : (count : ℕ) (text : List ℕ) → (rules_after positions sizes count [] text ≡ refused n)
      ↔ RulesFault n positions sizes count text
  unfolding rules_after
  rules_fault count text = (rules-refused count [] text, back)
    where
      back : RulesFault n positions sizes count text → rules_after positions sizes count [] text ≡ refused n
      back f =
          let after = count - 1 - length f.0 in
          ap (rules_after positions sizes count []) f.4
          ∙ rules_through positions sizes some few limits f.0 count (suc after) [] f.1 (omega arith) f.3
          ∙ refused-first _ ((rule_fault f.1).1 f.5)

-- ── The file ─────────────────────────────────────────────────────────────────────────────────────

-- the line of the sizes
sizes_fault : (n positions : ℕ) (text : List ℕ) → (list_line "sizes=" size_item positions text ≡ refused n)
    ↔ LineFault n "sizes=" (ListFault numeral size_faultless (SizeFault n) positions) text
sizes_fault n positions = list-line_fault _ _ _ _ n positions (size_law positions) (size_fault n positions) "sizes="

-- lines that are refused: one has the fault, after lines that are read
pub lines-refused : (n : ℕ) (text : List ℕ) → file_lines text ≡ refused n → FileFault n text
unfolding file_lines rule_list
lines-refused n text e =
    refused_part (number_line "positions=" 1 16 text) e
    (λ q. in_positions ((number-line_fault n "positions=" 1 16 text).0 q)) (λ positions r₁ first e₁.
    let u = number-line-read "positions=" 1 16 text positions r₁ first in
    let inside = (within_iff 1 16 positions).1 (u.0, u.1) in
    refused_part (list_line "sizes=" size_item positions r₁) e₁
    (λ q. in_sizes positions r₁ inside u.2 ((sizes_fault n positions r₁).0 q)) (λ sizes r₂ second e₂.
    let v = sizes-read positions r₁ sizes r₂ u.0 u.1 second in
    let two = u.2 ∙ ap (λ s. line "positions=" (numeral positions ∷ []) ++ s) v.1 in
    refused_part (number_line "rules=" 1 31 r₂) e₂
    (λ q. in_count positions sizes r₂ inside v.0 two ((number-line_fault n "rules=" 1 31 r₂).0 q))
    (λ count r₃ third e₃.
    let w = number-line-read "rules=" 1 31 r₂ count r₃ third in
    let f = (rules_fault n positions sizes u.0 u.1 v.0 count r₃).0 ((made_iff _ _ n).0 ((made_iff _ _ n).0 e₃)) in
    in_rules positions sizes count f.0 f.1 inside v.0 ((within_iff 1 31 count).1 (w.0, w.1)) f.2 f.3
    (two ∙ ap (λ s. line "positions=" (numeral positions ∷ [])
    ++ (line "sizes=" (map numeral (take positions sizes)) ++ s))
    (w.2 ∙ ap (λ s. line "rules=" (numeral count ∷ []) ++ s) f.4)) f.5)))

-- the outcome is then that number
line-outcome : (text : List ℕ) (n : ℕ) → file_lines text ≡ refused n → (reading text).outcome ≡ n
line-outcome text n e = ap (λ r. r.outcome) (line_refused text n e)

-- a text with a fault is refused by its number
pub fault-refused : (n : ℕ) (text : List ℕ) → FileFault n text → (reading text).outcome ≡ n
unfolding file_lines rule_list
fault-refused n text (in_positions f) =
    line-outcome text n (refused-first _ ((number-line_fault n "positions=" 1 16 text).1 f))
fault-refused n text (in_sizes positions tail inside e f) =
    let u = (within_iff 1 16 positions).0 inside in
    line-outcome text n
    (ap file_lines e ∙ then_back _ (number-line_back "positions=" 1 16 positions _ u.0 u.1 (omega arith))
    (refused-first _ ((sizes_fault n positions tail).1 f)))
fault-refused n text (in_count positions sizes tail inside limits e f) =
    let u = (within_iff 1 16 positions).0 inside in
    line-outcome text n
    (ap file_lines e
    ∙ then_back _ (number-line_back "positions=" 1 16 positions _ u.0 u.1 (omega arith))
    (then_back _ (sizes_back positions sizes _ u.0 u.1 limits)
    (refused-first _ ((number-line_fault n "rules=" 1 31 tail).1 f))))
fault-refused n text (in_rules positions sizes count before tail inside limits some fewer valid e f) =
    let u = (within_iff 1 16 positions).0 inside in
    let w = (within_iff 1 31 count).0 some in
    line-outcome text n
    (ap file_lines e
    ∙ then_back _ (number-line_back "positions=" 1 16 positions _ u.0 u.1 (omega arith))
    (then_back _ (sizes_back positions sizes _ u.0 u.1 limits)
    (then_back _ (number-line_back "rules=" 1 31 count _ w.0 w.1 (omega arith))
    (refused-first _ (refused-first _ ((rules_fault n positions sizes u.0 u.1 limits count _).1
    (before, tail, fewer, valid, refl, f)))))))
fault-refused n text (left_over o set b rest formed e) =
    ap (λ r. r.outcome) (left_over_lem text set b rest (ap file_lines e ∙ file_back set (b ∷ rest) formed)) ∙ sym o

-- ── The numbers of faults: 1 to 3 ────────────────────────────────────────────────────────────────

number_limits : {n lo hi ending : ℕ} {text : List ℕ} → NumberFault n lo hi ending text → (1 ≤ n) × (n ≤ 3)
number_limits (no_number o none) = omega arith
number_limits (number_outside o m short outside starts) = omega arith

entry_limits : {n positions : ℕ} {sizes : List ℕ} {placed : ℕ → Bool} {i ending : ℕ} {text : List ℕ}
    → EntryFault n positions sizes placed i ending text → (1 ≤ n) × (n ≤ 3)
entry_limits (no_entry o number variable) = omega arith
entry_limits (constant_outside o c short over starts) = omega arith
entry_limits (variable_outside o j short outside starts) = omega arith
entry_limits (misplaced o e limited out starts) = omega arith

line_limits : {n : ℕ} {key : String} {Fault : List ℕ → Type 0} {text : List ℕ}
    → ((tail : List ℕ) → Fault tail → (1 ≤ n) × (n ≤ 3)) → LineFault n key Fault text → (1 ≤ n) × (n ≤ 3)
line_limits each (no_key o none) = omega arith
line_limits each (after_key tail e f) = each tail f

rule_limits : {n positions : ℕ} {sizes text : List ℕ} → RuleFault n positions sizes text → (1 ≤ n) × (n ≤ 3)
rule_limits (in_cost f) = line_limits (λ _ g. number_limits g) f
rule_limits (in_condition cost tail small e f) = line_limits (λ _ g. entry_limits g.found) f
rule_limits (in_effect cost condition tail small valid e f) = line_limits (λ _ g. entry_limits g.found) f

file_limits : {n : ℕ} {text : List ℕ} → FileFault n text → (1 ≤ n) × (n ≤ 3)
file_limits (in_positions f) = line_limits (λ _ g. number_limits g) f
file_limits (in_sizes positions tail inside e f) = line_limits (λ _ g. number_limits g.found) f
file_limits (in_count positions sizes tail inside limits e f) = line_limits (λ _ g. number_limits g) f
file_limits (in_rules positions sizes count before tail inside limits some fewer valid e f) = rule_limits f
file_limits (left_over o set b rest formed e) = omega arith

-- lines are refused by 1, 2 or 3
pub lines_limits : (text : List ℕ) (n : ℕ) → file_lines text ≡ refused n → (1 ≤ n) × (n ≤ 3)
lines_limits text n e = file_limits (lines-refused n text e)
