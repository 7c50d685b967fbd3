-- Outcomes 1, 2 and 3 as statements, beside the reader. The text has a faultless front, and then, where a key or an
-- item is due: no such key, or no item with the byte that ends it (1); an item outside its limit (2); an item within
-- its limit and out of place (3). What stands after it does not matter. Bytes left over after the whole file are 1.
use Rattle.std.specs.Prelude.{◌≡◌, Bool, true, false, ◌&&◌, List, [], ◌∷◌, ◌++◌, map, ℕ, ◌-◌, ◌≤◌, ◌<◌, length, get_or}
use Rattle.std.specs.Prelude.{take}
use Prim.Native.String.{String}
use Rattle.theory_spec.specs.Lists.{flat, within, every}
use Rattle.model_spec.specs.Limits.{max_positions, max_size, max_rules, max_rule_cost}
use Rattle.model_spec.specs.Validity.{entry_limited, condition_placed, effect_placed, condition_valid, sizes_valid}
use Rattle.model_spec.specs.Validity.{rule_valid, well_formed}
use Rattle.model_spec.specs.declared.Rule.{Rule}
use Rattle.model_spec.specs.declared.RuleSet.{RuleSet}
use Rattle.files_spec.specs.Text.{bytes, line_feed, comma, numeral, line}
use Rattle.files_spec.specs.File.{variable_letter, entry_text, rule_text, render}
use Rattle.files_spec.specs.Reading.{ending_of, Faultless, OnlyDuplicates}

-- ── Items ────────────────────────────────────────────────────────────────────────────────────────

-- the text starts with these bytes and the byte that ends them
abbrev pub Starts : List ℕ → ℕ → List ℕ → Type 0
Starts item ending text = (rest : List ℕ) × (text ≡ item ++ (ending ∷ rest))

-- no number below 1000, written like this and with the byte that ends it, stands at the front of the text. No number of
-- a file is larger
abbrev pub NoneStarts : (ℕ → List ℕ) → ℕ → List ℕ → Type 0
NoneStarts written ending text = (m : ℕ) → m < 1000 → Starts (written m) ending text → ⊥

-- the fault of a number: there is none, 1; it is not one from lo to hi, 2
pub data NumberFault (n lo hi ending : ℕ) (text : List ℕ) : Type 0 where
  no_number : n ≡ 1 → NoneStarts numeral ending text → NumberFault n lo hi ending text
  number_outside : n ≡ 2 → (m : ℕ) → m < 1000 → ((lo ≤ m) × (m ≤ hi) → ⊥) → Starts (numeral m) ending text
      → NumberFault n lo hi ending text

-- a variable with this number, as it is written
abbrev pub variable_text : ℕ → List ℕ
variable_text j = variable_letter ∷ numeral j

-- the fault of an entry at place i: there is none, 1; a constant not below the size, 2; `x` and a number that is no
-- position's, 2; an entry within its limit that does not pass the test of its place, 3
pub data EntryFault (n positions : ℕ) (sizes : List ℕ) (placed : ℕ → Bool) (i ending : ℕ) (text : List ℕ) : Type 0 where
  no_entry : n ≡ 1 → NoneStarts numeral ending text → NoneStarts variable_text ending text
      → EntryFault n positions sizes placed i ending text
  constant_outside : n ≡ 2 → (c : ℕ) → c < 1000 → get_or sizes i 0 ≤ c → Starts (numeral c) ending text
      → EntryFault n positions sizes placed i ending text
  variable_outside : n ≡ 2 → (j : ℕ) → j < 1000 → ((1 ≤ j) × (j ≤ positions) → ⊥) → Starts (variable_text j) ending text
      → EntryFault n positions sizes placed i ending text
  misplaced : n ≡ 3 → (e : ℕ) → entry_limited positions sizes i e ≡ true → placed e ≡ false
      → Starts (entry_text e) ending text → EntryFault n positions sizes placed i ending text

-- ── Lines ────────────────────────────────────────────────────────────────────────────────────────

-- the fault of a line: its key is not there, 1; or what stands after the key has the fault
pub data LineFault (n : ℕ) (key : String) (Fault : List ℕ → Type 0) (text : List ℕ) : Type 0 where
  no_key : n ≡ 1 → ((tail : List ℕ) → text ≡ bytes key ++ tail → ⊥) → LineFault n key Fault text
  after_key : (tail : List ℕ) → text ≡ bytes key ++ tail → Fault tail → LineFault n key Fault text

-- an item is without fault, or has one, by what stands before it in the list
abbrev pub ItemTest : Type 0
ItemTest = List ℕ → ℕ → Bool

abbrev pub ItemFault : Type 1
ItemFault = List ℕ → ℕ → List ℕ → Type 0

-- after the key of a line of `count` items: faultless ones, each with its text and a comma, then one with the fault
pub record ListFault (item_text : ℕ → List ℕ) (faultless : ItemTest) (fault : ItemFault) (count : ℕ)
    (text : List ℕ) : Type 0 where
  pub before : List ℕ
  pub tail : List ℕ
  pub fewer : length before < count
  pub right : (i : ℕ) → i < length before → faultless (take i before) (get_or before i 0) ≡ true
  pub splits : text ≡ flat (λ e. item_text e ++ (comma ∷ [])) before ++ tail
  pub found : fault before (ending_of (count - 1 - length before)) tail

-- a size
unfoldable pub size_faultless : ItemTest
size_faultless before size = within 1 max_size size

abbrev pub SizeFault : ℕ → ItemFault
SizeFault n before ending text = NumberFault n 1 max_size ending text

-- an entry of a condition (document 01: the `if` line)
unfoldable pub condition_faultless : ℕ → List ℕ → ItemTest
condition_faultless positions sizes before e =
    entry_limited positions sizes (length before) e
    && condition_placed positions sizes (before ++ (e ∷ [])) (length before) e

abbrev pub ConditionFault : ℕ → ℕ → List ℕ → ItemFault
ConditionFault n positions sizes before ending text =
    EntryFault n positions sizes
    (λ e. condition_placed positions sizes (before ++ (e ∷ [])) (length before) e)
    (length before) ending text

-- an entry of an effect (document 01: the `then` line), after its condition
unfoldable pub effect_faultless : ℕ → List ℕ → List ℕ → ItemTest
effect_faultless positions sizes condition before e =
    entry_limited positions sizes (length before) e
    && effect_placed positions sizes condition (length before) e

abbrev pub EffectFault : ℕ → ℕ → List ℕ → List ℕ → ItemFault
EffectFault n positions sizes condition before ending text =
    EntryFault n positions sizes
    (λ e. effect_placed positions sizes condition (length before) e)
    (length before) ending text

-- ── Rules and the file ───────────────────────────────────────────────────────────────────────────

-- in the lines of a rule
pub data RuleFault (n positions : ℕ) (sizes text : List ℕ) : Type 0 where
  in_cost : LineFault n "cost=" (NumberFault n 0 max_rule_cost line_feed) text → RuleFault n positions sizes text
  in_condition : (cost : ℕ) (tail : List ℕ) → cost ≤ max_rule_cost
      → text ≡ line "cost=" (numeral cost ∷ []) ++ tail
      → LineFault n "if="
      (ListFault entry_text (condition_faultless positions sizes) (ConditionFault n positions sizes) positions) tail
      → RuleFault n positions sizes text
  in_effect : (cost : ℕ) (condition tail : List ℕ) → cost ≤ max_rule_cost
      → condition_valid positions sizes condition ≡ true
      → text ≡ line "cost=" (numeral cost ∷ []) ++ (line "if=" (map entry_text (take positions condition)) ++ tail)
      → LineFault n "then="
      (ListFault entry_text
      (effect_faultless positions sizes condition) (EffectFault n positions sizes condition) positions) tail
      → RuleFault n positions sizes text

-- in the file: n is 1, 2 or 3
pub data FileFault (n : ℕ) (text : List ℕ) : Type 0 where
  in_positions : LineFault n "positions=" (NumberFault n 1 max_positions line_feed) text → FileFault n text
  in_sizes : (positions : ℕ) (tail : List ℕ) → within 1 max_positions positions ≡ true
      → text ≡ line "positions=" (numeral positions ∷ []) ++ tail
      → LineFault n "sizes=" (ListFault numeral size_faultless (SizeFault n) positions) tail → FileFault n text
  in_count : (positions : ℕ) (sizes tail : List ℕ)
      → within 1 max_positions positions ≡ true → sizes_valid positions sizes ≡ true
      → text ≡ line "positions=" (numeral positions ∷ [])
      ++ (line "sizes=" (map numeral (take positions sizes)) ++ tail)
      → LineFault n "rules=" (NumberFault n 1 max_rules line_feed) tail → FileFault n text
  in_rules : (positions : ℕ) (sizes : List ℕ) (count : ℕ) (before : List Rule) (tail : List ℕ)
      → within 1 max_positions positions ≡ true → sizes_valid positions sizes ≡ true → within 1 max_rules count ≡ true
      → length before < count → every (rule_valid positions sizes) before ≡ true
      → text ≡ line "positions=" (numeral positions ∷ [])
      ++ (line "sizes=" (map numeral (take positions sizes))
      ++ (line "rules=" (numeral count ∷ [])
      ++ (flat (rule_text positions) before ++ tail)))
      → RuleFault n positions sizes tail → FileFault n text
  left_over : n ≡ 1 → (set : RuleSet) (b : ℕ) (rest : List ℕ) → well_formed set ≡ true
      → text ≡ render set ++ (b ∷ rest) → FileFault n text

-- ── What is left ─────────────────────────────────────────────────────────────────────────────────

-- neither faultless, nor with a fault of another number than 1
abbrev pub NoOther : List ℕ → Type 0
NoOther text = (Faultless text → ⊥) × (FileFault 2 text → ⊥) × (FileFault 3 text → ⊥) × (OnlyDuplicates text → ⊥)
