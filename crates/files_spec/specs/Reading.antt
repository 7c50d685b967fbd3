-- Reading a rule file, judged in text order, item by item: an item's bytes and the byte that ends it for 1, then its
-- limit for 2, then its place for 3, then the next item. Bytes left over are 1; duplicates, 4, come last.
use Rattle.std.specs.Prelude.{◌≡◌, Bool, true, not, cond, ◌&&◌, ◌||◌, List, [], ◌∷◌, ◌++◌, ℕ, zero, suc, ◌+◌, ◌-◌, ◌*◌}
use Rattle.std.specs.Prelude.{ltb, eqb, length, get_or, drop}
use Prim.Native.String.{String}
use Rattle.theory_spec.specs.Lists.{within, padded}
use Rattle.model_spec.specs.Limits.{max_positions, place_count, max_size, max_rules, max_rule_cost}
use Rattle.model_spec.specs.Rules.{blank_rule, empty_set}
use Rattle.model_spec.specs.Validity.{condition_placed, effect_placed, has_duplicates, well_formed, Valid}
use Rattle.model_spec.specs.declared.Rule.{Rule}
use Rattle.model_spec.specs.declared.RuleSet.{RuleSet}
use Rattle.files_spec.specs.Text.{bytes, line_feed, comma}
use Rattle.files_spec.specs.File.{variable_letter, render}
use Rattle.files_spec.specs.declared.Reading.{Reading}

-- what the front of a text gives: a value and the bytes after it, or a refusal's number
pub data Parsed (A : Type 0) : Type 0 where
  refused : ℕ → Parsed A
  parsed : A → List ℕ → Parsed A

-- go on with the bytes after a value; a refusal stands
abbrev pub and_read : {A B : Type 0} → Parsed A → (A → List ℕ → Parsed B) → Parsed B
and_read (refused n) next = refused n
and_read (parsed a rest) next = next a rest

-- a value is judged for the refusal n: it stands where the test passes
abbrev pub refused_unless : {A : Type 0} → ℕ → (A → Bool) → Parsed A → Parsed A
refused_unless n test p = and_read p (λ a rest. cond (test a) (parsed a rest) (refused n))

-- ── Bytes and numbers, judged for 1 ──────────────────────────────────────────────────────────────

-- these very bytes
unfoldable pub literal : List ℕ → List ℕ → Parsed (Unit {0})
literal [] text = parsed tt text
literal (b ∷ word) [] = refused 1
literal (b ∷ word) (c ∷ text) = cond (eqb b c) (literal word text) (refused 1)

abbrev pub is_digit : ℕ → Bool
is_digit b = within 48 57 b

-- the digits at the front of a text
unfoldable pub digits : List ℕ → List ℕ
digits [] = []
digits (b ∷ text) = cond (is_digit b) (b ∷ digits text) []

-- digits that are a number: 0, or one to three digits with the first not 0
unfoldable pub is_number : List ℕ → Bool
is_number ds = within 1 3 (length ds) && (eqb (length ds) 1 || not (eqb (get_or ds 0 0) 48))

-- the number that digits stand for, after those of n
abbrev pub decimal_from : ℕ → List ℕ → ℕ
decimal_from n [] = n
decimal_from n (d ∷ ds) = decimal_from (10 * n + (d - 48)) ds

-- the number that digits stand for
unfoldable pub decimal : List ℕ → ℕ
decimal ds = decimal_from 0 ds

-- a number and the byte that ends it
unfoldable pub number : ℕ → List ℕ → Parsed ℕ
number ending text =
    cond (is_number (digits text))
    (and_read (literal (ending ∷ []) (drop (length (digits text)) text))
    (λ _ rest. parsed (decimal (digits text)) rest))
    (refused 1)

-- ── Items, judged for 1, then 2, then 3 ──────────────────────────────────────────────────────────

-- a number from lo to hi
unfoldable pub number_within : ℕ → ℕ → ℕ → List ℕ → Parsed ℕ
number_within lo hi ending text = refused_unless 2 (within lo hi) (number ending text)

-- a variable's position, from 1 to the number of positions
unfoldable pub variable : ℕ → ℕ → List ℕ → Parsed ℕ
variable positions ending text = and_read (number_within 1 positions ending text) (λ j rest. parsed (15 + j) rest)

-- a constant below the size
unfoldable pub constant : ℕ → ℕ → List ℕ → Parsed ℕ
constant size ending text = refused_unless 2 (λ n. ltb n size) (number ending text)

-- an entry at place i: `x` and a position number, or a constant
unfoldable pub entry : ℕ → List ℕ → ℕ → ℕ → List ℕ → Parsed ℕ
entry positions sizes i ending text =
    cond (eqb (get_or text 0 0) variable_letter)
    (variable positions ending (drop 1 text))
    (constant (get_or sizes i 0) ending text)

-- an item of a list is read by what stands before it in the list, the byte that is to end it, and the text
abbrev pub Item : Type 0
Item = List ℕ → ℕ → List ℕ → Parsed ℕ

-- a size: a number from 1 to 16
unfoldable pub size_item : Item
size_item before ending text = number_within 1 max_size ending text

-- an entry of an `if` line, judged for its place after those before it
unfoldable pub condition_item : ℕ → List ℕ → Item
condition_item positions sizes before ending text =
    refused_unless 3 (λ e. condition_placed positions sizes (before ++ (e ∷ [])) (length before) e)
    (entry positions sizes (length before) ending text)

-- an entry of a `then` line, judged for its place by the `if` line
unfoldable pub effect_item : ℕ → List ℕ → List ℕ → Item
effect_item positions sizes condition before ending text =
    refused_unless 3 (λ e. effect_placed positions sizes condition (length before) e)
    (entry positions sizes (length before) ending text)

-- ── Lines ────────────────────────────────────────────────────────────────────────────────────────

-- the byte that ends an item with so many items after it
abbrev pub ending_of : ℕ → ℕ
ending_of zero = line_feed
ending_of (suc after) = comma

-- n more items of a list, after those before
unfoldable pub items_after : Item → ℕ → List ℕ → List ℕ → Parsed (List ℕ)
items_after item zero before text = parsed before text
items_after item (suc n) before text =
    and_read (item before (ending_of n) text) (λ e rest. items_after item n (before ++ (e ∷ [])) rest)

-- a line with a key and one number
unfoldable pub number_line : String → ℕ → ℕ → List ℕ → Parsed ℕ
number_line key lo hi text = and_read (literal (bytes key) text) (λ _ rest. number_within lo hi line_feed rest)

-- a line with a key and a list of n items; the places beyond them are 0
unfoldable pub list_line : String → Item → ℕ → List ℕ → Parsed (List ℕ)
list_line key item n text =
    and_read (literal (bytes key) text) (λ _ rest.
    and_read (items_after item n [] rest) (λ items rest.
    parsed (padded place_count 0 items) rest))

-- the lines of a rule
unfoldable pub rule_lines : ℕ → List ℕ → List ℕ → Parsed Rule
rule_lines positions sizes text =
    and_read (number_line "cost=" 0 max_rule_cost text) (λ cost rest.
    and_read (list_line "if=" (condition_item positions sizes) positions rest) (λ condition rest.
    and_read (list_line "then=" (effect_item positions sizes condition) positions rest) (λ effect rest.
    parsed (record { cost = cost; condition = condition; effect = effect }) rest)))

-- the lines of n more rules, after those before
unfoldable pub rules_after : ℕ → List ℕ → ℕ → List Rule → List ℕ → Parsed (List Rule)
rules_after positions sizes zero before text = parsed before text
rules_after positions sizes (suc n) before text =
    and_read (rule_lines positions sizes text) (λ rule rest. rules_after positions sizes n (before ++ (rule ∷ [])) rest)

-- the lines of n rules; the rules beyond them are zero throughout
unfoldable pub rule_list : ℕ → List ℕ → ℕ → List ℕ → Parsed (List Rule)
rule_list positions sizes n text =
    and_read (rules_after positions sizes n [] text) (λ rules rest. parsed (padded max_rules blank_rule rules) rest)

-- ── The file ─────────────────────────────────────────────────────────────────────────────────────

-- the lines of the file
unfoldable pub file_lines : List ℕ → Parsed RuleSet
file_lines text =
    and_read (number_line "positions=" 1 max_positions text) (λ positions rest.
    and_read (list_line "sizes=" size_item positions rest) (λ sizes rest.
    and_read (number_line "rules=" 1 max_rules rest) (λ count rest.
    and_read (rule_list positions sizes count rest) (λ rules rest.
    parsed (record { positions = positions; sizes = sizes; count = count; rules = rules }) rest))))

-- bytes left over: 1; then duplicates: 4
unfoldable pub finished : Parsed RuleSet → Reading
finished (refused n) = record { outcome = n; set = empty_set }
finished (parsed set (b ∷ rest)) = record { outcome = 1; set = empty_set }
finished (parsed set []) =
    cond (has_duplicates set.rules set.count)
    (record { outcome = 4; set = empty_set })
    (record { outcome = 0; set = set })

-- what the reader gives of a text
unfoldable pub reading : List ℕ → Reading
reading text = finished (file_lines text)

-- ── The same as statements ───────────────────────────────────────────────────────────────────────

-- the text is read as the set, with outcome 0
abbrev pub ReadAs : List ℕ → RuleSet → Type 0
ReadAs text set = reading text ≡ record { outcome = 0; set = set }

-- some accepted file gives the set (document 01: the set is sound). These are the valid sets: `readable_iff`
abbrev pub Readable : RuleSet → Type 0
Readable set = (text : List ℕ) × ReadAs text set

-- the text has no fault: it is the file of a valid set
abbrev pub Faultless : List ℕ → Type 0
Faultless text = (set : RuleSet) × Valid set × (text ≡ render set)

-- its only fault is that rules are duplicates (documents 01 and 02: twins), outcome 4
abbrev pub OnlyDuplicates : List ℕ → Type 0
OnlyDuplicates text =
    (set : RuleSet) × (well_formed set ≡ true)
    × (has_duplicates set.rules set.count ≡ true)
    × (text ≡ render set)
