-- A text is judged by its front: what stands beyond its first 4,293 bytes changes neither what the reader gives of it
-- nor its listing. So a buffer of that many bytes or more will do for texts of
-- any length. Each parser of the reader is shown to be decided by so many bytes, and to use so many at most.
-- Assumes nothing.
use mathlib.Core.Path.{◌≡◌, refl, sym, ap, ◌∙◌}
use mathlib.Core.Logic.{⊎_elim}
use mathlib.Core.Bool.{Bool, true, false, cond}
use mathlib.Core.List.{List, [], ◌∷◌, ◌++◌, append_assoc}
use Prim.Native.Nat.{ℕ, zero, suc, ◌+◌, ◌-◌, ◌*◌, ◌≤◌, ◌<◌}
use Prim.Native.String.{String}
use native.Mathlib.Omega.{arith}
use lib.Dec.{ltb, eqb}
use lib.ListN.{length, get_or, take, drop, length-append, take-append-drop}
use lib.Seq.{take-append-add, take_at}
use borrow.Author.Tests.{ltb-true}
use Rattle.theory_spec.specs.Lists.{within, padded}
use Rattle.theory_spec.proofs.ListLaws.{and_split}
use Rattle.theory_spec.proofs.TestLaws.{below?, within_iff}
use Rattle.model_spec.specs.Rules.{blank_rule}
use Rattle.model_spec.specs.Validity.{condition_placed, effect_placed, well_formed, valid}
use Rattle.model_spec.specs.declared.Rule.{Rule}
use Rattle.model_spec.specs.declared.RuleSet.{RuleSet}
use Rattle.model_spec.proofs.ValidityLaws.{condition_placed_iff, valid_iff}
use Rattle.files_spec.specs.Text.{bytes, line_feed, numeral}
use Rattle.files_spec.specs.File.{variable_letter, render}
use Rattle.files_spec.specs.Reading.{Parsed, refused, parsed, and_read, literal, is_digit, number, number_within, variable}
use Rattle.files_spec.specs.Reading.{constant, entry, Item, size_item, condition_item, effect_item}
use Rattle.files_spec.specs.Reading.{ending_of, items_after, number_line, list_line, rule_lines, rules_after, rule_list}
use Rattle.files_spec.specs.Reading.{file_lines, finished, reading}
use Rattle.files_spec.specs.Faults.{NumberFault, no_number, number_outside, left_over}
use Rattle.files_spec.proofs.ParserLaws.{not-refused, refused-first}
use Rattle.files_spec.proofs.TextLaws.{ending-digit}
use Rattle.files_spec.proofs.NumberLaws.{number_read, number_back}
use Rattle.files_spec.proofs.FilledLaws.{small_sizes}
use Rattle.files_spec.proofs.ItemFaultLaws.{number_fault}
use Rattle.files_spec.proofs.FileLaws.{sizes-read}
use Rattle.files_spec.proofs.RoundTrip.{accepted_iff}
use Rattle.files_spec.proofs.FaultLaws.{form_iff}
use Rattle.files_spec.proofs.LengthLaws.{numeral-length}
use Rattle.files_spec.proofs.LongestFile.{longest, longest-valid, longest-length}
use Rattle.report_spec.specs.Listing.{listing}
use Rattle.report_spec.proofs.FrontLaws.{Agrees, ByFront, Within, weaker, value_front, also_front, behind_one}
use Rattle.report_spec.proofs.FrontLaws.{then_front, judged_front}

-- ── Words and numbers ────────────────────────────────────────────────────────────────────────────

-- a word
word_front : (word : List ℕ) → ByFront (Within (length word)) (length word) (literal word)
unfolding literal
word_front [] text n h = value_front {A = Unit {0}} (Within 0) 0 tt (omega arith) text n h
word_front (b ∷ word) [] zero h = refl
word_front (b ∷ word) [] (suc n) h = refl
word_front (b ∷ word) (c ∷ text) zero h = absurd (omega arith)
word_front (b ∷ word) (c ∷ text) (suc n) h = go (eqb b c) (literal word text) (word_front word text n (omega arith))
  where
    go : (t : Bool) (q : Parsed (Unit {0})) → Agrees (Within (length word)) n q (literal word (take n text))
        → Agrees (Within (suc (length word))) (suc n) (cond t q (refused 1))
        (cond t (literal word (take n text)) (refused 1))
    go true q w =
        behind_one (Within (length word)) (Within (suc (length word))) (λ _ u h. omega arith) n q
        (literal word (take n text)) w
    go false q w = refl

-- the bytes that a number uses, with the one that ends it
record NumberUse (m u : ℕ) : Type 0 where
  most : u ≤ 4
  two : m < 100 → u ≤ 3
  one : m < 10 → u ≤ 2

-- those that an entry uses, with the one that ends it: up to x9 one less
abbrev EntryUse : ℕ → ℕ → Type 0
EntryUse e u = (u ≤ 4) × (e < 25 → u ≤ 3)

-- the first n bytes of a text with an item at its front, and the byte that ends it
item_cut : (item : List ℕ) (ending : ℕ) (rest : List ℕ) (n : ℕ) → length item + 1 ≤ n
    → take n (item ++ (ending ∷ rest)) ≡ item ++ (ending ∷ take (n - (length item + 1)) rest)
item_cut item ending rest n h =
    let same : n ≡ length item + suc (n - (length item + 1)) = omega arith in
    ap (λ m. take m (item ++ (ending ∷ rest))) same ∙ take-append-add item (ending ∷ rest) (suc (n - (length item + 1)))

module _ (ending : ℕ) (digit : is_digit ending ≡ false) where
  -- a number is refused by 1 alone
  no_number_lem : (text : List ℕ) (r : ℕ) → number ending text ≡ refused r → r ≡ 1
  unfolding number_within
  no_number_lem text r e = go ((number_fault r ending digit 0 0 text).0 (refused-first _ e))
    where
      go : NumberFault r 0 0 ending text → r ≡ 1
      go (no_number o none) = o
      go (number_outside o m short outside starts) =
          not-refused (sym (ap (number ending) starts.1 ∙ number_back ending m starts.0 digit short) ∙ e)

  -- a number
  number_front : ByFront NumberUse 4 (number ending)
  number_front text n h = go (number ending text) refl
    where
      cut-refused : (r : ℕ) → number ending text ≡ refused r → (q : Parsed ℕ) → number ending (take n text) ≡ q
          → q ≡ refused r
      cut-refused r e (refused s) f = ap refused (no_number_lem (take n text) s f ∙ sym (no_number_lem text r e))
      cut-refused r e (parsed m rest) f =
          let w = number_read ending (take n text) m rest f in
          let whole = sym (take-append-drop n text) ∙ ap (λ s. s ++ drop n text) w.1
          ∙ append_assoc (numeral m) (ending ∷ rest) (drop n text) in
          not-refused (sym (ap (number ending) whole ∙ number_back ending m (rest ++ drop n text) digit w.0) ∙ e)

      go : (q : Parsed ℕ) → number ending text ≡ q → Agrees NumberUse n q (number ending (take n text))
      go (refused r) e = cut-refused r e (number ending (take n text)) refl
      go (parsed m rest) e =
          let w = number_read ending text m rest e in
          let long = numeral-length m in
          let cut = ap (take n) w.1 ∙ item_cut (numeral m) ending rest n (omega arith) in (
            length (numeral m) + 1,
            record { most = omega arith; two = λ k. omega (arith, long.1 k); one = λ k. omega (arith, long.2 k) },
            ap (number ending) cut ∙ number_back ending m (take (n - (length (numeral m) + 1)) rest) digit w.0,
          )

  -- a number from lo to hi
  within_front : (lo hi : ℕ) → ByFront (λ m u. (within lo hi m ≡ true) × NumberUse m u) 4 (number_within lo hi ending)
  unfolding number_within
  within_front lo hi = judged_front NumberUse 2 4 (within lo hi) (number ending) number_front

  -- ── Entries and items ────────────────────────────────────────────────────────────────────────────

  -- a variable's number
  variable_front : (positions : ℕ) → positions ≤ 16
      → ByFront (λ e u. (u ≤ 3) × (e < 25 → u ≤ 2)) 4 (variable positions ending)
  unfolding variable
  variable_front positions few =
      then_front (λ m u. (within 1 positions m ≡ true) × NumberUse m u) (λ e u. (u ≤ 3) × (e < 25 → u ≤ 2)) 4 4
      (number_within 1 positions ending) (λ j rest. parsed (15 + j) rest)
      (within_front 1 positions) (omega arith) (λ j u h.
      let limits = (within_iff 1 positions j).0 h.0 in
      value_front (λ e w. (u + w ≤ 3) × (e < 25 → u + w ≤ 2)) (4 - u) (15 + j)
      (omega (arith, h.1.two (omega arith)), λ k. omega (arith, h.1.one (omega arith))))

  -- a constant
  constant_front : (size : ℕ) → size ≤ 16 → ByFront EntryUse 4 (constant size ending)
  unfolding constant
  constant_front size small =
      weaker (λ c u. (ltb c size ≡ true) × NumberUse c u) EntryUse
      (λ c u h. (h.1.most, λ _. let below = ltb-true c size h.0 in h.1.two (omega arith))) 4 4
      (constant size ending) (omega arith)
      (judged_front NumberUse 2 4 (λ c. ltb c size) (number ending) number_front)

  -- an entry
  entry_front : (positions : ℕ) (sizes : List ℕ) (i : ℕ) → positions ≤ 16 → get_or sizes i 0 ≤ 16
      → ByFront EntryUse 5 (entry positions sizes i ending)
  unfolding entry
  entry_front positions sizes i few small text zero h = absurd (omega arith)
  entry_front positions sizes i few small [] (suc n) h = constant_front (get_or sizes i 0) small [] (suc n) (omega arith)
  entry_front positions sizes i few small (b ∷ text) (suc n) h = go (eqb b variable_letter)
    where
      go : (t : Bool) → Agrees EntryUse (suc n)
          (cond t (variable positions ending text) (constant (get_or sizes i 0) ending (b ∷ text)))
          (cond t (variable positions ending (take n text)) (constant (get_or sizes i 0) ending (b ∷ take n text)))
      go true =
          behind_one (λ e u. (u ≤ 3) × (e < 25 → u ≤ 2)) EntryUse (λ _ u k. (omega arith, λ c. omega (arith, k.1 c))) n
          (variable positions ending text) (variable positions ending (take n text))
          (variable_front positions few text n (omega arith))
      go false = constant_front (get_or sizes i 0) small (b ∷ text) (suc n) (omega arith)

-- a variable in place in a condition is not later than its place
placed_early : (positions : ℕ) (sizes condition : List ℕ) (i e : ℕ)
    → condition_placed positions sizes condition i e ≡ true → e ≤ 16 + i
placed_early positions sizes condition i e h =
    ⊎_elim (λ c. omega arith)
    (λ v. omega (arith, ((condition_placed_iff positions sizes condition i e).0 h v).1.1.0)) (below? e 16)

-- a size
size_front : (before : List ℕ) (ending : ℕ) → is_digit ending ≡ false → ByFront (Within 3) 4 (size_item before ending)
unfolding size_item
size_front before ending digit =
    weaker (λ m u. (within 1 16 m ≡ true) × NumberUse m u) (Within 3)
    (λ m u h. let limits = (within_iff 1 16 m).0 h.0 in h.1.two (omega arith)) 4 4 (size_item before ending)
    (omega arith)
    (within_front ending digit 1 16)

module _ (positions : ℕ) (sizes : List ℕ) (few : positions ≤ 16) (small : (i : ℕ) → i < positions → get_or sizes i 0 ≤ 16)
    (before : List ℕ) (ending : ℕ)
    (inside : length before < positions) (digit : is_digit ending ≡ false) where
  -- an entry of a condition: in its first nine places no variable is beyond x9
  condition_front : ByFront (λ _ u. (u ≤ 4) × (length before < 9 → u ≤ 3)) 5
      (condition_item positions sizes before ending)
  unfolding condition_item
  condition_front =
      weaker (λ e u. (placed e ≡ true) × EntryUse e u) (λ _ u. (u ≤ 4) × (length before < 9 → u ≤ 3))
      (λ e u h. (
        h.1.0,
        λ k. h.1.1 (omega (
          arith,
          placed_early positions sizes (before ++ (e ∷ [])) (length before) e h.0,
        )),
      )) 5 5
      (condition_item positions sizes before ending) (omega arith)
      (judged_front EntryUse 3 5 placed (entry positions sizes (length before) ending)
      (entry_front ending digit positions sizes (length before) few (small (length before) inside)))
    where
      placed : ℕ → Bool
      placed e = condition_placed positions sizes (before ++ (e ∷ [])) (length before) e

  -- an entry of an effect
  effect_front : (condition : List ℕ) → ByFront (Within 4) 5 (effect_item positions sizes condition before ending)
  unfolding effect_item
  effect_front condition =
      weaker (λ e u. (placed e ≡ true) × EntryUse e u) (Within 4) (λ e u h. h.1.0) 5 5
      (effect_item positions sizes condition before ending) (omega arith)
      (judged_front EntryUse 3 5 placed (entry positions sizes (length before) ending)
      (entry_front ending digit positions sizes (length before) few (small (length before) inside)))
    where
      placed : ℕ → Bool
      placed e = effect_placed positions sizes condition (length before) e

-- ── Lines ────────────────────────────────────────────────────────────────────────────────────────

-- a line with a key and one number
number-line_front : (key : String) (lo hi : ℕ)
    → ByFront (λ m u. (within lo hi m ≡ true) × (u ≤ length (bytes key) + 4) × (m < 100 → u ≤ length (bytes key) + 3))
    (length (bytes key) + 4) (number_line key lo hi)
unfolding number_line
number-line_front key lo hi =
    then_front (Within (length (bytes key))) Use (length (bytes key)) (length (bytes key) + 4) (literal (bytes key))
    (λ _ rest. number_within lo hi line_feed rest) (word_front (bytes key)) (omega arith)
    (λ _ u h.
    weaker (λ m w. (within lo hi m ≡ true) × NumberUse m w) (λ m w. Use m (u + w))
    (λ m w k. (k.0, omega (arith, k.1.most), λ c. omega (arith, k.1.two c))) 4 (length (bytes key) + 4 - u)
    (number_within lo hi line_feed) (omega arith) (within_front line_feed refl lo hi))
  where
    Use : ℕ → ℕ → Type 0
    Use m u = (within lo hi m ≡ true) × (u ≤ length (bytes key) + 4) × (m < 100 → u ≤ length (bytes key) + 3)

-- the items of a list of `count`: those before the place i use at most `start i` bytes, and the item there is decided
-- by what is then left of K
module _ (item : Item) (start : ℕ → ℕ) (K count : ℕ)
    (each : (before : List ℕ) (ending : ℕ) → length before < count → is_digit ending ≡ false
    → ByFront (λ _ u. start (length before) + u ≤ start (suc (length before))) (K - start (length before))
    (item before ending)) where
  items_front : (m : ℕ) (before : List ℕ) → length before + m ≡ count
      → ByFront (λ _ u. start (length before) + u ≤ start count) (K - start (length before)) (items_after item m before)
  unfolding items_after
  items_front zero before h =
      let all : length before ≡ count = omega arith in
      value_front (λ _ u. start (length before) + u ≤ start count) (K - start (length before)) before
      (omega (arith, ap start all))
  items_front (suc m) before h =
      then_front (λ _ u. start (length before) + u ≤ start (suc (length before)))
      (λ _ u. start (length before) + u ≤ start count) (K - start (length before)) (K - start (length before))
      (item before (ending_of m)) (λ e rest. items_after item m (before ++ (e ∷ [])) rest)
      (each before (ending_of m) (omega arith) (ending-digit m)) (omega arith) (λ e u b.
      let more : length (before ++ (e ∷ [])) ≡ suc (length before) = omega (arith, length-append before (e ∷ [])) in
      let at = ap start more in
      weaker (λ _ w. start (length (before ++ (e ∷ []))) + w ≤ start count)
      (λ _ w. start (length before) + (u + w) ≤ start count) (λ _ w k. omega arith)
      (K - start (length (before ++ (e ∷ [])))) (K - start (length before) - u) (items_after item m (before ++ (e ∷ [])))
      (omega arith) (items_front m (before ++ (e ∷ [])) (omega arith)))

  -- a line with a key and such a list
  list-line_front : (key : String) → start 0 ≡ 0
      → ByFront (Within (length (bytes key) + start count)) (length (bytes key) + K) (list_line key item count)
  unfolding list_line
  list-line_front key none =
      then_front (Within (length (bytes key))) (Within (length (bytes key) + start count)) (length (bytes key))
      (length (bytes key) + K) (literal (bytes key))
      (λ _ rest. and_read (items_after item count [] rest) (λ items rest. parsed (padded 16 0 items) rest))
      (word_front (bytes key)) (omega arith) (λ _ u h.
      then_front (λ _ w. start 0 + w ≤ start count) (λ _ w. u + w ≤ length (bytes key) + start count) (K - start 0)
      (length (bytes key) + K - u) (items_after item count [])
      (λ items rest. parsed (padded 16 0 items) rest) (items_front count [] (omega arith)) (omega arith) (λ items w k.
      value_front (λ _ v. u + (w + v) ≤ length (bytes key) + start count) (length (bytes key) + K - u - w)
      (padded 16 0 items) (omega arith)))

-- ── Rules and the file ───────────────────────────────────────────────────────────────────────────

-- the line of the sizes: 54 bytes; none of the sizes is above 16
sizes-line_front : (positions : ℕ) → 1 ≤ positions → positions ≤ 16
    → ByFront (λ sizes u. ((i : ℕ) → i < positions → get_or sizes i 0 ≤ 16) × (u ≤ 54)) 55
    (list_line "sizes=" size_item positions)
sizes-line_front positions some few =
    also_front (Within 54) (λ sizes. (i : ℕ) → i < positions → get_or sizes i 0 ≤ 16) 55
    (list_line "sizes=" size_item positions)
    (λ text sizes rest e. small_sizes positions sizes few (sizes-read positions text sizes rest some few e).0)
    (weaker (Within (6 + 3 * positions)) (Within 54) (λ _ u h. omega arith) 55 55 (list_line "sizes=" size_item positions)
    (omega arith)
    (list-line_front size_item (λ i. 3 * i) 49 positions each "sizes=" (omega arith)))
  where
    each : (before : List ℕ) (ending : ℕ) → length before < positions → is_digit ending ≡ false
        → ByFront (λ _ u. 3 * length before + u ≤ 3 * suc (length before)) (49 - 3 * length before)
        (size_item before ending)
    each before ending inside digit =
        weaker (Within 3) (λ _ u. 3 * length before + u ≤ 3 * suc (length before)) (λ _ u h. omega arith) 4
        (49 - 3 * length before) (size_item before ending) (omega arith) (size_front before ending digit)

-- the bytes of an `if` line's list before the entry at place i, at most
abbrev if_start : ℕ → ℕ
if_start i = 3 * i + (i - 9)

module _ (positions : ℕ) (sizes : List ℕ) (few : positions ≤ 16)
    (small : (i : ℕ) → i < positions → get_or sizes i 0 ≤ 16) where
  -- the `if` line: 58 bytes
  if-line_front : ByFront (Within 58) 59 (list_line "if=" (condition_item positions sizes) positions)
  if-line_front =
      weaker (Within (3 + if_start positions)) (Within 58) (λ _ u h. omega arith) 59 59
      (list_line "if=" (condition_item positions sizes) positions) (omega arith)
      (list-line_front (condition_item positions sizes) if_start 56 positions each "if=" (omega arith))
    where
      each : (before : List ℕ) (ending : ℕ) → length before < positions → is_digit ending ≡ false
          → ByFront (λ _ u. if_start (length before) + u ≤ if_start (suc (length before))) (56 - if_start (length before))
          (condition_item positions sizes before ending)
      each before ending inside digit =
          weaker (λ _ u. (u ≤ 4) × (length before < 9 → u ≤ 3))
          (λ _ u. if_start (length before) + u ≤ if_start (suc (length before)))
          (λ _ u h. ⊎_elim (λ k. omega (arith, h.1 k)) (λ k. omega arith) (below? (length before) 9)) 5
          (56 - if_start (length before)) (condition_item positions sizes before ending) (omega arith)
          (condition_front positions sizes few small before ending inside digit)

  -- the `then` line: 69 bytes
  then-line_front : (condition : List ℕ) → ByFront (Within 69) 70
      (list_line "then=" (effect_item positions sizes condition) positions)
  then-line_front condition =
      weaker (Within (5 + 4 * positions)) (Within 69) (λ _ u h. omega arith) 70 70
      (list_line "then=" (effect_item positions sizes condition) positions) (omega arith)
      (list-line_front (effect_item positions sizes condition) (λ i. 4 * i) 65 positions each "then=" (omega arith))
    where
      each : (before : List ℕ) (ending : ℕ) → length before < positions → is_digit ending ≡ false
          → ByFront (λ _ u. 4 * length before + u ≤ 4 * suc (length before)) (65 - 4 * length before)
          (effect_item positions sizes condition before ending)
      each before ending inside digit =
          weaker (Within 4) (λ _ u. 4 * length before + u ≤ 4 * suc (length before)) (λ _ u h. omega arith) 5
          (65 - 4 * length before) (effect_item positions sizes condition before ending) (omega arith)
          (effect_front positions sizes few small before ending inside digit condition)

  -- the lines of a rule: 136 bytes
  rule_front : ByFront (Within 136) 137 (rule_lines positions sizes)
  unfolding rule_lines
  rule_front =
      then_front _ (Within 136) 9 137 (number_line "cost=" 0 255) _ (number-line_front "cost=" 0 255) (omega arith)
      (λ cost u first.
      then_front (Within 58) (λ _ w. u + w ≤ 136) 59 (137 - u)
      (list_line "if=" (condition_item positions sizes) positions) _ if-line_front (omega arith)
      (λ condition w second.
      then_front (Within 69) (λ _ v. u + (w + v) ≤ 136) 70 (137 - u - w)
      (list_line "then=" (effect_item positions sizes condition) positions) _ (then-line_front condition)
      (omega arith)
      (λ effect v third. value_front (λ _ x. u + (w + (v + x)) ≤ 136) (137 - u - w - v)
      (record { cost = cost; condition = condition; effect = effect }) (omega arith))))

  -- the lines of m more rules
  more-rules_front : (m : ℕ) (before : List Rule)
      → ByFront (Within (m * 136)) (m * 136 + 1) (rules_after positions sizes m before)
  unfolding rules_after
  more-rules_front zero before = value_front (Within 0) 1 before (omega arith)
  more-rules_front (suc m) before =
      then_front (Within 136) (Within (suc m * 136)) 137 (suc m * 136 + 1) (rule_lines positions sizes)
      (λ rule rest. rules_after positions sizes m (before ++ (rule ∷ [])) rest) rule_front (omega arith)
      (λ rule u h.
      weaker (Within (m * 136)) (λ _ w. u + w ≤ suc m * 136) (λ _ w k. omega arith) (m * 136 + 1) (suc m * 136 + 1 - u)
      (rules_after positions sizes m (before ++ (rule ∷ []))) (omega arith)
      (more-rules_front m (before ++ (rule ∷ []))))

  -- the lines of all rules
  rules_front : (count : ℕ) → ByFront (Within (count * 136)) (count * 136 + 1) (rule_list positions sizes count)
  unfolding rule_list
  rules_front count =
      then_front (Within (count * 136)) (Within (count * 136)) (count * 136 + 1) (count * 136 + 1)
      (rules_after positions sizes count []) (λ rules rest. parsed (padded 31 blank_rule rules) rest)
      (more-rules_front count []) (omega arith)
      (λ rules u h. value_front (λ _ w. u + w ≤ count * 136) (count * 136 + 1 - u) (padded 31 blank_rule rules)
      (omega arith))

-- the file: 4,292 bytes, and one more tells whether it ends there
file_front : ByFront (Within 4292) 4293 file_lines
unfolding file_lines
file_front =
    then_front _ (Within 4292) 14 4293 (number_line "positions=" 1 16) _ (number-line_front "positions=" 1 16)
    (omega arith) (λ positions u first.
    let limits = (within_iff 1 16 positions).0 first.0 in
    let short = first.2 (omega arith) in
    then_front _ (λ _ w. u + w ≤ 4292) 55 (4293 - u) (list_line "sizes=" size_item positions) _
    (sizes-line_front positions limits.0 limits.1) (omega arith) (λ sizes w second.
    then_front _ (λ _ v. u + (w + v) ≤ 4292) 10 (4293 - u - w) (number_line "rules=" 1 31) _
    (number-line_front "rules=" 1 31) (omega arith) (λ count v third.
    let some = (within_iff 1 31 count).0 third.0 in
    let few = third.2 (omega arith) in
    then_front (Within (count * 136)) (λ _ x. u + (w + (v + x)) ≤ 4292) (count * 136 + 1) (4293 - u - w - v)
    (rule_list positions sizes count) _ (rules_front positions sizes limits.1 second.0 count) (omega arith)
    (λ rules x fourth.
    value_front (λ _ y. u + (w + (v + (x + y))) ≤ 4292) (4293 - u - w - v - x)
    (record { positions = positions; sizes = sizes; count = count; rules = rules }) (omega arith)))))

-- ── The law ──────────────────────────────────────────────────────────────────────────────────────

-- what the reader gives of a text it gives of its first n bytes, for every n from 4,293 on
pub reading_cut : (text : List ℕ) (n : ℕ) → 4293 ≤ n → reading (take n text) ≡ reading text
unfolding reading finished
reading_cut text n h = go (file_lines text) (file_lines (take n text)) (file_front text n h)
  where
    ends : (set : RuleSet) (rest : List ℕ) (m : ℕ) → 1 ≤ m
        → finished (parsed set (take m rest)) ≡ finished (parsed set rest)
    ends set rest zero b = absurd (omega arith)
    ends set [] (suc m) b = refl
    ends set (c ∷ rest) (suc m) b = refl

    go : (q cut : Parsed RuleSet) → Agrees (Within 4292) n q cut → finished cut ≡ finished q
    go (refused m) cut e = ap finished e
    go (parsed set rest) cut w = ap finished w.2 ∙ ends set rest (n - w.0) (omega arith)

-- so a text has the listing of its first n bytes
pub listing_cut : (text : List ℕ) (n : ℕ) → 4293 ≤ n → listing (take n text) ≡ listing text
unfolding listing
listing_cut text n h = rw (reading_cut text n h)

-- no fewer bytes would do: the longest file with a byte left over is refused, and its first 4,292 bytes are read
pub cut-least : (text : List ℕ) × ((reading (take 4292 text)).outcome ≡ 0) × ((reading text).outcome ≡ 1)
unfolding valid
cut-least =
    let text = render longest ++ (line_feed ∷ []) in (
      text,
      (accepted_iff (take 4292 text)).1 (
        longest,
        (valid_iff longest).0 longest-valid,
        take_at (render longest) (line_feed ∷ []) 4292 longest-length,
      ),
      (form_iff text).1 (left_over refl longest line_feed [] (and_split (well_formed longest) _ longest-valid).0 refl),
    )
