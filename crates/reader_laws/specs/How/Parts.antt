-- Parts of a line as the functions of the reader read them, for every number of positions and every place of an array.
-- No answer mentions them: they tie the functions to the definitions of Reading.
use Rattle.std.specs.Prelude.{List, [], ℕ, min, set}
use Rattle.theory_spec.specs.Lists.{padded}
use Rattle.model_spec.specs.Limits.{max_positions, place_count}
use Rattle.model_spec.specs.Validity.{condition_placed, effect_placed}
use Rattle.files_spec.specs.Text.{line_feed}
use Rattle.files_spec.specs.Reading.{Parsed, parsed, and_read, refused_unless, literal, number_within, entry}
use Rattle.files_spec.specs.Reading.{Item, size_item, condition_item, effect_item, items_after}
use Rattle.reader_laws.specs.declared.Line.{Line}
use Rattle.reader_laws.specs.declared.Line.TheVariants.{Sizes, Condition, Effect}

-- a line with a key, by its bytes, and one number
unfoldable pub keyed_number : List ℕ → ℕ → ℕ → List ℕ → Parsed ℕ
keyed_number key lo hi text = and_read (literal key text) (λ _ rest. number_within lo hi line_feed rest)

-- a line with a key, by its bytes, and a list of n items; the places beyond them are 0
unfoldable pub keyed_list : List ℕ → Item → ℕ → List ℕ → Parsed (List ℕ)
keyed_list key item n text =
    and_read (literal key text) (λ _ rest.
    and_read (items_after item n [] rest) (λ items rest. parsed (padded place_count 0 items) rest))

-- the items of a line that lists them
unfoldable pub item_of : Line → ℕ → Item
item_of Sizes positions = size_item
item_of (Condition sizes) positions = condition_item positions sizes
item_of (Effect sizes condition) positions = effect_item positions sizes condition

-- an entry of an `if` line, judged for its place in the array that has it at i
unfoldable pub condition_entry : ℕ → List ℕ → List ℕ → ℕ → ℕ → List ℕ → Parsed ℕ
condition_entry positions sizes before i ending text =
    refused_unless 3 (λ e. condition_placed positions sizes (set before i e) i e)
    (entry (min positions max_positions) sizes i ending text)

-- an entry of a `then` line at place i, judged for its place by the `if` line
unfoldable pub effect_entry : ℕ → List ℕ → List ℕ → ℕ → ℕ → List ℕ → Parsed ℕ
effect_entry positions sizes condition i ending text =
    refused_unless 3 (effect_placed positions sizes condition i)
    (entry (min positions max_positions) sizes i ending text)
