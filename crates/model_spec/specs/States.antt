-- States, and what a condition and an effect mean in one.
-- A state (document 01: a yard) has sixteen places: the value of each position, and 0 in the places beyond the
-- positions.
use Rattle.std.specs.Prelude.{◌≡◌, Bool, cond, List, [], ◌∷◌, map, ℕ, ◌≤◌, ◌<◌, ◌%◌, ltb, length, get_or}
use Rattle.theory_spec.specs.Lists.{flat, numbers_from, same}
use Rattle.model_spec.specs.Limits.{place_count, first_variable}

abbrev pub State : Type 0
State = List ℕ

-- the sixteen places, from 0; position i stands at place i - 1
abbrev pub places : List ℕ
places = numbers_from 0 place_count

-- an entry below 16 is that constant; 16 + k, for k from 0 to 15, is the variable of position k + 1 (document 01: `x`
-- and k + 1). Other bytes are in no valid set
abbrev pub is_constant : ℕ → Bool
is_constant e = ltb e first_variable

-- what an entry stands for in a state: the constant, or what the state holds at the variable's position
unfoldable pub value_of : ℕ → State → ℕ
value_of e s = cond (is_constant e) e (get_or s (e % place_count) 0)

-- what a list of entries stands for in a state
unfoldable pub values_of : List ℕ → State → List ℕ
values_of entries s = map (λ e. value_of e s) entries

-- a state meets a condition (document 01: the whole `if` line): each place holds what the entry there stands for
unfoldable pub applicable : List ℕ → State → Bool
applicable condition s = same (values_of condition s) s

-- the state that an effect (document 01: the `then` line) leads to; all effects happen together
unfoldable pub successor : List ℕ → State → State
successor effect s = values_of effect s

-- how many values a place has: the size at a position's place, and 1, the value 0 alone, beyond the positions
unfoldable pub width : ℕ → List ℕ → ℕ → ℕ
width positions sizes i = cond (ltb i positions) (get_or sizes i 0) 1

-- a place has two values or more. A position of size 1 (document 02: a bay with a single value) and a place beyond the
-- positions have the value 0 alone
abbrev pub many_valued : ℕ → List ℕ → ℕ → Bool
many_valued positions sizes i = ltb 1 (width positions sizes i)

-- the same as a statement
abbrev pub ManyValued : ℕ → List ℕ → ℕ → Type 0
ManyValued positions sizes i = 2 ≤ width positions sizes i

-- a state of the sizes: sixteen values, each below its place's width
abbrev pub IsState : ℕ → List ℕ → State → Type 0
IsState positions sizes s =
    (length s ≡ place_count) × ((i : ℕ) → i < place_count → get_or s i 0 < width positions sizes i)

-- the lists that hold at each place a value below the number given for it
abbrev pub choices : List ℕ → List State
choices [] = [] ∷ []
choices (n ∷ ns) = flat (λ v. map (λ (s : State). v ∷ s) (choices ns)) (numbers_from 0 n)

-- all states of the sizes
unfoldable pub states : ℕ → List ℕ → List State
states positions sizes = choices (map (width positions sizes) places)
