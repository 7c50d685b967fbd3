-- The positions that a sequence reads and writes (document 02: the bays that it touches), by its two vectors. A
-- position with a single value is in neither set.
use Rattle.std.specs.Prelude.{◌≡◌, ◌⊎◌, ◌↔◌, ◌≢◌, Bool, true, not, ◌&&◌, ◌||◌, List, ℕ, ◌%◌, ◌≤◌, ◌<◌, eqb, get_or}
use Rattle.std.proofs.Math.Option.{Option, some, none}
use Rattle.theory_spec.specs.Lists.{any}
use Rattle.theory_spec.specs.Sets.{has, set_of}
use Rattle.model_spec.specs.Limits.{place_count, first_variable}
use Rattle.model_spec.specs.States.{places, is_constant, many_valued, ManyValued}
use Rattle.model_spec.specs.declared.RuleSet.{RuleSet}
use Rattle.macros_spec.specs.Composition.{Lines}
use Rattle.macros_spec.specs.declared.Macro.{Macro}
use Rattle.macros_spec.specs.declared.Touched.{Touched}

-- an entry names position i + 1: it is that position's variable, as `value_of` reads it
abbrev pub names : ℕ → ℕ → Bool
names e i = not (is_constant e) && eqb (e % place_count) i

-- the entry at another place of a line names it
unfoldable pub named_elsewhere : List ℕ → ℕ → Bool
named_elsewhere line i = any (λ k. not (eqb k i) && names (get_or line k 0) i) places

-- position i + 1 is read (document 02: in the first set): its `if` entry does not name it, or another place's `if` or
-- `then` entry does. Its own `then` entry plays no part
unfoldable pub read_at : Lines → ℕ → Bool
read_at m i =
    not (names (get_or m.condition i 0) i)
    || (named_elsewhere m.condition i || named_elsewhere m.effect i)

-- it is written (document 02: in the second set): its `then` entry differs from its `if` entry
unfoldable pub written_at : Lines → ℕ → Bool
written_at m i = not (eqb (get_or m.condition i 0) (get_or m.effect i 0))

-- both sets, of the positions with two values or more; the lowest digit for position 1
unfoldable pub touched_by : RuleSet → Lines → Touched
touched_by set m = record {
  reads = set_of (λ i. many_valued set.positions set.sizes i && read_at m i) place_count;
  writes = set_of (λ i. many_valued set.positions set.sizes i && written_at m i) place_count;
}

-- both empty
abbrev pub untouched : Touched
untouched = record { reads = 0; writes = 0 }

-- a sequence without vectors, which no state admits, touches nothing
abbrev pub touched_of : RuleSet → Option Lines → Touched
touched_of set none = untouched
touched_of set (some m) = touched_by set m

-- ── As statements, in document 02's words ────────────────────────────────────────────────────────

-- an entry is a constant
abbrev pub Constant : ℕ → Type 0
Constant e = e < first_variable

-- it names position i + 1
abbrev pub Names : ℕ → ℕ → Type 0
Names e i = (first_variable ≤ e) × (e % place_count ≡ i)

-- it names another position
abbrev pub NamesAnother : ℕ → ℕ → Type 0
NamesAnother e i = (first_variable ≤ e) × (e % place_count ≢ i)

-- another position's entry in a line names position i + 1
abbrev pub NamedElsewhere : List ℕ → ℕ → Type 0
NamedElsewhere line i = (k : ℕ) × (k < place_count) × (k ≢ i) × Names (get_or line k 0) i

-- document 02: "positions whose `if` entry is a constant or names another position, or that another position's `if` or
-- `then` entry names"
abbrev pub Reads : RuleSet → Macro → ℕ → Type 0
Reads set m i =
    ManyValued set.positions set.sizes i
    × (Constant (get_or m.condition i 0)
    ⊎ (NamesAnother (get_or m.condition i 0) i
    ⊎ (NamedElsewhere m.condition i
    ⊎ NamedElsewhere m.effect i)))

-- document 02: "positions whose `then` entry differs from their `if` entry"
abbrev pub Writes : RuleSet → Macro → ℕ → Type 0
Writes set m i = ManyValued set.positions set.sizes i × (get_or m.effect i 0 ≢ get_or m.condition i 0)

-- what two sets tell of a macro: for each position whether it is read and whether it is written; and they have no
-- seventeenth digit
pub record TouchMeaning (set : RuleSet) (m : Macro) (touched : Touched) : Type 0 where
  pub reads : (i : ℕ) → i < place_count → (has touched.reads i ≡ true) ↔ Reads set m i
  pub writes : (i : ℕ) → i < place_count → (has touched.writes i ≡ true) ↔ Writes set m i
  pub sixteen : (touched.reads < 65536) × (touched.writes < 65536)
