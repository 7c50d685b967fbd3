-- Small cases of the definitions, by evaluation: sets, lists of sequences, segments, cheapest, indices, first refusals,
-- text.
use Prim.Native.Nat.{◌+◌}
use lib.Dec.{ltb}
use mathlib.Core.Path.{◌≡◌, refl}
use mathlib.Core.Bool.{true, false}
use mathlib.Core.Option.{some}
use mathlib.Core.List.{[], ◌∷◌, map}
use Rattle.theory_spec.specs.Lists.{numbers_from}
use Rattle.theory_spec.specs.Sets.{has, set_of}
use Rattle.theory_spec.specs.Sequences.{cost_of, sequences, depth_first}
use Rattle.theory_spec.specs.Pruning.{segments}
use Rattle.theory_spec.specs.Plans.{cheapest}
use Rattle.theory_spec.specs.How.Indices.{index_of}
use Rattle.theory_spec.specs.How.Recursion.{short_suffixes, last}
use Rattle.model_spec.specs.Refusals.{first_refusal}
use Rattle.files_spec.specs.Text.{bytes, numeral, line}
use Rattle.tables_spec.specs.Table.{sequence_count}
use Rattle.report_spec.specs.Listing.{position_items}

-- the lowest digit first
pub case-has : map (has 13) (numbers_from 0 5) ≡ true ∷ false ∷ true ∷ true ∷ false ∷ []
unfolding has
case-has = refl

-- 2, 3 and 4 are above 1, and 5 is not below 5
pub case-set_of : set_of (λ i. ltb 1 i) 5 ≡ 28
unfolding set_of
case-set_of = refl

pub case-sequences : sequences 2 2 ≡ [] ∷ (1 ∷ []) ∷ (2 ∷ []) ∷ (1 ∷ 1 ∷ []) ∷ (1 ∷ 2 ∷ []) ∷ (2 ∷ 1 ∷ [])
    ∷ (2 ∷ 2 ∷ []) ∷ []
case-sequences = refl

pub case-depth_first : depth_first 2 2 ≡ [] ∷ (1 ∷ []) ∷ (1 ∷ 1 ∷ []) ∷ (1 ∷ 2 ∷ []) ∷ (2 ∷ []) ∷ (2 ∷ 1 ∷ [])
    ∷ (2 ∷ 2 ∷ []) ∷ []
case-depth_first = refl

pub case_cost : cost_of (λ r. r + 1) (1 ∷ 2 ∷ []) ≡ 5
case_cost = refl

pub case-segments : segments (1 ∷ 2 ∷ 3 ∷ []) ≡ (1 ∷ []) ∷ (1 ∷ 2 ∷ []) ∷ (1 ∷ 2 ∷ 3 ∷ []) ∷ (2 ∷ []) ∷ (2 ∷ 3 ∷ [])
    ∷ (3 ∷ []) ∷ []
case-segments = refl

-- the first of least cost
pub case-cheapest : cheapest (λ r. r) ((5 ∷ []) ∷ (3 ∷ []) ∷ (1 ∷ 2 ∷ []) ∷ (4 ∷ []) ∷ []) ≡ some (3 ∷ [])
case-cheapest = refl

pub case-index : map (index_of 2) (sequences 2 3) ≡ numbers_from 0 15
case-index = refl

-- S for 31 rules at reach 3
pub case_count : sequence_count 31 3 ≡ 30784
case_count = refl

pub case-suffixes : short_suffixes 2 (1 ∷ 2 ∷ 3 ∷ []) ≡ (2 ∷ 3 ∷ []) ∷ (3 ∷ []) ∷ []
case-suffixes = refl

pub case-last : last 2 (1 ∷ 2 ∷ 3 ∷ []) ≡ 2 ∷ 3 ∷ []
case-last = refl

pub case-first : first_refusal ((7, false) ∷ (5, true) ∷ (6, true) ∷ []) ≡ 5
case-first = refl

pub case_none : first_refusal ((7, false) ∷ (8, false) ∷ []) ≡ 0
case_none = refl

pub case-line : line "sizes=" (numeral 2 ∷ numeral 16 ∷ numeral 105 ∷ []) ≡ bytes "sizes=2,16,105\n"
unfolding line numeral
case-line = refl

-- the lowest and the highest position, and one of two digits between
pub case_positions : line "reads=" (position_items 33281) ≡ bytes "reads=1,10,16\n"
unfolding has line numeral
case_positions = refl
