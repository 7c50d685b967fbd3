-- Entries that take a rule text, by evaluation: a macro's bytes with room to spare, with just enough and with too
-- little, and that every other refusal comes before the room's; and the numbers that the builder and the check give.
use Prim.Native.Nat.{ℕ}
use Prim.Native.String.{String}
use mathlib.Core.Path.{◌≡◌, refl}
use mathlib.Core.List.{List, [], ◌∷◌, ◌++◌, map}
use lib.ListN.{length, replicate}
use Rattle.theory_spec.specs.Sets.{has, set_of}
use Rattle.model_spec.specs.States.{value_of, values_of, applicable, successor, width, states}
use Rattle.model_spec.specs.Rules.{rule_at, step_of, rule_cost, states_of, run_in, sequence_cost, admitted, redundant}
use Rattle.model_spec.specs.Validity.{entry_limited, condition_placed, effect_placed, condition_valid, effect_valid}
use Rattle.model_spec.specs.Validity.{size_valid, sizes_valid, rule_valid, rule_blank, rule_valid_at, rules_valid}
use Rattle.model_spec.specs.Validity.{duplicate, repeated, has_duplicates, well_formed, valid}
use Rattle.files_spec.specs.Text.{bytes}
use Rattle.files_spec.specs.Reading.{literal, digits, is_number, decimal, number, number_within, variable, constant}
use Rattle.files_spec.specs.Reading.{entry}
use Rattle.files_spec.specs.Reading.{size_item, condition_item, effect_item, items_after, number_line, list_line, rule_lines}
use Rattle.files_spec.specs.Reading.{rules_after, rule_list, file_lines, finished, reading}
use Rattle.macros_spec.specs.Composition.{own_variables, empty_lines, replaced, clash, equated, unified, followed}
use Rattle.macros_spec.specs.Composition.{extended}
use Rattle.macros_spec.specs.Composition.{composed_from, composed}
use Rattle.macros_spec.specs.Touched.{named_elsewhere, read_at, written_at, touched_by}
use Rattle.macros_spec.specs.Answers.{macro_causes, touched_in}
use Rattle.tables_spec.specs.Table.{table_entries, sequence_at, entry_at, marked, built_entry, built_table, entry_justified}
use Rattle.tables_spec.specs.Table.{accepted}
use Rattle.tables_spec.specs.Answers.{table_causes, build_outcome, check_causes, check_outcome}
use Rattle.unions_spec.specs.Unions.{marked_sequences, union_of, table_touched, build_answer, check_answer}
use Rattle.planner_spec.specs.OfText.{of_text}
use Rattle.planner_spec.specs.PackedTable.{packed_table}
use Rattle.planner_spec.specs.TextMacro.{macro_bytes, room_causes, text_macro, macro_buffer}
use Rattle.planner_spec.specs.TextTables.{text_build_answer, text_check_answer}
use Rattle.cases_worked.proofs.Worked.{file_e, mark_bytes, table_e}

-- ── Macros ───────────────────────────────────────────────────────────────────────────────────────

-- no state admits its rule twice
abbrev file_twice : String
file_twice = "positions=1\nsizes=2\nrules=1\ncost=1\nif=0\nthen=1\n"

-- positions 1 and 2 take what 9 holds, and 9 what 3 holds
abbrev file_nine : String
file_nine =
    "positions=9\nsizes=2,2,2,2,2,2,2,2,2\nrules=1\ncost=1\nif=x1,x2,x3,x4,x5,x6,x7,x8,x9\nthen=x9,x9,x3,x4,x5,x6,x7,x8,x3\n"

-- a call, and what it gives and leaves
pub record Row : Type 0 where
  pub file : String
  pub moves : List ℕ
  pub room : ℕ
  pub outcome : ℕ
  pub buffer : List ℕ

-- the bytes of E's rules in turn: `x1,x2` to `0,0` at cost 2; it reads nothing, and writes 1 and 2
abbrev bytes_of_e : List ℕ
bytes_of_e = 16 ∷ 17 ∷ (replicate 30 0 ++ (2 ∷ 0 ∷ 0 ∷ 0 ∷ 3 ∷ 0 ∷ []))

-- of the rule of nine positions, at cost 1: it reads 3 and 9, and writes 1, 2 and 9
abbrev bytes_of_nine : List ℕ
bytes_of_nine =
    (16 ∷ 17 ∷ 18 ∷ 19 ∷ 20 ∷ 21 ∷ 22 ∷ 23 ∷ 24 ∷ replicate 7 0)
    ++ (24 ∷ 24 ∷ 18 ∷ 19 ∷ 20 ∷ 21 ∷ 22 ∷ 23 ∷ 18 ∷ replicate 7 0)
    ++ (1 ∷ 0 ∷ 4 ∷ 1 ∷ 3 ∷ 1 ∷ [])

abbrev refused : String → List ℕ → ℕ → ℕ → Row
refused file moves room outcome =
    record { file = file; moves = moves; room = room; outcome = outcome; buffer = replicate room 0 }

abbrev rows : List Row
rows =
    record { file = file_e; moves = 1 ∷ 2 ∷ []; room = 38; outcome = 0; buffer = bytes_of_e }
    ∷ record { file = file_e; moves = 1 ∷ 2 ∷ []; room = 40; outcome = 0; buffer = bytes_of_e ++ (0 ∷ 0 ∷ []) }
    ∷ record { file = file_nine; moves = 1 ∷ []; room = 38; outcome = 0; buffer = bytes_of_nine }
    ∷ refused file_e (1 ∷ 2 ∷ []) 37 8
    ∷ refused file_e (1 ∷ 2 ∷ []) 34 8
    ∷ refused file_e (1 ∷ 2 ∷ []) 0 8
    ∷ refused file_twice (1 ∷ 1 ∷ []) 37 17
    ∷ refused file_twice (1 ∷ 1 ∷ []) 38 17
    ∷ refused file_e (1 ∷ 3 ∷ []) 37 13
    ∷ refused file_e (replicate 33 1) 37 11
    ∷ refused "positions=17\n" (1 ∷ 2 ∷ []) 37 2
    ∷ []

abbrev given : Row → ℕ × List ℕ
given row =
    let answer = text_macro (bytes row.file) row.moves row.room in
    (answer.outcome, macro_buffer row.room answer)

pub macro_buffers : map given rows ≡ map (λ (row : Row). (row.outcome, row.buffer)) rows
unfolding value_of values_of applicable successor width states rule_at step_of rule_cost states_of run_in sequence_cost
    admitted entry_limited condition_placed effect_placed condition_valid effect_valid size_valid sizes_valid
    rule_valid rule_blank rule_valid_at rules_valid duplicate repeated has_duplicates well_formed valid literal
    digits is_number decimal number number_within variable constant entry size_item condition_item effect_item
    items_after number_line list_line rule_lines rules_after rule_list file_lines finished reading own_variables
    empty_lines replaced clash equated unified followed extended composed_from composed has set_of named_elsewhere
    read_at written_at touched_by touched_in macro_causes of_text macro_bytes room_causes text_macro macro_buffer
macro_buffers = refl

-- ── Tables ───────────────────────────────────────────────────────────────────────────────────────

-- its rule twice, `x1,x2` to `x2,x2`, is marked, which reads 2 and writes 1
abbrev file_copy : String
file_copy = "positions=2\nsizes=2,2\nrules=1\ncost=1\nif=x1,x2\nthen=x2,x2\n"

-- a table, and the numbers that its builder and its check give
pub record TableRow : Type 0 where
  pub file : String
  pub reach : ℕ
  pub table : List ℕ
  pub built : ℕ
  pub checked : ℕ

abbrev table_rows : List TableRow
table_rows =
    -- 0 + 65536 · 0 + 2^32 · 3
    record { file = file_e; reach = 2; table = table_e; built = 12884901888; checked = 12884901888 }
    -- 0 + 65536 · 2 + 2^32 · 1
    ∷ record {
      file =
          file_copy;
      reach = 2;
      table = replicate 4 255 ++ mark_bytes 1;
      built = 4295098368;
      checked = 4295098368;
    }
    -- a refusal is its number alone
    ∷ record { file = file_e; reach = 2; table = replicate 14 0; built = 12884901888; checked = 14 }
    ∷ record { file = file_e; reach = 2; table = replicate 13 255; built = 6; checked = 6 }
    ∷ record { file = file_e; reach = 4; table = table_e; built = 5; checked = 5 }
    ∷ record { file = "positions=17\n"; reach = 2; table = table_e; built = 2; checked = 2 }
    ∷ []

abbrev numbers : TableRow → ℕ × ℕ
numbers row = (
  packed_table (text_build_answer (bytes row.file) row.reach (length row.table)),
  packed_table (text_check_answer (bytes row.file) row.reach row.table),
)

pub table-numbers : map numbers table_rows ≡ map (λ (row : TableRow). (row.built, row.checked)) table_rows
unfolding value_of values_of applicable successor width states rule_at step_of rule_cost states_of run_in sequence_cost
    admitted redundant entry_limited condition_placed effect_placed condition_valid effect_valid size_valid sizes_valid
    rule_valid rule_blank rule_valid_at rules_valid duplicate repeated has_duplicates well_formed valid literal
    digits is_number decimal number number_within variable constant entry size_item condition_item effect_item
    items_after number_line list_line rule_lines rules_after rule_list file_lines finished reading own_variables
    empty_lines replaced clash equated unified followed extended composed_from composed has set_of named_elsewhere
    read_at written_at touched_by touched_in table_entries sequence_at entry_at marked built_entry built_table
    entry_justified accepted table_causes build_outcome check_causes check_outcome marked_sequences union_of table_touched
    build_answer check_answer of_text packed_table text_build_answer text_check_answer
table-numbers = refl
