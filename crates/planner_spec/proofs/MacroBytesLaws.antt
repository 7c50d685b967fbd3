-- A macro's bytes: which byte stands where, that the macro and its sets can be read back from them, and what a buffer
-- holds after an answer.
-- Assumes nothing.
use mathlib.Core.Path.{◌≡◌, sym, ap, ap₂, ◌∙◌}
use mathlib.Core.Logic.{◌≢◌, ⊎_elim}
use mathlib.Core.List.{List, ◌++◌, append_assoc}
use Prim.Native.Nat.{ℕ, ◌+◌, ◌-◌, ◌/◌, ◌%◌, ◌≤◌, ◌<◌}
use native.Mathlib.Omega.{arith}
use lib.ListN.{length, get_or, take, drop, replicate, length-append, replicate-append-replicate}
use lib.ListN.{get_or-append, get_or-eq_default}
use lib.Seq.{take_at, drop_at, get_or-append-add}
use borrow.Author.Tests.{eq-eqb, ne_eqb}
use Rattle.theory_spec.specs.Lists.{padded}
use Rattle.theory_spec.proofs.ListLaws.{padded-length, zeros_at}
use Rattle.theory_spec.proofs.TestLaws.{below?}
use Rattle.macros_spec.specs.Answers.{blank_macro}
use Rattle.macros_spec.specs.declared.Macro.{Macro}
use Rattle.macros_spec.specs.declared.MacroAnswer.{MacroAnswer}
use Rattle.macros_spec.specs.declared.Touched.{Touched}
use Rattle.macros_spec.specs.Touched.{untouched}
use Rattle.tables_spec.specs.Table.{entry_at, entry_bytes}
use Rattle.planner_spec.specs.TextMacro.{macro_bytes, macro_size, macro_of, touched_at, macro_buffer}

-- ── Which byte stands where ──────────────────────────────────────────────────────────────────────

module _ (m : Macro) (touched : Touched)
    (condition_size : length m.condition ≡ 16) (effect_size : length m.effect ≡ 16) where
  -- what stands behind the cost, behind both vectors and behind the condition
  abbrev behind_cost : List ℕ
  behind_cost = entry_bytes touched.reads ++ entry_bytes touched.writes

  abbrev number_bytes : List ℕ
  number_bytes = entry_bytes m.cost ++ behind_cost

  abbrev behind_condition : List ℕ
  behind_condition = m.effect ++ number_bytes

  pub bytes_38 : length (macro_bytes m touched) ≡ 38
  unfolding macro_bytes
  bytes_38 =
      length-append m.condition _ ∙ ap₂ ◌+◌ condition_size (length-append m.effect _ ∙ ap (λ n. n + 6) effect_size)

  pub byte-condition : (i : ℕ) → i < 16 → get_or (macro_bytes m touched) i 0 ≡ get_or m.condition i 0
  unfolding macro_bytes
  byte-condition i h = get_or-append m.condition _ 0 i (omega (arith, condition_size))

  behind : (i : ℕ) → 16 ≤ i → get_or (macro_bytes m touched) i 0 ≡ get_or behind_condition (i - 16) 0
  unfolding macro_bytes
  behind i h =
      let e : i ≡ length m.condition + (i - 16) = omega (arith, condition_size) in
      ap (λ k. get_or (m.condition ++ behind_condition) k 0) e ∙ get_or-append-add m.condition behind_condition (i - 16) 0

  pub byte-effect : (i : ℕ) → 16 ≤ i → i < 32 → get_or (macro_bytes m touched) i 0 ≡ get_or m.effect (i - 16) 0
  byte-effect i h k = behind i h ∙ get_or-append m.effect number_bytes 0 (i - 16) (omega (arith, effect_size))

  byte-number : (i : ℕ) → 32 ≤ i → get_or (macro_bytes m touched) i 0 ≡ get_or number_bytes (i - 32) 0
  byte-number i h =
      let e : i - 16 ≡ length m.effect + (i - 32) = omega (arith, effect_size) in
      behind i (omega arith)
      ∙ ap (λ k. get_or behind_condition k 0) e
      ∙ get_or-append-add m.effect number_bytes (i - 32) 0

  pub byte_cost : (i : ℕ) → 32 ≤ i → i < 34
      → get_or (macro_bytes m touched) i 0 ≡ get_or (entry_bytes m.cost) (i - 32) 0
  byte_cost i h k = byte-number i h ∙ get_or-append (entry_bytes m.cost) behind_cost 0 (i - 32) (omega arith)

  behind_cost_lem : (i : ℕ) → 34 ≤ i → get_or (macro_bytes m touched) i 0 ≡ get_or behind_cost (i - 34) 0
  behind_cost_lem i h =
      let e : i - 32 ≡ 2 + (i - 34) = omega arith in
      byte-number i (omega arith)
      ∙ ap (λ k. get_or number_bytes k 0) e
      ∙ get_or-append-add (entry_bytes m.cost) behind_cost (i - 34) 0

  pub byte_reads : (i : ℕ) → 34 ≤ i → i < 36
      → get_or (macro_bytes m touched) i 0 ≡ get_or (entry_bytes touched.reads) (i - 34) 0
  byte_reads i h k =
      behind_cost_lem i h
      ∙ get_or-append (entry_bytes touched.reads) (entry_bytes touched.writes) 0 (i - 34) (omega arith)

  pub byte-writes : (i : ℕ) → 36 ≤ i
      → get_or (macro_bytes m touched) i 0 ≡ get_or (entry_bytes touched.writes) (i - 36) 0
  byte-writes i h =
      let e : i - 34 ≡ 2 + (i - 36) = omega arith in
      behind_cost_lem i (omega arith)
      ∙ ap (λ k. get_or behind_cost k 0) e
      ∙ get_or-append-add (entry_bytes touched.reads) (entry_bytes touched.writes) (i - 36) 0

  -- ── Read back ──────────────────────────────────────────────────────────────────────────────────

  module _ (rest : List ℕ) where
    abbrev buffer : List ℕ
    buffer = macro_bytes m touched ++ rest

    parts : buffer ≡ m.condition ++ (m.effect ++ (number_bytes ++ rest))
    unfolding macro_bytes
    parts =
        append_assoc m.condition (m.effect ++ number_bytes) rest
        ∙ ap (λ l. m.condition ++ l) (append_assoc m.effect number_bytes rest)

    condition_back : take 16 buffer ≡ m.condition
    condition_back =
        ap (take 16) parts ∙ take_at m.condition (m.effect ++ (number_bytes ++ rest)) 16 condition_size

    effect_back : take 16 (drop 16 buffer) ≡ m.effect
    effect_back =
        ap (λ l. take 16 (drop 16 l)) parts
        ∙ ap (take 16) (drop_at m.condition (m.effect ++ (number_bytes ++ rest)) 16 condition_size)
        ∙ take_at m.effect (number_bytes ++ rest) 16 effect_size

    byte_back : (i : ℕ) → 32 ≤ i → i < 38 → get_or buffer i 0 ≡ get_or number_bytes (i - 32) 0
    byte_back i h k = get_or-append (macro_bytes m touched) rest 0 i (omega (arith, bytes_38)) ∙ byte-number i h

    cost_back : entry_at buffer 16 ≡ m.cost
    unfolding entry_at
    cost_back =
        let low : get_or buffer 32 0 ≡ m.cost % 256 = byte_back 32 (omega arith) (omega arith) in
        let high : get_or buffer 33 0 ≡ m.cost / 256 = byte_back 33 (omega arith) (omega arith) in
        omega (arith, low, high)

    reads_back : entry_at buffer 17 ≡ touched.reads
    unfolding entry_at
    reads_back =
        let low : get_or buffer 34 0 ≡ touched.reads % 256 = byte_back 34 (omega arith) (omega arith) in
        let high : get_or buffer 35 0 ≡ touched.reads / 256 = byte_back 35 (omega arith) (omega arith) in
        omega (arith, low, high)

    writes_back : entry_at buffer 18 ≡ touched.writes
    unfolding entry_at
    writes_back =
        let low : get_or buffer 36 0 ≡ touched.writes % 256 = byte_back 36 (omega arith) (omega arith) in
        let high : get_or buffer 37 0 ≡ touched.writes / 256 = byte_back 37 (omega arith) (omega arith) in
        omega (arith, low, high)

    pub read_back : macro_of buffer ≡ m
    unfolding macro_of
    read_back = λ i. record { condition = condition_back i; effect = effect_back i; cost = cost_back i }

    pub touched_back : touched_at buffer ≡ touched
    unfolding touched_at
    touched_back = λ i. record { reads = reads_back i; writes = writes_back i }

-- ── Buffers ──────────────────────────────────────────────────────────────────────────────────────

-- a list made up by zeros has the list's elements
pub padded_at : (n i : ℕ) (l : List ℕ) → get_or (padded n 0 l) i 0 ≡ get_or l i 0
padded_at n i l =
    ⊎_elim (λ h. get_or-append l (replicate (n - length l) 0) 0 i h)
    (λ h.
    let e : i ≡ length l + (i - length l) = omega (arith, h) in
    ap (λ k. get_or (padded n 0 l) k 0) e
    ∙ get_or-append-add l (replicate (n - length l) 0) (i - length l) 0
    ∙ zeros_at (n - length l) (i - length l)
    ∙ sym (get_or-eq_default l 0 {n = i} h))
    (below? i (length l))

module _ (room : ℕ) (fits : macro_size ≤ room) where
  -- a buffer with the bytes of a macro, and zeros after them
  module _ (m : Macro) (touched : Touched)
      (condition_size : length m.condition ≡ 16) (effect_size : length m.effect ≡ 16) where
    abbrev filled : List ℕ
    filled = padded room 0 (macro_bytes m touched)

    pub buffer_size : length filled ≡ room
    buffer_size =
        padded-length room 0 (macro_bytes m touched) (omega (arith, bytes_38 m touched condition_size effect_size, fits))

    -- gives the macro and its sets back
    pub buffer_back : (macro_of filled ≡ m) × (touched_at filled ≡ touched)
    buffer_back =
        let rest : List ℕ = replicate (room - length (macro_bytes m touched)) 0 in (
          read_back m touched condition_size effect_size rest,
          touched_back m touched condition_size effect_size rest,
        )

  -- the bytes of a refused macro are zeros
  pub blank-bytes : padded room 0 (macro_bytes blank_macro untouched) ≡ replicate room 0
  unfolding macro_bytes
  blank-bytes =
      let whole : 38 + (room - 38) ≡ room = omega (arith, fits) in
      replicate-append-replicate 38 (room - 38) 0 ∙ ap (λ n. replicate n 0) whole

-- ── After an answer ──────────────────────────────────────────────────────────────────────────────

module _ (room : ℕ) (answer : MacroAnswer) where
  pub buffer-given : answer.outcome ≡ 0
      → macro_buffer room answer ≡ padded room 0 (macro_bytes answer.result answer.touched)
  unfolding macro_buffer
  buffer-given e = rw (eq-eqb answer.outcome 0 e)

  pub buffer-refused : answer.outcome ≢ 0 → macro_buffer room answer ≡ replicate room 0
  unfolding macro_buffer
  buffer-refused h = rw (ne_eqb answer.outcome 0 h)
