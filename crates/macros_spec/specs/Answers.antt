-- What the macro call answers.
use Rattle.std.specs.Prelude.{◌≡◌, ◌⊎◌, ◌↔◌, ◌≢◌, true, not, cond, List, [], ◌∷◌, ℕ, ◌≤◌, ◌<◌, ltb, eqb, length}
use Rattle.std.specs.Prelude.{replicate, get_or}
use Rattle.std.proofs.Math.Option.{Option, some, none}
use Rattle.theory_spec.specs.Lists.{any, within}
use Rattle.theory_spec.specs.Sets.{has}
use Rattle.theory_spec.specs.Sequences.{Sequence, Numbered}
use Rattle.model_spec.specs.Limits.{place_count, move_limit}
use Rattle.model_spec.specs.Refusals.{Cause, first_refusal}
use Rattle.model_spec.specs.States.{State, applicable, successor}
use Rattle.model_spec.specs.Rules.{StateOf, run_in, sequence_cost, admitted}
use Rattle.model_spec.specs.Validity.{valid, LinesValid, Valid}
use Rattle.model_spec.specs.declared.RuleSet.{RuleSet}
use Rattle.macros_spec.specs.Composition.{Lines, composed}
use Rattle.macros_spec.specs.Touched.{untouched, touched_of, TouchMeaning, Reads, Writes}
use Rattle.macros_spec.specs.declared.Macro.{Macro}
use Rattle.macros_spec.specs.declared.MacroAnswer.{MacroAnswer}
use Rattle.macros_spec.specs.declared.Touched.{Touched}

-- the causes of the macro call once the set is judged: more than 32 moves; a move that is no rule's number; no state
-- admits the sequence
abbrev pub sequence_causes : RuleSet → List ℕ → List Cause
sequence_causes set moves =
    (11, ltb move_limit (length moves))
    ∷ (13, any (λ r. not (within 1 set.count r)) moves)
    ∷ (17, not (admitted set moves))
    ∷ []

-- for any set: first, that it is not valid
unfoldable pub macro_causes : RuleSet → List ℕ → List Cause
macro_causes set moves = (7, not (valid set)) ∷ sequence_causes set moves

-- a refused macro
abbrev pub blank_macro : Macro
blank_macro = record { condition = replicate place_count 0; effect = replicate place_count 0; cost = 0 }

-- the macro of vectors at a cost
abbrev pub macro_at : ℕ → Option Lines → Macro
macro_at cost none = blank_macro
macro_at cost (some m) = record { condition = m.condition; effect = m.effect; cost = cost }

-- the positions that a sequence reads and writes; none for a sequence that no state admits
unfoldable pub touched_in : RuleSet → Sequence → Touched
touched_in set q = touched_of set (composed set q)

-- a refusal: zeros
abbrev pub refused_macro : ℕ → MacroAnswer
refused_macro outcome = record { outcome = outcome; result = blank_macro; touched = untouched }

-- the answer with an outcome: the sequence's vectors at its summed cost, and what it reads and writes; zeros when
-- refused
abbrev pub macro_with : RuleSet → List ℕ → ℕ → MacroAnswer
macro_with set moves outcome = record {
  outcome = outcome;
  result = cond (eqb outcome 0) (macro_at (sequence_cost set moves) (composed set moves)) blank_macro;
  touched = cond (eqb outcome 0) (touched_in set moves) untouched;
}

-- the answer
unfoldable pub macro_answer : RuleSet → List ℕ → MacroAnswer
macro_answer set moves = macro_with set moves (first_refusal (macro_causes set moves))

-- ── What a macro means, over all states of the sizes ─────────────────────────────────────────────

-- the macro of a sequence: it has the form of a rule's lines, it runs from exactly the states where the sequence's
-- rules run in turn, to the same state, at their summed cost
pub record Means (set : RuleSet) (q : Sequence) (m : Macro) : Type 0 where
  pub form : LinesValid set.positions set.sizes m.condition m.effect
  pub runs_where : (s : State) → StateOf set s
      → (applicable m.condition s ≡ true) ↔ ((t : State) × (run_in set q s ≡ some t))
  pub leads_to : (s t : State) → StateOf set s → run_in set q s ≡ some t → successor m.effect s ≡ t
  pub costs : m.cost ≡ sequence_cost set q

-- a sequence reads or writes position i + 1: its macro does. One that no state admits has no macro
abbrev pub SequenceReads : RuleSet → Sequence → ℕ → Type 0
SequenceReads set q i = (m : Macro) × Means set q m × Reads set m i

abbrev pub SequenceWrites : RuleSet → Sequence → ℕ → Type 0
SequenceWrites set q i = (m : Macro) × Means set q m × Writes set m i

-- some state that admits the sequence is led to one with another value at position i + 1
abbrev pub Changes : RuleSet → Sequence → ℕ → Type 0
Changes set q i =
    (s : State) × (t : State) × StateOf set s × (run_in set q s ≡ some t) × (get_or t i 0 ≢ get_or s i 0)

-- the sequence depends on position i + 1: of two states that differ there alone one admits it, and the other does not,
-- or is led to another value elsewhere
pub record Depends (set : RuleSet) (q : Sequence) (i : ℕ) : Type 0 where
  pub state : State
  pub other : State
  pub is_state : StateOf set state
  pub is_other : StateOf set other
  pub alike : (k : ℕ) → k ≢ i → get_or state k 0 ≡ get_or other k 0
  pub end : State
  pub runs : run_in set q state ≡ some end
  pub differs : (run_in set q other ≡ none)
      ⊎ ((t : State) × (k : ℕ) × (run_in set q other ≡ some t) × (k < place_count) × (k ≢ i)
      × (get_or end k 0 ≢ get_or t k 0))

-- no state admits the sequence
abbrev pub Denied : RuleSet → Sequence → Type 0
Denied set q = (s : State) → StateOf set s → run_in set q s ≡ none

-- some state admits the sequence
abbrev pub Admitted : RuleSet → Sequence → Type 0
Admitted set q = (s : State) × (t : State) × StateOf set s × (run_in set q s ≡ some t)

-- what is judged before the sequence's states: the set is valid, there are at most 32 moves, and each is a rule's
-- number
abbrev pub Judged : RuleSet → Sequence → Type 0
Judged set moves = Valid set × ((length moves ≤ move_limit) × Numbered set.count moves)

-- what an answer tells: each number exactly if its cause holds and none before it does, 0 exactly if none holds; what
-- the macro means; what it costs at most; which positions it reads and writes: those on which the sequence depends, and
-- those that it changes in some state; and what a refusal leaves
pub record Meaning (set : RuleSet) (moves : Sequence) (answer : MacroAnswer) : Type 0 where
  pub not_valid : (answer.outcome ≡ 7) ↔ (Valid set → ⊥)
  pub too_long : (answer.outcome ≡ 11) ↔ (Valid set × (move_limit < length moves))
  pub unknown_move : (answer.outcome ≡ 13)
      ↔ (Valid set × ((length moves ≤ move_limit) × (Numbered set.count moves → ⊥)))
  pub denied : (answer.outcome ≡ 17) ↔ (Judged set moves × Denied set moves)
  pub given : (answer.outcome ≡ 0) ↔ (Judged set moves × Admitted set moves)
  pub means : answer.outcome ≡ 0 → Means set moves answer.result
  pub bounded : answer.result.cost ≤ 8160
  pub touches : answer.outcome ≡ 0 → TouchMeaning set answer.result answer.touched
  pub depends : answer.outcome ≡ 0 → (i : ℕ) → i < place_count
      → (has answer.touched.reads i ≡ true) ↔ Depends set moves i
  pub changes : answer.outcome ≡ 0 → (i : ℕ) → i < place_count
      → (has answer.touched.writes i ≡ true) ↔ Changes set moves i
  pub refused : answer.outcome ≢ 0 → (answer.result ≡ blank_macro) × (answer.touched ≡ untouched)
