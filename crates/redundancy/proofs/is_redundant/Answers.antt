-- `redundancy::is_redundant` meets its contract: by what was found of the witness and of the sequence at each way out.
use mathlib.Core.Path.{◌≡◌, sym, subst, ◌∙◌}
use mathlib.Core.Bool.{Bool, true, false, not}
use Prim.Native.Nat.{ℕ}
use native.Mathlib.Omega.{arith}
use lib.Dec.{leb}
use borrow.Author.Tests.{not-true, not-false}
use Rattle.theory_spec.specs.Lists.{any, every, within}
use Rattle.theory_spec.specs.Sequences.{Sequence, Numbered}
use Rattle.model_spec.specs.Rules.{run_in, sequence_cost}
use Rattle.model_spec.specs.declared.RuleSet.{RuleSet}
use Rattle.macros_spec.specs.Composition.{lines_of}
use Rattle.macros_spec.specs.declared.Vectors.{Vectors}
use Rattle.macros_spec.specs.Redundancy.{ends_in, covers, last_number, redundant_by_lines, TellsRedundancy}
use Rattle.macros_spec.proofs.CoverLaws.{test_tells}
use Rattle.model_spec.proofs.MoveLaws.{no_unknown_iff, numbered_test, numbered_wider}
use Rattle.redundancy.proofs.is_redundant.Goals as goal

-- ── Each way out: what was found of the witness and of the sequence tells the answer ─────────────

module _ (set : RuleSet) (sequence : Vectors) (cost : ℕ) (witness : Sequence)
    (last : ℕ) (l : last ≡ last_number set) where
  abbrev answer : Bool
  answer = redundant_by_lines set (lines_of sequence) cost witness

  -- the definition's answer, and what it tells
  found : (r : Bool) → r ≡ answer → (r ≡ answer) × TellsRedundancy set sequence cost witness r
  found r e = (e, subst (TellsRedundancy set sequence cost witness) (sym e) (test_tells set sequence cost witness))

  -- whether each move of the witness is the number of one of the set's rules
  test : every (within 1 (last_number set)) witness ≡ not (any (λ r. not (within 1 last r)) witness)
  test = rw (← l) (numbered_test last witness)

  -- one is not
  unnumbered : any (λ r. not (within 1 last r)) witness ≡ true
      → (false ≡ answer) × TellsRedundancy set sequence cost witness false
  unfolding redundant_by_lines
  unnumbered e = found false (rw (test, e))

  module _ (numbered : any (λ r. not (within 1 last r)) witness ≡ false) where
    each_number : Numbered 31 witness
    each_number = numbered_wider last 31 witness (omega arith) ((no_unknown_iff last witness).0 numbered)

    -- the witness costs more
    dearer : leb (sequence_cost set witness) cost ≡ false
        → (false ≡ answer) × TellsRedundancy set sequence cost witness false
    unfolding redundant_by_lines
    dearer d = found false (rw (test, numbered, d))

    -- no state admits the sequence
    never-run : leb (sequence_cost set witness) cost ≡ true → sequence.admitted ≡ false
        → (true ≡ answer) × TellsRedundancy set sequence cost witness true
    unfolding redundant_by_lines covers
    never-run d a = found true (rw (test, numbered, d, a))

    -- else the run on the condition tells
    compared : leb (sequence_cost set witness) cost ≡ true → sequence.admitted ≡ true
        → (leads : Bool) → leads ≡ ends_in (run_in set witness sequence.condition) sequence.effect
        → (leads ≡ answer) × TellsRedundancy set sequence cost witness leads
    unfolding redundant_by_lines covers
    compared d a leads e = found leads (rw (test, numbered, d, a) e)

-- ── The proof ────────────────────────────────────────────────────────────────────────────────────

pub returns-then-has_unknown_move : goal.returns-then-has_unknown_move
returns-then-has_unknown_move c =
    let s = c.args in
    unnumbered s.set s.sequence s.cost s.witness.now _ c.last_number-last.ensures
    (sym c.has_unknown_move.ensures ∙ c.if-has_unknown_move.true)

pub returns-then-not-costs_at_most : goal.returns-then-not-costs_at_most
returns-then-not-costs_at_most c =
    let s = c.args in
    dearer s.set s.sequence s.cost s.witness.now _ c.last_number-last.ensures
    (sym c.has_unknown_move.ensures ∙ c.if-has_unknown_move.false)
    (sym c.costs_at_most.ensures ∙ c.if-not-costs_at_most.true)

pub returns-then-not-sequence : goal.returns-then-not-sequence
returns-then-not-sequence c =
    let s = c.args in
    never-run s.set s.sequence s.cost s.witness.now _ c.last_number-last.ensures
    (sym c.has_unknown_move.ensures ∙ c.if-has_unknown_move.false)
    (sym c.costs_at_most.ensures ∙ c.if-not-costs_at_most.false) (not-true _ c.if-not-sequence.true)

pub leads-requires : goal.leads-requires
leads-requires c =
    let s = c.args in
    each_number s.set s.sequence s.cost s.witness.now _ c.last_number-last.ensures
    (sym c.has_unknown_move.ensures ∙ c.if-has_unknown_move.false)

pub returns : goal.returns
returns c =
    let s = c.args in
    compared s.set s.sequence s.cost s.witness.now _ c.last_number-last.ensures
    (sym c.has_unknown_move.ensures ∙ c.if-has_unknown_move.false)
    (sym c.costs_at_most.ensures ∙ c.if-not-costs_at_most.false)
    (not-false _ c.if-not-sequence.false) _ c.leads.ensures
