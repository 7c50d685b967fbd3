-- `mark_check::witness_serves` meets its contract: a smaller index is named, and the test on its sequence decides.
use mathlib.Core.Path.{◌≡◌, sym, ap, ◌∙◌}
use mathlib.Core.Bool.{Bool, false, ◌&&◌}
use Prim.Native.Nat.{ℕ, ◌≤◌, ◌<◌}
use native.Mathlib.Omega.{arith}
use lib.Dec.{ltb}
use borrow.Author.Tests.{lt-ltb, le-ltb}
use Rattle.theory_spec.specs.Sequences.{Sequence}
use Rattle.model_spec.specs.declared.RuleSet.{RuleSet}
use Rattle.macros_spec.specs.Composition.{lines_of}
use Rattle.macros_spec.specs.Redundancy.{redundant_by_lines}
use Rattle.tables_laws.specs.declared.Profile.{Profile}
use Rattle.tables_laws.specs.How.ShortSequences.{short_sequence}
use Rattle.tables_laws.proofs.SequenceLoopLaws.{part_rest}
use Rattle.mark_check.proofs.witness_serves.Goals as goal

-- where the index is smaller, the test on the sequence that it names tells
smaller : (set : RuleSet) (own : Profile) (index entry : ℕ) (witness : Sequence) (r : Bool) → entry < index
    → witness ≡ short_sequence set.count entry
    → r ≡ redundant_by_lines set (lines_of own.vectors) own.cost witness
    → r ≡ (ltb entry index
    && redundant_by_lines set (lines_of own.vectors) own.cost (short_sequence set.count entry))
smaller set own index entry witness r l w e =
    e ∙ ap (redundant_by_lines set (lines_of own.vectors) own.cost) w ∙ sym (rw (lt-ltb entry index l))

-- where it is not, the mark names no witness
not_smaller : (index entry : ℕ) (b : Bool) → index ≤ entry → false ≡ (ltb entry index && b)
not_smaller index entry b l = sym (rw (le-ltb entry index l))

pub returns-then-index-entry : goal.returns-then-index-entry
returns-then-index-entry c =
    let s = c.args in
    not_smaller s.index s.entry _ (omega (arith, c.if-index-entry.true))

pub returns : goal.returns
returns c =
    let s = c.args in
    let at = c.sequence_at-witness in
    smaller s.set s.own s.index s.entry _ _ (omega (arith, c.if-index-entry.false))
    (part_rest at.result.start at.result.rules ∙ at.ensures.1)
    c.is_redundant.ensures.0
