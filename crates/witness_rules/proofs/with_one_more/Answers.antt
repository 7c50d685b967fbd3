-- `witness_rules::with_one_more` meets its contract. The invariant: what is found from place k of the rules on is what
-- is found of all.
use mathlib.Core.Path.{refl, sym, ◌∙◌}
use native.Mathlib.Omega.{arith}
use Rattle.theory_spec.specs.Sequences.{level}
use Rattle.tables_laws.proofs.WitnessLaws.{witness-searched, witness_unsearched}
use Rattle.tables_laws.proofs.WitnessLaws.{from_first, from_end, last_next, last_found}
use Rattle.witness_rules.proofs.with_one_more.Goals as goal

pub returns-then-set-gt-MAX_RULES : goal.returns-then-set-gt-MAX_RULES
returns-then-set-gt-MAX_RULES c =
    let s = c.args in
    sym (witness_unsearched s.set s.index _ s.left (level s.set.count 1) c.if-set-gt-MAX_RULES.true)

pub loop-k-init : goal.loop-k-init
loop-k-init c =
    let s = c.args in
    from_first s.set s.entries.now s.target.now s.left s.index 0 1 refl
    ∙ sym (witness-searched s.set s.index _ s.left (level s.set.count 1) c.if-set-gt-MAX_RULES.false)

pub returns-then-finishes : goal.returns-then-finishes
returns-then-finishes c =
    let s = c.args in
    last_found s.set s.entries.now s.target.now s.left s.index c.loop-k.k (omega arith)
    _ c.finishes.ensures c.if-finishes.true _ c.index_behind.ensures
    ∙ c.loop-k.invariant

pub loop-k-preserved : goal.loop-k-preserved
loop-k-preserved c =
    let s = c.args in
    last_next s.set s.entries.now s.target.now s.left s.index c.loop-k.k (omega arith)
    _ c.finishes.ensures c.if-finishes.false
    ∙ c.loop-k.invariant

pub returns : goal.returns
returns c =
    let s = c.args in
    sym (from_end s.set s.entries.now s.target.now s.left s.index 0 c.loop-k.k (omega arith))
    ∙ c.loop-k.invariant
