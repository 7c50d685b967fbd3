-- `sequences::sequence_at` meets its contract. The invariant: the sequence is that of `rest`, of at most `start` rules,
-- and then the rules of the array from `start` on.
use mathlib.Core.Path.{◌≡◌, sym, ap, ◌∙◌}
use mathlib.Core.List.{List, [], ◌++◌, append-nil}
use Prim.Native.Nat.{ℕ, ◌-◌}
use native.Mathlib.Nat.{mod-lt}
use native.Mathlib.Omega.{arith}
use lib.ListN.{drop, length-set}
use borrow.Author.Rules.{rules}
use Rattle.theory_spec.specs.How.Indices.{sequence_of}
use Rattle.tables_laws.specs.How.ShortSequences.{short_sequence}
use Rattle.tables_laws.proofs.SequenceLoopLaws.{sequence_go, sequence-end, sequence_full}
use Rattle.sequences.proofs.sequence_at.Goals as goal

-- after the loop: nothing is left in front of the array's rules
ended : (m start rest : ℕ) (rules sequence : List ℕ) → sequence ≡ sequence_of m start rest ++ drop start rules
    → sequence_of m start rest ≡ [] → drop start rules ≡ sequence
ended m start rest rules sequence e none = sym (e ∙ ap (λ q. q ++ drop start rules) none)

pub loop-start-init : goal.loop-start-init
unfolding short_sequence
loop-start-init c =
    let s = c.args in
    let e = c.clamp-many.ensures in
    let all = sym (append-nil (sequence_of c.clamp-many.result 3 s.index)) in
    (omega arith, omega arith, search rules, search rules, ap (λ m. sequence_of m 3 s.index) (sym e) ∙ all)

pub overflow_cast-rules : goal.overflow_cast-rules
overflow_cast-rules c =
    let l = c.loop-start in
    omega (arith, mod-lt (l.rest - 1) {m = c.clamp-many.result} l.invariant.0)

pub overflow_add-rules : goal.overflow_add-rules
overflow_add-rules c =
    let l = c.loop-start in
    omega (arith, mod-lt (l.rest - 1) {m = c.clamp-many.result} l.invariant.0)

pub loop-start-preserved : goal.loop-start-preserved
loop-start-preserved c =
    let m = c.clamp-many.result in
    let l = c.loop-start in (
      l.invariant.0,
      l.invariant.1,
      search rules,
      length-set l.rules _ _ ∙ l.invariant.3,
      l.invariant.4 ∙ sequence_go m l.start l.rest l.rules (omega arith) (omega arith) (omega arith),
    )

pub returns-else-rest-gt0 : goal.returns-else-rest-gt0
returns-else-rest-gt0 c =
    let l = c.loop-start in
    let none = sequence-end c.clamp-many.result l.start l.rest (omega arith) in
    (l.invariant.2, ended c.clamp-many.result l.start l.rest l.rules _ l.invariant.4 none)

pub returns-after-loop-start : goal.returns-after-loop-start
returns-after-loop-start c =
    let l = c.loop-start in
    let none = sequence_full c.clamp-many.result l.start l.rest c.loop-start-test.false in
    (l.invariant.2, ended c.clamp-many.result l.start l.rest l.rules _ l.invariant.4 none)
