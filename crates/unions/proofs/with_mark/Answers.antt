-- `unions::with_mark` meets its contract: full unions stay as they are.
use mathlib.Core.Path.{sym, ◌∙◌}
use native.Mathlib.Omega.{arith}
use lib.Dec.{eqb}
use borrow.Author.Tests.{eqb-true}
use Rattle.theory_spec.proofs.ListLaws.{and_split}
use Rattle.macros_spec.specs.Composition.{lines_of}
use Rattle.unions_spec.proofs.UnionLaws.{united_full}
use Rattle.unions.proofs.with_mark.Goals as goal

pub returns-then-are_full : goal.returns-then-are_full
returns-then-are_full c =
    let s = c.args in
    let both = and_split (eqb s.before.reads s.wide) (eqb s.before.writes s.wide)
    (sym c.are_full.ensures ∙ c.if-are_full.true) in
    sym (united_full s.wide (omega arith) (lines_of s.vectors) s.before
    (eqb-true s.before.reads s.wide both.0) (eqb-true s.before.writes s.wide both.1))
