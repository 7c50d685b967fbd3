-- `read_lines::list_item` meets its contract: an item of each kind as its own function reads it.
use mathlib.Core.Path.{◌∙◌}
use native.Mathlib.Omega.{arith}
use lib.ListN.{take}
use lib.Seq.{length-take-le}
use borrow.Author.Rules.{rules}
use Rattle.files_spec.specs.Reading.{size_item}
use Rattle.reader_laws.specs.How.Parts.{item_of}
use Rattle.reader_laws.proofs.PlacementLaws.{condition_at, effect_at}
use Rattle.read_lines.proofs.list_item.Goals as goal

pub returns-in-Sizes : goal.returns-in-Sizes
unfolding item_of size_item
returns-in-Sizes c = rw c.in-Sizes.is c.number_within.ensures

pub returns-in-Condition : goal.returns-in-Condition
unfolding item_of
returns-in-Condition c =
    let a = c.args in
    rw c.in-Condition.is
    (condition_at a.positions c.in-Condition.sizes a.before a.i _ _ c.requires.0 (search rules)
    ∙ c.condition_item.ensures)

pub returns-in-Effect : goal.returns-in-Effect
unfolding item_of
returns-in-Effect c =
    let a = c.args in
    rw c.in-Effect.is
    (effect_at a.positions c.in-Effect.sizes c.in-Effect.condition (take a.i a.before) _ _ c.requires.0
    (length-take-le a.i a.before (omega arith))
    ∙ c.effect_item.ensures)
