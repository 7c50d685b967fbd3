-- `moves::has_unknown_move` meets its contract: the closure tests each move.
use Rattle.std.proofs.Common.{rules, ◌∙◌, tests, ℕ, not}
use Rattle.std.proofs.lemmas.Iterator.{YieldsList-from_slice}
use Rattle.std.proofs.lemmas.Iterator.Search.{any_from_yields_List}
use Rattle.theory_spec.specs.Lists.{within}
use Rattle.model_spec.proofs.ChainLaws.{any_is}
use Rattle.moves.proofs.has_unknown_move.Goals as goal

pub returns : goal.returns
returns c =
    let moves = c.args.moves.now in
    let unknown = λ (n : ℕ). not (within 1 c.args.count n) in
    any_from_yields_List unknown c.any.new.self _ _ c.any.ensures.ran (YieldsList-from_slice moves cc)
    (λ x b q h. search (rules, tests))
    ∙ any_is unknown moves
