-- `segments::index_of` meets its contract. The invariant: the index is that of the rules so far.
use mathlib.Core.Path.{◌≡◌}
use Prim.Native.Nat.{◌≤◌}
use lib.ListN.{take}
use Rattle.theory_spec.specs.How.Indices.{index_of}
use Rattle.explain_laws.proofs.SegmentLoopLaws.{index_limit}
use Rattle.segments.proofs.index_of.Given as goal

abbrev pub invariant-loop-number : goal.invariant-loop-number
invariant-loop-number l =
    (l.index ≡ index_of l.count (take l.number-index l.number-items)) × (l.index ≤ index_limit l.number-index)
