-- `read_lines::list_line` meets its contract.
-- The invariant: the first i items stand in the array, and what is left of the text decides the line.
use Prim.Native.Nat.{min}
use Rattle.files_spec.specs.Reading.{items_after}
use Rattle.reader_laws.specs.How.Parts.{keyed_list, item_of}
use Rattle.reader_laws.proofs.ReadLoopLaws.{SoFar}
use Rattle.read_lines.proofs.list_line.Given as goal

abbrev pub invariant-loop-i : goal.invariant-loop-i
invariant-loop-i l =
    let count = min l.positions 16 in
    let item = item_of l.line count in
    SoFar (items_after item) 16 0 count (keyed_list l.key item count l.text) l.entries l.rest l.i
