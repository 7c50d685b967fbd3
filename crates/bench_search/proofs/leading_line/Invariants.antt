-- Each turn adds a number, and what is left of the text is no longer than the text.
use Rattle.std.proofs.Common.{◌≡◌, ◌≤◌, length}
use Rattle.arrayvec.specs.ArrayVec.{array_vec_len}
use Rattle.bench_search.proofs.leading_line.Given as goal

abbrev pub invariant-loop : goal.invariant-loop
invariant-loop l = (array_vec_len l.numbers ≡ l.counter) × (length l.rest ≤ length l.text)
