-- `report::put_listing` meets its contract: one line for a refused text, the listing of its set for another.
use native.Mathlib.Omega.{arith}
use borrow.Author.Tests.{eq-eqb, ne_eqb}
use Rattle.files_spec.specs.Text.{line}
use Rattle.output_laws.proofs.OverlayLaws.{shown-number}
use Rattle.report.proofs.put_listing.Goals as goal

pub returns-then-outcome-ne0 : goal.returns-then-outcome-ne0
unfolding line
returns-then-outcome-ne0 c =
    let outcome = c.args.outcome in
    rw (ne_eqb outcome 0 c.if-outcome-ne0.true)
    (rw (shown-number outcome (omega arith)) at c.put_number_line.ensures)

pub put_set-requires : goal.put_set-requires
put_set-requires c = c.requires c.if-outcome-ne0.false

pub returns : goal.returns
returns c = rw (eq-eqb c.args.outcome 0 c.if-outcome-ne0.false) c.put_set.ensures
