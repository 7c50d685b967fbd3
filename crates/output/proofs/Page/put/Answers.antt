-- `output::Page::put` meets its contract: the byte stands within the text, or past its end.
use mathlib.Core.Path.{refl}
use Prim.Native.Nat.{◌≤◌}
use native.Mathlib.Omega.{arith}
use Rattle.output_laws.specs.How.Overlay.{last_place}
use Rattle.output_laws.proofs.OverlayLaws.{laid-within, laid_past}
use Rattle.output_laws.proofs.PageLaws.{next-place}
use Rattle.output.proofs.Page.put.Goals as goal
use Rattle.output.proofs.Page.put.Goals.{then-self, else-self}

pub returns : goal.returns
returns c =
    let low : c.args.self.now.at ≤ last_place = omega arith in
    let place = next-place c.args.self.now.at low in
    rw c.saturating_add-self.ensures (elim c.if-self.branch [
      | then-self w ↦ rw (w.self-is, place) (record { same = refl; laid = laid-within _ _ _ })
      | else-self w ↦ rw (w.self-is, place) (record { same = refl; laid = laid_past _ _ _ w.if-self.false })
    ])
