-- A listing has at most 110,139 bytes, and an input has that of its front.
use mathlib.Core.Path.{◌≡◌, sym, ap, ◌∙◌}
use mathlib.Core.List.{List}
use Prim.Native.Nat.{ℕ, ◌-◌, ◌≤◌}
use native.Mathlib.Omega.{arith}
use lib.ListN.{length, take, replicate, length-append}
use lib.Seq.{length-take-le, take-append_seam}
use Rattle.report_spec.specs.Listing.{listing}
use Rattle.report_spec.specs.Report.{report_length, reported}
use Rattle.report_spec.proofs.LengthLaws.{listing_bound}
use Rattle.report_spec.proofs.ReportLaws.{report-fits}
use Rattle.report_spec.proofs.CutLaws.{listing_cut}
use Rattle.listing.proofs.listed.Goals as goal

-- a buffer that every listing fits holds the whole listing at its front
shown : (text : List ℕ) (room r : ℕ) (out : List ℕ) → 110139 ≤ room → r ≡ report_length text room
    → out ≡ reported text room → (r ≤ length out) × (take r out ≡ listing text)
shown text room r out wide p q =
    let w = report-fits text room (omega (arith, listing_bound text)) in
    let blank = replicate {A = ℕ} (room - length (listing text)) 0 in
    rw (p ∙ w.0, q ∙ w.1) (omega (arith, length-append (listing text) blank), take-append_seam (listing text) blank)

pub returns-clause-prefix_len : goal.returns-clause-prefix_len
returns-clause-prefix_len c =
    let r = c.report in
    let w = shown _ _ r.result r.new.out c.requires r.ensures.0 r.ensures.1 in (w.0, sym (length-take-le _ _ w.0))

pub returns-clause-by_index : goal.returns-clause-by_index
returns-clause-by_index c input n h e =
    let r = c.report in
    let w = shown _ _ r.result r.new.out c.requires r.ensures.0 r.ensures.1 in
    w.1 ∙ ap listing e ∙ listing_cut input n (omega (arith, h))
