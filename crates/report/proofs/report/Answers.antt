-- `report::report` meets its contract: what either way out gives and leaves is the definitions', which have their
-- meaning.
use mathlib.Core.Path.{◌≡◌, sym, ap, ◌∙◌}
use mathlib.Core.Bool.{cond}
use mathlib.Core.List.{List, [], ◌∷◌}
use Prim.Native.Nat.{ℕ, ◌≤◌, ◌<◌}
use native.Mathlib.Omega.{arith}
use lib.Dec.{eqb}
use borrow.Author.Rules.{rules}
use lib.ListN.{length, replicate}
use Rattle.model_spec.specs.How.Buffers.{filled_from}
use Rattle.model_spec.specs.Validity.{Valid}
use Rattle.model_spec.proofs.BufferLaws.{filled-whole}
use Rattle.files_spec.specs.Text.{numeral, line}
use Rattle.files_spec.specs.Reading.{reading}
use Rattle.files_spec.specs.declared.Reading.{Reading}
use Rattle.files_spec.proofs.ReadTextLaws.{read-valid}
use Rattle.output_laws.specs.How.Overlay.{last_place, Laid}
use Rattle.output_laws.proofs.OverlayLaws.{laid-length, laid_end, zeros_laid}
use Rattle.output_laws.proofs.PageLaws.{page-laid}
use Rattle.report_spec.specs.Listing.{listing_of, listing}
use Rattle.report_spec.specs.Report.{report_length, reported, ReportMeaning}
use Rattle.report_spec.proofs.LengthLaws.{listing_bound}
use Rattle.report_spec.proofs.ReportLaws.{report-fits, report-short, report_meaning}
use Rattle.report.proofs.report.Goals as goal

-- the listing, by what reading the text gave
listed : (text : List ℕ) (r : Reading) → r ≡ reading text
    → cond (eqb r.outcome 0) (listing_of r.set) (line "refused=" (numeral r.outcome ∷ [])) ≡ listing text
unfolding listing
listed text r e = rw e

-- a set that reading gave is valid
given-valid : (text : List ℕ) (r : Reading) → r ≡ reading text → r.outcome ≡ 0 → Valid r.set
given-valid text r e z = rw e (read-valid text (sym (ap (λ (q : Reading). q.outcome) e) ∙ z))

-- the definitions' length and buffer have their meaning
answers : (text : List ℕ) (room r : ℕ) (out : List ℕ) → r ≡ report_length text room → out ≡ reported text room
    → (r ≡ report_length text room) × (out ≡ reported text room) × ReportMeaning text room r out
answers text room r out e t = (e, t, rw (e, t) (report_meaning text room))

-- the listing was laid over a text, which left another
module _ (file : List ℕ) (text after : List ℕ) (end : ℕ) where
  too_long : length after < end → Laid 0 (listing file) text end after
      → (0 ≡ report_length file (length text)) × (filled_from 0 0 after ≡ reported file (length text))
      × ReportMeaning file (length text) 0 (filled_from 0 0 after)
  too_long h laid =
      let same = laid-length laid in
      let long = laid_end laid (omega (arith, listing_bound file)) in
      let w = report-short file (length text) (omega arith) in
      answers file (length text) _ _ (sym w.0)
      (filled-whole 0 after ∙ ap (λ n. replicate n 0) same ∙ sym w.1)

  laid-whole : end ≤ length after → Laid 0 (listing file) text end after
      → (end ≡ report_length file (length text)) × (filled_from 0 end after ≡ reported file (length text))
      × ReportMeaning file (length text) end (filled_from 0 end after)
  laid-whole h laid =
      let same = laid-length laid in
      let low : length (listing file) ≤ last_place = omega (arith, listing_bound file) in
      let long = laid_end laid low in
      let w = report-fits file (length text) (omega arith) in
      answers file (length text) _ _ (long ∙ sym w.0) (zeros_laid laid low (omega arith) ∙ sym w.1)

pub put_listing-requires : goal.put_listing-requires
put_listing-requires c = given-valid c.args.text.now c.read-reading.result c.read-reading.ensures.0

pub returns-then-out-end : goal.returns-then-out-end
returns-then-out-end c =
    let text = c.args.text.now in
    let new = c.new-page.ensures in
    let laid = rw (listed text c.read-reading.result c.read-reading.ensures.0) at c.put_listing.ensures in
    let same = sym (laid.same ∙ new.same) in
    rw c.fill_from.ensures
    (too_long text c.args.out.now _ _ c.if-out-end.true (page-laid laid new.place new.text (search rules)))

pub returns : goal.returns
returns c =
    let text = c.args.text.now in
    let new = c.new-page.ensures in
    let laid = rw (listed text c.read-reading.result c.read-reading.ensures.0) at c.put_listing.ensures in
    let same = sym (laid.same ∙ new.same) in
    rw c.fill_from-2.ensures
    (laid-whole text c.args.out.now _ _ c.if-out-end.false (page-laid laid new.place new.text (search rules)))
