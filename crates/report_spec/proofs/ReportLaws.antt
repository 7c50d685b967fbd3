-- What a report gives and leaves, and what it means.
-- Assumes nothing.
use mathlib.Core.Path.{◌≡◌, refl, sym, ap, ◌∙◌}
use mathlib.Core.Logic.{◌↔◌, ◌⊎◌, inl, inr, ◌≢◌}
use mathlib.Core.List.{List, [], ◌∷◌, ◌++◌}
use Prim.Native.Nat.{ℕ, ◌-◌, ◌≤◌, ◌<◌}
use native.Mathlib.Omega.{arith}
use lib.ListN.{length, replicate}
use borrow.Author.Tests.{le-leb, lt-leb, ne_eqb}
use Rattle.theory_spec.specs.Lists.{padded}
use Rattle.theory_spec.proofs.TestLaws.{below?}
use Rattle.model_spec.specs.Validity.{WellFormed}
use Rattle.model_spec.specs.declared.RuleSet.{RuleSet}
use Rattle.files_spec.specs.Text.{numeral, line}
use Rattle.files_spec.specs.Reading.{reading, ReadAs}
use Rattle.files_spec.proofs.RoundTrip.{read-written}
use Rattle.report_spec.specs.Listing.{listing_of, listing}
use Rattle.report_spec.specs.Report.{report_length, reported, ReportMeaning}
use Rattle.report_spec.proofs.MarkLaws.{marked_rise, marked-least, marked-lines}
use Rattle.report_spec.proofs.MarkLaws.{marked-prunable_iff, listed_iff}
use Rattle.report_spec.proofs.LengthLaws.{listing_limits}

module _ (text : List ℕ) where
  -- a refused text
  listing-refused : (reading text).outcome ≢ 0 → listing text ≡ line "refused=" (numeral (reading text).outcome ∷ [])
  unfolding listing
  listing-refused h = rw (ne_eqb (reading text).outcome 0 h)

  -- a text that is read
  listing-read : (set : RuleSet) → ReadAs text set → listing text ≡ listing_of set
  unfolding listing
  listing-read set p = rw p

  module _ (room : ℕ) where
    -- the listing fits
    pub report-fits : length (listing text) ≤ room → (report_length text room ≡ length (listing text))
        × (reported text room ≡ padded room 0 (listing text))
    unfolding report_length reported
    report-fits h = rw (le-leb (length (listing text)) room h) (refl, refl)

    -- the buffer is shorter
    pub report-short : room < length (listing text) → (report_length text room ≡ 0)
        × (reported text room ≡ replicate room 0)
    unfolding report_length reported
    report-short h = rw (lt-leb (length (listing text)) room h) (refl, refl)

    -- the meaning
    pub report_meaning : ReportMeaning text room (report_length text room) (reported text room)
    report_meaning = record {
      refused = listing-refused;
      read = listing-read;
      marks = λ set p. marked-prunable_iff set (few set p);
      sequences = λ set p. listed_iff set (few set p);
      rising = λ set p. marked_rise set;
      least = λ set p. marked-least set;
      lines = λ set p. marked-lines set (formed set p);
      short = short (below? room (length (listing text)));
      shown = shown (below? room (length (listing text)));
      zeros = zeros (below? room (length (listing text)));
    }
      where
        formed : (set : RuleSet) → ReadAs text set → WellFormed set
        formed set p = (read-written text set p).0.formed

        few : (set : RuleSet) → ReadAs text set → set.count ≤ 31
        few set p = (formed set p).count_limits.1

        short : (room < length (listing text)) ⊎ (length (listing text) ≤ room) → (report_length text room ≡ 0)
            ↔ (room < length (listing text))
        short (inl h) = (λ _. h, λ _. (report-short h).0)
        short (inr h) =
            (λ e. absurd (omega (arith, (report-fits h).0, (listing_limits text).0)), λ k. absurd (omega arith))

        shown : (room < length (listing text)) ⊎ (length (listing text) ≤ room) → report_length text room ≢ 0
            → (report_length text room ≡ length (listing text))
            × (reported text room ≡ listing text ++ replicate (room - report_length text room) 0)
        shown (inl h) n = absurd (n (report-short h).0)
        shown (inr h) n =
            let w = report-fits h in (w.0, w.1 ∙ ap (λ k. listing text ++ replicate (room - k) 0) (sym w.0))

        zeros : (room < length (listing text)) ⊎ (length (listing text) ≤ room) → report_length text room ≡ 0
            → reported text room ≡ replicate room 0
        zeros (inl h) e = (report-short h).1
        zeros (inr h) e = absurd (omega (arith, (report-fits h).0, (listing_limits text).0))
