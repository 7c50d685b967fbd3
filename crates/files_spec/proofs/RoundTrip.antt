-- Demand 2: a set written and read again is the same set, and a file read and written again is the same file. Every
-- file with no fault is read, and no other.
-- Assumes nothing.
use mathlib.Core.Path.{◌≡◌, refl, sym, ap, subst, ◌∙◌}
use mathlib.Core.Logic.{◌↔◌}
use mathlib.Core.Bool.{Bool, true, false, not, cond}
use mathlib.Core.List.{List, [], append-nil}
use Prim.Native.Nat.{ℕ}
use native.Mathlib.Omega.{arith}
use borrow.Author.Tests.{not-true}
use Rattle.theory_spec.proofs.ListLaws.{and_split, and_join}
use Rattle.model_spec.specs.Rules.{empty_set}
use Rattle.model_spec.specs.Validity.{has_duplicates, well_formed, valid, Valid}
use Rattle.model_spec.specs.declared.RuleSet.{RuleSet}
use Rattle.model_spec.proofs.ValidityLaws.{valid_iff}
use Rattle.files_spec.specs.File.{render}
use Rattle.files_spec.specs.Reading.{parsed, file_lines, reading, ReadAs, Readable, Faultless, OnlyDuplicates}
use Rattle.files_spec.proofs.FileLaws.{file-read, file_back}
use Rattle.files_spec.proofs.ReadingLaws.{at-end, Ends, in_line, too_long, duplicated, accepted, reading_ends}
use Rattle.files_spec.proofs.LineFaultLaws.{lines_limits}

-- ── Files of well-formed sets ────────────────────────────────────────────────────────────────────

-- a set is valid exactly if it is well formed and has no duplicates
formed_iff : (set : RuleSet) → Valid set ↔ ((well_formed set ≡ true) × (has_duplicates set.rules set.count ≡ false))
unfolding valid
formed_iff set = (
  λ v.
      let w = and_split (well_formed set) (not (has_duplicates set.rules set.count)) ((valid_iff set).1 v) in
      (w.0, not-true (has_duplicates set.rules set.count) w.1),
  λ w. (valid_iff set).0 (and_join w.0 (ap not w.1)),
)

-- the file of a well-formed set is read to its end, and then judged for duplicates
file-judged : (text : List ℕ) (set : RuleSet) {d : Bool} → well_formed set ≡ true → text ≡ render set
    → has_duplicates set.rules set.count ≡ d
    → reading text ≡ cond d (record { outcome = 4; set = empty_set }) (record { outcome = 0; set = set })
file-judged text set h e d = at-end text set (ap file_lines (e ∙ sym (append-nil (render set))) ∙ file_back set [] h) d

-- a text that is read to its end is such a file
to_end : (text : List ℕ) (set : RuleSet) → file_lines text ≡ parsed set [] → (well_formed set ≡ true)
    × (text ≡ render set)
to_end text set e = let w = file-read text set [] e in (w.0, w.1 ∙ append-nil (render set))

-- ── Outcomes 0 and 4 ─────────────────────────────────────────────────────────────────────────────

-- every file with no fault is read, and no other
pub accepted_iff : (text : List ℕ) → ((reading text).outcome ≡ 0 → Faultless text)
    × (Faultless text → (reading text).outcome ≡ 0)
accepted_iff text = (
  λ o. found o (reading_ends text),
  λ f. let w = (formed_iff f.0).0 f.1 in
      ap (λ r. r.outcome) (file-judged text f.0 w.0 f.2 w.1),
)
  where
    found : (reading text).outcome ≡ 0 → Ends text (reading text) → Faultless text
    found o (in_line n e r) = absurd (omega (arith, ap (λ r. r.outcome) r, lines_limits text n e))
    found o (too_long set b rest e r) = absurd (omega (arith, ap (λ r. r.outcome) r))
    found o (duplicated set e d r) = absurd (omega (arith, ap (λ r. r.outcome) r))
    found o (accepted set e d r) = let w = to_end text set e in (set, (formed_iff set).1 (w.0, d), w.1)

-- outcome 4 is given exactly where rules are duplicates and there is no other fault
pub duplicates_iff : (text : List ℕ) → ((reading text).outcome ≡ 4 → OnlyDuplicates text)
    × (OnlyDuplicates text → (reading text).outcome ≡ 4)
duplicates_iff text =
    (λ o. found o (reading_ends text), λ f. ap (λ r. r.outcome) (file-judged text f.0 f.1 f.3 f.2))
  where
    found : (reading text).outcome ≡ 4 → Ends text (reading text) → OnlyDuplicates text
    found o (in_line n e r) = absurd (omega (arith, ap (λ r. r.outcome) r, lines_limits text n e))
    found o (too_long set b rest e r) = absurd (omega (arith, ap (λ r. r.outcome) r))
    found o (duplicated set e d r) = let w = to_end text set e in (set, w.0, d, w.1)
    found o (accepted set e d r) = absurd (omega (arith, ap (λ r. r.outcome) r))

-- ── Round trips ──────────────────────────────────────────────────────────────────────────────────

-- a set written and read again is the same set
pub written_read : (set : RuleSet) → Valid set → ReadAs (render set) set
written_read set v = let w = (formed_iff set).0 v in file-judged (render set) set w.0 refl w.1

-- a text is read as one set at most
pub read-once : (text : List ℕ) (a b : RuleSet) → ReadAs text a → ReadAs text b → a ≡ b
read-once text a b p q = ap (λ r. r.set) (sym p ∙ q)

-- a file read and written again is the same file
pub read-written : (text : List ℕ) (set : RuleSet) → ReadAs text set → Valid set × (render set ≡ text)
read-written text set p =
    let w = (accepted_iff text).0 (ap (λ r. r.outcome) p) in
    let same = read-once text w.0 set (subst (λ t. ReadAs t w.0) (sym w.2) (written_read w.0 w.1)) p in
    (subst Valid same w.1, ap render (sym same) ∙ sym w.2)

-- two valid sets with one file are equal
pub written_once : (a b : RuleSet) → Valid a → Valid b → render a ≡ render b → a ≡ b
written_once a b v w e = read-once (render b) a b (subst (λ t. ReadAs t a) e (written_read a v)) (written_read b w)

-- the valid sets are those that some file is read as
pub readable_iff : (set : RuleSet) → (Valid set → Readable set) × (Readable set → Valid set)
readable_iff set = (λ v. (render set, written_read set v), λ r. (read-written r.0 set r.1).0)
