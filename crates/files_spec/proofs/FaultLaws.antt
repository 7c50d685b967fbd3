-- What a refused file has: it is refused by 1, 2 or 3 exactly if it has that fault after a faultless front, and by 1
-- exactly if no other outcome is due.
-- Assumes nothing.
use mathlib.Core.Path.{◌≡◌, sym, ap, ◌∙◌}
use mathlib.Core.Logic.{◌≢◌, ◌↔◌}
use mathlib.Core.List.{List, ◌∷◌}
use mathlib.Core.List.Memᴰ
use Prim.Native.Nat.{ℕ, zero, ◌≤◌}
use native.Mathlib.Omega.{arith}
use Rattle.theory_spec.specs.Lists.{◌∈◌}
use Rattle.files_spec.specs.Reading.{refused, reading}
use Rattle.files_spec.specs.Faults.{FileFault, left_over, NoOther}
use Rattle.files_spec.proofs.FileLaws.{file-read}
use Rattle.files_spec.proofs.ReadingLaws.{Ends, in_line, too_long, duplicated, accepted, reading_ends}
use Rattle.files_spec.proofs.LineFaultLaws.{lines-refused, fault-refused}
use Rattle.files_spec.proofs.RefusedLaws.{read_numbers, reading-numbers}
use Rattle.files_spec.proofs.RoundTrip.{accepted_iff, duplicates_iff}

-- an outcome from 1 to 3 is given exactly where the text has that fault
pub fault_iff : (n : ℕ) → 1 ≤ n → n ≤ 3 → (text : List ℕ) → ((reading text).outcome ≡ n) ↔ FileFault n text
fault_iff n one three text = (λ o. found o (reading_ends text), fault-refused n text)
  where
    found : (reading text).outcome ≡ n → Ends text (reading text) → FileFault n text
    found o (in_line m e r) = lines-refused n text (e ∙ ap refused (sym (ap (λ r. r.outcome) r) ∙ o))
    found o (too_long set b rest e r) =
        let w = file-read text set (b ∷ rest) e in left_over (sym o ∙ ap (λ r. r.outcome) r) set b rest w.0 w.1
    found o (duplicated set e d r) = absurd (omega (arith, ap (λ r. r.outcome) r))
    found o (accepted set e d r) = absurd (omega (arith, ap (λ r. r.outcome) r))

-- outcome 1 is given exactly where what is due does not stand there, after a faultless front, or bytes are left over
pub form_iff : (text : List ℕ) → ((reading text).outcome ≡ 1 → FileFault 1 text)
    × (FileFault 1 text → (reading text).outcome ≡ 1)
form_iff = fault_iff 1 (omega arith) (omega arith)

-- outcome 2 is given exactly where a well-formed number is outside its limit, after a faultless front
pub limit_iff : (text : List ℕ) → ((reading text).outcome ≡ 2 → FileFault 2 text)
    × (FileFault 2 text → (reading text).outcome ≡ 2)
limit_iff = fault_iff 2 (omega arith) (omega arith)

-- outcome 3 is given exactly where an entry within its limit is out of place, after a faultless front
pub place_iff : (text : List ℕ) → ((reading text).outcome ≡ 3 → FileFault 3 text)
    × (FileFault 3 text → (reading text).outcome ≡ 3)
place_iff = fault_iff 3 (omega arith) (omega arith)

-- outcome 1 is given exactly where no other is due
pub rest_iff : (text : List ℕ) → ((reading text).outcome ≡ 1 → NoOther text) × (NoOther text → (reading text).outcome ≡ 1)
rest_iff text = (
  λ h. (
    λ f. omega (arith, (accepted_iff text).1 f),
    λ f. omega (arith, (limit_iff text).1 f),
    λ f. omega (arith, (place_iff text).1 f),
    λ f. omega (arith, (duplicates_iff text).1 f),
  ),
  λ f.
      let zero : (reading text).outcome ≢ 0 = λ e. f.0 ((accepted_iff text).0 e) in
      let two : (reading text).outcome ≢ 2 = λ e. f.1 ((limit_iff text).0 e) in
      let three : (reading text).outcome ≢ 3 = λ e. f.2 ((place_iff text).0 e) in
      let four : (reading text).outcome ≢ 4 = λ e. f.3 ((duplicates_iff text).0 e) in
      left zero two three four (reading-numbers text),
)
  where
    left : (reading text).outcome ≢ 0 → (reading text).outcome ≢ 2 → (reading text).outcome ≢ 3 → (reading text).outcome ≢ 4
        → (reading text).outcome ∈ read_numbers → (reading text).outcome ≡ 1
    left n₀ n₂ n₃ n₄ (Memᴰ.head e) = absurd (n₀ e)
    left n₀ n₂ n₃ n₄ (Memᴰ.tail (Memᴰ.head e)) = e
    left n₀ n₂ n₃ n₄ (Memᴰ.tail (Memᴰ.tail (Memᴰ.head e))) = absurd (n₂ e)
    left n₀ n₂ n₃ n₄ (Memᴰ.tail (Memᴰ.tail (Memᴰ.tail (Memᴰ.head e)))) = absurd (n₃ e)
    left n₀ n₂ n₃ n₄ (Memᴰ.tail (Memᴰ.tail (Memᴰ.tail (Memᴰ.tail (Memᴰ.head e))))) =
        absurd (n₄ e)
    left n₀ n₂ n₃ n₄ (Memᴰ.tail (Memᴰ.tail (Memᴰ.tail (Memᴰ.tail (Memᴰ.tail d))))) =
        absurd (Memᴰ.not-nil d)
