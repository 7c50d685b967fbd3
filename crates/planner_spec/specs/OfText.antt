-- What an entry that takes a rule text in place of a set gives, and what its number tells of the text.
use Rattle.std.specs.Prelude.{◌≡◌, ◌⊎◌, ◌↔◌, cond, List, ℕ, ◌<◌, eqb}
use Rattle.model_spec.specs.declared.RuleSet.{RuleSet}
use Rattle.files_spec.specs.Reading.{reading, Faultless, OnlyDuplicates}
use Rattle.files_spec.specs.Faults.{FileFault}

-- of a text that is read what its set gives; of a refused one what its number, 1 to 4, gives
unfoldable pub of_text : {A : Type 0} → List ℕ → (RuleSet → A) → (ℕ → A) → A
of_text text from_set from_refusal =
    let read = reading text in
    cond (eqb read.outcome 0) (from_set read.set) (from_refusal read.outcome)

-- ── As a statement ───────────────────────────────────────────────────────────────────────────────

-- what the outcome tells of the text, whatever else was asked: each of 1 to 4 exactly if that is the text's fault,
-- as the reader judges it, and any other number exactly if the text has no fault
pub record TextJudged (text : List ℕ) (outcome : ℕ) : Type 0 where
  pub bad_form : (outcome ≡ 1) ↔ FileFault 1 text
  pub outside_limit : (outcome ≡ 2) ↔ FileFault 2 text
  pub misplaced : (outcome ≡ 3) ↔ FileFault 3 text
  pub duplicates : (outcome ≡ 4) ↔ OnlyDuplicates text
  pub passed : ((outcome ≡ 0) ⊎ (4 < outcome)) ↔ Faultless text
