-- What reader and writer tell and leave, as statements.
use Rattle.std.specs.Prelude.{◌≡◌, ◌↔◌, ◌≢◌, List, ℕ, ◌≤◌, ◌<◌, length, take, replicate}
use Rattle.theory_spec.specs.Lists.{padded}
use Rattle.model_spec.specs.Rules.{empty_set}
use Rattle.model_spec.specs.Validity.{Valid}
use Rattle.model_spec.specs.declared.RuleSet.{RuleSet}
use Rattle.files_spec.specs.File.{render}
use Rattle.files_spec.specs.Reading.{ReadAs, Faultless, OnlyDuplicates}
use Rattle.files_spec.specs.Faults.{FileFault}
use Rattle.files_spec.specs.declared.Reading.{Reading}
use Rattle.files_spec.specs.declared.Written.{Written}

-- the outcome of a text: each number exactly if its cause holds and none before it does, 0 exactly if the text has no
-- fault, and no other number
pub record OutcomeMeaning (text : List ℕ) (outcome : ℕ) : Type 0 where
  pub faultless : (outcome ≡ 0) ↔ Faultless text
  pub bad_form : (outcome ≡ 1) ↔ FileFault 1 text
  pub outside_limit : (outcome ≡ 2) ↔ FileFault 2 text
  pub misplaced : (outcome ≡ 3) ↔ FileFault 3 text
  pub duplicates : (outcome ≡ 4) ↔ OnlyDuplicates text
  pub no_other : outcome ≤ 4

-- what reading a text gives: a valid set of which the text is the file, or the empty set
pub record ReadMeaning (text : List ℕ) (answer : Reading) : Type 0 where
  pub judged : OutcomeMeaning text answer.outcome
  pub given : answer.outcome ≡ 0 → Valid answer.set × (render answer.set ≡ text)
  pub refused : answer.outcome ≢ 0 → answer.set ≡ empty_set

-- what writing a set into a buffer of `room` bytes gives and leaves: the whole file and zeros after it, or zeros alone.
-- The buffer's front, as long as the answer says, is read as the same set again
pub record WriteMeaning (set : RuleSet) (room : ℕ) (answer : Written) (buffer : List ℕ) : Type 0 where
  pub not_valid : (answer.outcome ≡ 7) ↔ (Valid set → ⊥)
  pub too_long : (answer.outcome ≡ 8) ↔ (Valid set × (room < length (render set)))
  pub fits : (answer.outcome ≡ 0) ↔ (Valid set × (length (render set) ≤ room))
  pub whole : answer.outcome ≡ 0 → (answer.length ≡ length (render set)) × (buffer ≡ padded room 0 (render set))
  pub again : answer.outcome ≡ 0 → ReadAs (take answer.length buffer) set
  pub refused : answer.outcome ≢ 0 → (answer.length ≡ 0) × (buffer ≡ replicate room 0)
