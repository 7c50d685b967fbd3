-- What a function of the reader gives for a text: a value and the bytes after it, or a refusal. No answer mentions it:
-- it ties the functions to the definitions of Reading.
use Rattle.std.specs.Prelude.{List, ℕ, Result, Ok, Err}
use denote.Ref.{Bor}
use Rattle.refusals_spec.specs.declared.Refusal.{Refusal}
use Rattle.refusals_spec.specs.Numbers.{number_of}
use Rattle.model_spec.specs.Rules.{empty_set}
use Rattle.model_spec.specs.declared.RuleSet.{RuleSet}
use Rattle.files_spec.specs.Reading.{Parsed, refused, parsed}
use Rattle.files_spec.specs.declared.Reading.{Reading}

-- a value and the rest of the text, or the refusal's number
abbrev pub read_as : {A : Type 0} → Result (A × Bor (List ℕ)) Refusal → Parsed A
read_as (Ok found) = parsed found.0 found.1.now
read_as (Err refusal) = refused (number_of refusal)

-- a word has no value: the rest of the text alone
abbrev pub word_as : Result (Bor (List ℕ)) Refusal → Parsed (Unit {0})
word_as (Ok rest) = parsed tt rest.now
word_as (Err refusal) = refused (number_of refusal)

-- the set of a whole text, or the refusal's number with the empty set
abbrev pub reading_as : Result RuleSet Refusal → Reading
reading_as (Ok set) = record { outcome = 0; set = set }
reading_as (Err refusal) = record { outcome = number_of refusal; set = empty_set }
