-- What reader and writer give and leave has its meaning.
-- Assumes nothing.
use mathlib.Core.Path.{ap}
use mathlib.Core.List.{List}
use Prim.Native.Nat.{ℕ}
use lib.ListN.{length}
use Rattle.theory_spec.specs.Lists.{padded}
use Rattle.model_spec.specs.declared.RuleSet.{RuleSet}
use Rattle.files_spec.specs.Reading.{reading}
use Rattle.files_spec.specs.Writing.{written, written_buffer}
use Rattle.files_spec.specs.Meaning.{OutcomeMeaning, ReadMeaning, WriteMeaning}
use Rattle.files_spec.proofs.RoundTrip.{accepted_iff, duplicates_iff, read-written}
use Rattle.files_spec.proofs.ReadTextLaws.{read_as}
use Rattle.files_spec.proofs.WriterLaws.{writes_iff, invalid_iff, short_iff}
use Rattle.files_spec.proofs.AgainLaws.{file-text, set-again}
use Rattle.files_spec.proofs.RefusedLaws.{reading_bound, reading-refused, written-refused}
use Rattle.files_spec.proofs.FaultLaws.{form_iff, limit_iff, place_iff}

pub outcome_meaning : (text : List ℕ) → OutcomeMeaning text (reading text).outcome
outcome_meaning text =
    record {
      faultless = accepted_iff text;
      bad_form = form_iff text;
      outside_limit = limit_iff text;
      misplaced = place_iff text;
      duplicates = duplicates_iff text;
      no_other = reading_bound text;
    }

-- what reading gives has its meaning, for every text
pub read_meaning : (text : List ℕ) → ReadMeaning text (reading text)
read_meaning text =
    record {
      judged = outcome_meaning text;
      given = λ taken. read-written text (reading text).set (read_as text taken);
      refused = reading-refused text;
    }

-- what writing gives and leaves has its meaning, for every set and room
pub write_meaning : (set : RuleSet) (room : ℕ) → WriteMeaning set room (written set room) (written_buffer set room)
unfolding written written_buffer
write_meaning set room =
    record {
      not_valid = invalid_iff set room;
      too_long = short_iff set room;
      fits = writes_iff set room;
      whole = λ e. (ap length (file-text set room e), ap (padded room 0) (file-text set room e));
      again = set-again set room;
      refused = written-refused set room;
    }
