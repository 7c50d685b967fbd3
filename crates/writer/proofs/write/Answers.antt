-- `writer::write` meets its contract: both ways give the answer and the buffer, which have their meaning.
use mathlib.Core.Path.{◌≡◌, refl}
use mathlib.Core.List.{List}
use Prim.Native.Nat.{ℕ}
use lib.ListN.{length}
use Rattle.model_spec.specs.declared.RuleSet.{RuleSet}
use Rattle.files_spec.specs.Writing.{written, written_buffer}
use Rattle.files_spec.specs.Meaning.{WriteMeaning}
use Rattle.files_spec.proofs.MeaningLaws.{write_meaning}
use Rattle.writer.proofs.write.Goals as goal
use Rattle.writer.proofs.write.Goals.{in-Ok, in-Err}

module _ (set : RuleSet) (room : ℕ) where
  answers : (outcome length : ℕ) (out : List ℕ) → outcome ≡ (written set room).outcome
      → length ≡ (written set room).length → out ≡ written_buffer set room
      → (record { outcome = outcome; length = length } ≡ written set room)
      × (out ≡ written_buffer set room)
      × WriteMeaning set room (record { outcome = outcome; length = length }) out
  answers outcome length out o l t = rw (o, l, t) (refl, refl, write_meaning set room)

pub returns : goal.returns
returns c =
    let s = c.args in
    let room = length s.text.now in
    rw c.fill_from.ensures (elim c.match-lay.branch [
      | in-Ok w ↦ rw w.outcome-is (answers s.set room _ _ _ w.in-Ok.ensures.0 w.in-Ok.ensures.1 w.in-Ok.ensures.2)
      | in-Err w ↦
          rw (w.outcome-is, w.number_of.ensures)
          (answers s.set room _ _ _ w.in-Err.ensures.0 w.in-Err.ensures.1 w.in-Err.ensures.2)
    ])
