-- A text that the reader takes is read as the reading's set, and that set is valid.
-- Assumes nothing.
use mathlib.Core.Path.{◌≡◌}
use mathlib.Core.List.{List}
use Prim.Native.Nat.{ℕ}
use Rattle.model_spec.specs.Validity.{Valid}
use Rattle.files_spec.specs.Reading.{reading, ReadAs}
use Rattle.files_spec.proofs.RoundTrip.{read-written}

module _ (text : List ℕ) (taken : (reading text).outcome ≡ 0) where
  pub read_as : ReadAs text (reading text).set
  read_as = λ i. record { outcome = taken i; set = (reading text).set }

  pub read-valid : Valid (reading text).set
  read-valid = (read-written text (reading text).set read_as).0
