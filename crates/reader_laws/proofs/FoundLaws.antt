-- What the functions of the reader give, as what their parsers give: what `?` passes on is the same refusal.
-- Assumes nothing.
use mathlib.Core.Path.{◌≡◌}
use mathlib.Core.List.{List}
use Prim.Native.Nat.{ℕ}
use denote.Ref.{Bor}
use Rattle.std.specs.Prelude.{Result, Ok, Err, IsErrAnd}
use Rattle.refusals_spec.specs.declared.Refusal.{Refusal}
use Rattle.refusals_spec.specs.Numbers.{number_of}
use Rattle.files_spec.specs.Reading.{Parsed, refused}
use Rattle.reader_laws.specs.How.Found.{read_as}

-- a refusal that `?` passes on is the one that was given
pub passed_on : {A : Type 0} {p : Parsed A} (refusal : Refusal) (result : Result (A × Bor (List ℕ)) Refusal)
    → p ≡ refused (number_of refusal) → IsErrAnd result (λ e. e ≡ refusal) → p ≡ read_as result
passed_on refusal (Ok found) h w = absurd w
passed_on refusal (Err e) h w = rw w h
