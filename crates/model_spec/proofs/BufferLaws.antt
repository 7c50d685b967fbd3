-- Laws of filled buffers: throughout, and a part that is filled.
-- Assumes nothing.
use mathlib.Core.Path.{◌≡◌, ap, ◌∙◌}
use mathlib.Core.List.{List, [], append-nil}
use Prim.Native.Nat.{ℕ, ◌-◌, min}
use native.Mathlib.Omega.{arith}
use borrow.Rule.Slice.PartMut.{put_mid}
use lib.ListN.{length, take, drop, replicate, length-drop, drop_of_length-le}
use Rattle.std.proofs.lemmas.List.{take_min}
use Rattle.model_spec.specs.How.Buffers.{filled_from}

module _ (byte : ℕ) (buffer : List ℕ) where
  -- throughout
  pub filled-whole : filled_from byte 0 buffer ≡ replicate (length buffer) byte
  unfolding filled_from
  filled-whole = let e : length buffer - 0 ≡ length buffer = omega arith in rw e

  -- the part from a place on is filled
  pub filled_part : (from start : ℕ) (part : List ℕ) → start ≡ min from (length buffer)
      → part ≡ replicate (length buffer - start) byte
      → put_mid start (length buffer - start) buffer part ≡ filled_from byte from buffer
  unfolding filled_from
  filled_part from start part s p =
      let rest : length buffer - start ≡ length buffer - from = omega arith in
      let past : drop (length buffer - start) (drop start buffer) ≡ [] =
      drop_of_length-le (drop start buffer) (omega (arith, length-drop start buffer)) in
      let front : take start buffer ≡ take from buffer = ap (λ n. take n buffer) s ∙ take_min from buffer in
      rw (past, append-nil part, p, front, rest)
