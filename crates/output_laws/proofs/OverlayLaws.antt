-- Laws of bytes laid over a text: places, one piece after another, piece by piece in a loop, and zeros after what was
-- laid. The laws of pieces hold wherever the last of them ends.
-- Assumes nothing.
use mathlib.Core.Path.{◌≡◌, refl, sym, ap, ◌∙◌}
use mathlib.Core.List.{List, [], ◌∷◌, ◌++◌}
use Prim.Native.Nat.{ℕ, suc, ◌+◌, ◌-◌, ◌≤◌, min}
use native.Mathlib.Numerals.{add-one}
use native.Mathlib.Omega.{arith}
use lib.ListN.{length, take, drop, set, replicate, length-append, length-set}
use lib.Seq.{sets, sets-eq, set_out, take_at}
use Rattle.theory_spec.specs.Lists.{padded}
use Rattle.model_spec.specs.How.Buffers.{filled_from}
use Rattle.files_spec.specs.Text.{numeral}
use Rattle.output_laws.specs.How.Overlay.{last_place, place_after, overlaid, Laid, shown_numeral}

-- ── Places and numbers ───────────────────────────────────────────────────────────────────────────

-- a place that is not beyond the last
pub place-within : (at n : ℕ) → at + n ≤ last_place → place_after at n ≡ at + n
unfolding place_after
place-within at n h = omega arith

-- no byte after a place
place_none : (at : ℕ) → place_after at 0 ≡ at
unfolding place_after
place_none at = omega arith

-- so many bytes after a place, and then so many more
place-place : (at m n : ℕ) → place_after (place_after at m) n ≡ place_after at (m + n)
unfolding place_after
place-place at m n = omega arith

-- a number of at most three digits is laid as it is
pub shown-number : (n : ℕ) → n ≤ 999 → shown_numeral n ≡ numeral n
shown-number n h = let same : min n 999 ≡ n = omega arith in rw same

-- ── Pieces ───────────────────────────────────────────────────────────────────────────────────────

-- where it ends at the last place at most it is a run of stores, of which the library has laws
overlaid_sets : (at : ℕ) (bytes text : List ℕ) → at + length bytes ≤ last_place
    → overlaid at bytes text ≡ sets text at bytes
unfolding overlaid
overlaid_sets at [] text h = refl
overlaid_sets at (b ∷ bytes) text h =
    rw (place-within at 1 (omega arith), add-one at) (overlaid_sets (suc at) bytes (set text at b) (omega arith))

-- two pieces, one after the other
overlaid-append : (at : ℕ) (a b text : List ℕ)
    → overlaid at (a ++ b) text ≡ overlaid (place_after at (length a)) b (overlaid at a text)
unfolding overlaid
overlaid-append at [] b text = rw place_none
overlaid-append at (x ∷ a) b text =
    let e : suc (length a) ≡ 1 + length a = omega arith in
    rw (e, sym (place-place at 1 (length a))) (overlaid-append (place_after at 1) a b (set text at x))

-- the text keeps its length
overlaid-length : (at : ℕ) (bytes text : List ℕ) → length (overlaid at bytes text) ≡ length text
unfolding overlaid
overlaid-length at [] text = refl
overlaid-length at (b ∷ bytes) text = overlaid-length (place_after at 1) bytes (set text at b) ∙ length-set text at b

-- no byte leaves the text as it is
pub laid_none : (at : ℕ) (text : List ℕ) → Laid at [] text at text
unfolding overlaid
laid_none at text = record { place = sym (place_none at); text = refl }

-- a byte within the text
pub laid-within : (at b : ℕ) (text : List ℕ) → Laid at (b ∷ []) text (place_after at 1) (set text at b)
unfolding overlaid
laid-within at b text = record { place = refl; text = refl }

-- a byte past its end
pub laid_past : (at b : ℕ) (text : List ℕ) → length text ≤ at → Laid at (b ∷ []) text (place_after at 1) text
unfolding overlaid
laid_past at b text h = record { place = refl; text = sym (set_out text at b h) }

-- the text keeps its length
pub laid-length : {at next : ℕ} {bytes before after : List ℕ} → Laid at bytes before next after
    → length after ≡ length before
laid-length {at} {bytes = bytes} {before} p = ap length p.text ∙ overlaid-length at bytes before

-- two pieces that were laid one after the other
pub laid-append : {at next end : ℕ} {a b t t' t'' : List ℕ} → Laid at a t next t' → Laid next b t' end t''
    → Laid at (a ++ b) t end t''
laid-append {at} {next} {end} {a} {b} {t} {t'} {t''} p q = record {
  place = q.place ∙ rw (p.place, place-place at (length a) (length b), length-append a b);
  text = q.text ∙ rw (p.place, p.text) (sym (overlaid-append at a b t));
}

-- ── Piece by piece ───────────────────────────────────────────────────────────────────────────────

-- of all bytes that were to be laid over `before` from `at` on these remain, from `next` on: over the text as it is now
-- they make what all make over `before`
pub record Remains (at : ℕ) (all before : List ℕ) (next : ℕ) (bytes current : List ℕ) : Type 0 where
  pub place : place_after next (length bytes) ≡ place_after at (length all)
  pub text : overlaid next bytes current ≡ overlaid at all before

-- at the start all remain
pub remains_all : (at : ℕ) (bytes text : List ℕ) → Remains at bytes text at bytes text
remains_all at bytes text = record { place = refl; text = refl }

module _ {at : ℕ} {all before : List ℕ} {next : ℕ} {bytes current : List ℕ}
    (r : Remains at all before next bytes current) where
  -- the text keeps its length
  pub remains-length : length current ≡ length before
  remains-length = sym (overlaid-length next bytes current) ∙ ap length r.text ∙ overlaid-length at all before

  -- where none remain, all were laid
  pub remains_none : bytes ≡ [] → Laid at all before next current
  unfolding overlaid
  remains_none e = record {
    place = sym (place_none next) ∙ ap (λ b. place_after next (length b)) (sym e) ∙ r.place;
    text = rw e at r.text;
  }

  module _ (piece rest : List ℕ) (splits : bytes ≡ piece ++ rest) where
    -- after the next piece the rest remains
    pub remains-rest : {next' : ℕ} {text' : List ℕ} → Laid next piece current next' text'
        → Remains at all before next' rest text'
    remains-rest p = record {
      place =
          ap (λ m. place_after m (length rest)) p.place ∙ place-place next (length piece) (length rest)
          ∙ ap (place_after next) (sym (ap length splits ∙ length-append piece rest))
          ∙ r.place;
      text =
          rw (p.place, p.text) (sym (overlaid-append next piece rest current))
          ∙ ap (λ b. overlaid next b current) (sym splits)
          ∙ r.text;
    }

-- bytes that were laid from the start on end at their length
pub laid_end : {bytes before after : List ℕ} {next : ℕ} → Laid 0 bytes before next after → length bytes ≤ last_place
    → next ≡ length bytes
laid_end {bytes = bytes} p low = omega (arith, p.place, place-within 0 (length bytes) (omega arith))

-- ── Zeros ────────────────────────────────────────────────────────────────────────────────────────

-- zeros throughout
pub zeros-whole : (text : List ℕ) → filled_from 0 0 text ≡ padded (length text) 0 []
unfolding filled_from
zeros-whole text = refl

-- zeros after bytes that were laid from the start on, and fit
pub zeros_laid : {bytes before after : List ℕ} {next : ℕ} → Laid 0 bytes before next after
    → length bytes ≤ last_place → length bytes ≤ length before → filled_from 0 next after ≡ padded (length before) 0 bytes
unfolding filled_from
zeros_laid {bytes} {before} {after} {next} p low h =
    rw (p.text, overlaid-length 0 bytes before, laid_end p low)
    (ap (λ t. t ++ replicate (length before - length bytes) 0) front)
  where
    front : take (length bytes) (overlaid 0 bytes before) ≡ bytes
    front =
        rw (overlaid_sets 0 bytes before (omega arith), sets-eq bytes before 0 (omega arith))
        (take_at bytes (drop (0 + length bytes) before) (length bytes) refl)
