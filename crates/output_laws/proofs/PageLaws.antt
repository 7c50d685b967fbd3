-- Laws of bytes laid over a page, as those of a text: one piece after another, and piece by piece in a loop.
-- Assumes nothing.
use mathlib.Core.Path.{◌≡◌, refl, sym, ◌∙◌}
use mathlib.Core.List.{List, [], ◌++◌}
use Prim.Native.Nat.{ℕ, ◌+◌, ◌≤◌, min}
use native.Mathlib.Omega.{arith}
use denote.MutBor.{MutBor}
use Rattle.files_spec.specs.Text.{numeral}
use Rattle.output_laws.specs.How.Overlay.{last_place, place_after, Laid, LaidOn, shown_numeral}
use Rattle.output_laws.proofs.OverlayLaws.{shown-number, laid_none, laid-append}
use Rattle.output_laws.proofs.OverlayLaws.{Remains, remains_all, remains_none, remains-rest}

-- the place after one byte
pub next-place : (at : ℕ) → at ≤ last_place → min (at + 1) last_place ≡ place_after at 1
unfolding place_after
next-place at h = omega arith

-- no byte leaves the page as it is
pub page_none : (at : ℕ) (page : MutBor (List ℕ)) → LaidOn at [] page at page
page_none at page = record { same = refl; laid = laid_none at page.now }

-- two pieces that were laid one after the other
pub page-append : {at next end : ℕ} {a b : List ℕ} {t t' t'' : MutBor (List ℕ)} → LaidOn at a t next t'
    → LaidOn next b t' end t'' → LaidOn at (a ++ b) t end t''
page-append p q = record { same = q.same ∙ p.same; laid = laid-append p.laid q.laid }

-- a number of at most three digits is laid as it is
pub page-number : {at n end : ℕ} {t t' : MutBor (List ℕ)} → LaidOn at (shown_numeral n) t end t' → n ≤ 999
    → LaidOn at (numeral n) t end t'
page-number {n = n} p low = record { same = p.same; laid = rw (shown-number n low) at p.laid }

-- of all bytes that were to be laid over the page these remain
pub record RemainsOn (at : ℕ) (all : List ℕ) (before : MutBor (List ℕ)) (next : ℕ) (bytes : List ℕ)
    (current : MutBor (List ℕ)) : Type 0 where
  pub same : current.ghost_name ≡ before.ghost_name
  pub remains : Remains at all before.now next bytes current.now

-- at the start all remain
pub page_all : (at : ℕ) (bytes : List ℕ) (page : MutBor (List ℕ)) → RemainsOn at bytes page at bytes page
page_all at bytes page = record { same = refl; remains = remains_all at bytes page.now }

module _ {at : ℕ} {all : List ℕ} {before : MutBor (List ℕ)} {next : ℕ} {bytes : List ℕ} {current : MutBor (List ℕ)}
    (r : RemainsOn at all before next bytes current) where
  -- where none remain, all were laid
  pub page-done : bytes ≡ [] → LaidOn at all before next current
  page-done e = record { same = r.same; laid = remains_none r.remains e }

  -- after the next piece the rest remains
  pub page-rest : (piece rest : List ℕ) → bytes ≡ piece ++ rest → {next' : ℕ} {text' : MutBor (List ℕ)}
      → LaidOn next piece current next' text' → RemainsOn at all before next' rest text'
  page-rest piece rest splits p =
      record { same = p.same ∙ r.same; remains = remains-rest r.remains piece rest splits p.laid }

-- what was laid over a page from the start of a text on was laid over the text
pub page-laid : {at end : ℕ} {bytes text after : List ℕ} {before page : MutBor (List ℕ)}
    → LaidOn at bytes before end page → at ≡ 0 → before.now ≡ text → after ≡ page.now → Laid 0 bytes text end after
page-laid {end = end} {bytes} {after = after} p start whole e = rw (e, sym start, sym whole) p.laid
