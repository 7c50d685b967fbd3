-- `read_entries::entry` meets its contract. The byte at the front decides between a variable and a constant;
-- past the end of the text there is none, and a constant is read. Past the end of the sizes a size is 0.
use Prim.Native.Nat.{ℕ, min}
use mathlib.Core.Path.{◌≡◌, refl, sym, ◌∙◌}
use mathlib.Core.Bool.{Bool, true, false, ◌&&◌}
use mathlib.Core.List.{List, [], ◌∷◌}
use lib.Dec.{eqb}
use lib.ListN.{get_or, take, drop}
use lib.Pointwise.{pointwise}
use Rattle.std.proofs.Common.{rules}
use Rattle.files_spec.specs.File.{variable_letter}
use Rattle.files_spec.specs.Reading.{variable, constant, entry}
use Rattle.read_entries.proofs.entry.Goals as goal

and_true : (b : Bool) → (b && true) ≡ b
and_true true = refl
and_true false = refl

-- the letter stands at the front or does not
front : (text : List ℕ) → eqb (get_or text 0 0) variable_letter ≡ pointwise eqb (take 1 text) (variable_letter ∷ [])
front [] = refl
front (b ∷ text) = sym (and_true (eqb b variable_letter))

module _ (positions : ℕ) (sizes : List ℕ) (i ending : ℕ) (text : List ℕ) where
  -- at the letter a variable is read, after it
  lettered : pointwise eqb (take 1 text) (variable_letter ∷ []) ≡ true
      → entry positions sizes i ending text ≡ variable positions ending (drop 1 text)
  unfolding entry
  lettered e = rw (front text ∙ e)

  -- elsewhere a constant
  unlettered : pointwise eqb (take 1 text) (variable_letter ∷ []) ≡ false
      → entry positions sizes i ending text ≡ constant (get_or sizes i 0) ending text
  unfolding entry
  unlettered e = rw (front text ∙ e)

pub returns-in-Some : goal.returns-in-Some
returns-in-Some c =
    let s = c.args in
    let h = c.in-Some.ensures.cases in
    lettered (min s.positions 16) s.sizes.now s.i s.ending s.text.now h.0 ∙ rw (sym h.1) c.variable.ensures

pub returns : goal.returns
returns c =
    let s = c.args in
    let size : c.unwrap_or.result ≡ get_or s.sizes.now s.i 0 = search rules in
    unlettered (min s.positions 16) s.sizes.now s.i s.ending s.text.now c.in_default.ensures.cases
    ∙ rw (sym size) c.constant.ensures
