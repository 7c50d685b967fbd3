-- The lowest wrong position, as the first pair of a goal's byte and a state's value that does not agree.
-- Assumes nothing.
use mathlib.Core.Path.{◌≡◌, sym, ap, subst, ◌∙◌}
use mathlib.Core.Bool.{Bool, true, false, not, ◌&&◌}
use mathlib.Core.List.{List}
use Prim.Native.Nat.{ℕ, ◌+◌, ◌-◌, ◌<◌, ◌≤◌}
use native.Mathlib.Omega.{arith}
use lib.Dec.{eqb}
use lib.ListN.{length, get_or, take, length-take}
use lib.Seq.{get_or-take}
use Rattle.std.specs.Prelude.{Option, Some, None}
use Rattle.std.specs.List.{AllWithin, HoldsAt, zip}
use Rattle.std.specs.Option.{MatchOption, option_map}
use Rattle.std.proofs.lemmas.Slice.Zip.{length-zip, get_or-zip}
use Rattle.theory_spec.proofs.TestLaws.{first_none_iff, first_that_iff}
use Rattle.search_spec.specs.Query.{any_value}
use Rattle.explain_spec.specs.Reasons.{is_wrong, wrong_position}
use Rattle.explain_laws.specs.How.Proposals.{place_if}
use Rattle.explain_laws.proofs.PlaceLaws.{place_found, none_found}

-- the value is not what the goal's byte asks for
abbrev pub wrong_pair : ℕ × ℕ → Bool
wrong_pair (asked, held) = not (eqb asked any_value) && not (eqb held asked)

module _ (goal s : List ℕ) (sixteen : length s ≡ 16) where
  abbrev asked : List ℕ
  asked = take 16 goal

  pairs-length : length (zip goal s) ≡ length asked
  pairs-length = omega (arith, length-zip goal s, length-take 16 goal)

  -- the test of a pair is that of its position
  tested : (i : ℕ) (b : Bool) → i < length (zip goal s) → wrong_pair (get_or (zip goal s) i (0, 0)) ≡ b
      → is_wrong asked s (i + 1) ≡ b
  unfolding is_wrong
  tested i b h e =
      let at : i + 1 - 1 ≡ i = omega arith in
      let low : i < 16 = omega (arith, length-zip goal s) in
      let pair = get_or-zip goal s i (0, 0) (omega (arith, length-zip goal s)) (omega (arith, length-zip goal s)) in
      rw (at, get_or-take 16 goal i 0 low) (sym (ap wrong_pair pair) ∙ e)

  earlier : (n : ℕ) → n ≤ length (zip goal s) → AllWithin (λ p. wrong_pair p ≡ false) (zip goal s) 0 n
      → (j : ℕ) → 1 ≤ j → j < 1 + n → is_wrong asked s j ≡ false
  earlier n few right j low high =
      let e : j - 1 + 1 ≡ j = omega arith in
      subst (λ m. is_wrong asked s m ≡ false) e
      (tested (j - 1) false (omega arith) (right (j - 1) (0, 0) (omega arith) (omega arith)))

  pub wrong-place : (r : Option ℕ)
      → MatchOption r (AllWithin (λ p. wrong_pair p ≡ false) (zip goal s) 0 (length (zip goal s)))
      (λ i. (i < length (zip goal s)) × HoldsAt (λ p. wrong_pair p ≡ true) (zip goal s) i
      × AllWithin (λ p. wrong_pair p ≡ false) (zip goal s) 0 i)
      → option_map (λ i. i + 1) r ≡ place_if (wrong_position asked s)
  unfolding wrong_position
  wrong-place None right =
      none_found _ (sym ((first_none_iff (is_wrong asked s) 1 (length asked) (omega arith)).1
      (λ j low high. earlier (length (zip goal s)) (omega arith) right j low (omega (arith, pairs-length)))))
  wrong-place (Some i) w =
      let inside = w.0 in
      place_found (i + 1) _ (omega arith) (sym ((first_that_iff (is_wrong asked s) 1 (length asked) (i + 1) (omega arith)).1 (
        omega arith,
        omega (arith, pairs-length, w.0),
        tested i true w.0 (w.1 (0, 0)),
        λ j low high. earlier i (omega (arith, w.0)) w.2 j low (omega arith),
      )).0)
