-- Laws of vectors: what stands for what in one vector after another, and one entry replaced by another throughout.
-- Assumes nothing.
use mathlib.Core.Path.{◌≡◌, refl, sym, ap, ◌∙◌}
use mathlib.Core.Logic.{⊎_elim}
use mathlib.Core.Bool.{cond}
use mathlib.Core.List.{List, [], ◌∷◌, map_congr_left}
use Prim.Native.Nat.{ℕ, ◌%◌, ◌≤◌, ◌<◌}
use native.Mathlib.Omega.{arith}
use lib.ListN.{get_or, length, length-map, get_or-map}
use lib.Dec.{eqb}
use borrow.Author.Tests.{le-ltb, eq-eqb, ne_eqb}
use Rattle.theory_spec.proofs.ListLaws.{map_of-map}
use Rattle.theory_spec.proofs.TestLaws.{below?, equal?}
use Rattle.model_spec.specs.States.{State, value_of, values_of}
use Rattle.model_spec.proofs.StateLaws.{value-constant, values_at}
use Rattle.macros_spec.specs.Composition.{replaced}

-- ── Values ───────────────────────────────────────────────────────────────────────────────────────

-- a variable stands for what its place holds
pub value-place : (e : ℕ) (s : State) → 16 ≤ e → value_of e s ≡ get_or s (e % 16) 0
unfolding value_of
value-place e s h = rw (le-ltb e 16 h)

-- the entry at a place, where the vector stands for t
pub value_at : (v s t : List ℕ) (i : ℕ) → values_of v s ≡ t → value_of (get_or v i 0) s ≡ get_or t i 0
value_at v s t i h = sym (values_at v s i) ∙ ap (λ l. get_or l i 0) h

-- an entry read in a vector that is itself read in s
pub value_values : (e : ℕ) (v s : List ℕ) → value_of e (values_of v s) ≡ value_of (value_of e v) s
value_values e v s =
    ⊎_elim (λ h. value-constant e (values_of v s) h
    ∙ sym (ap (λ x. value_of x s) (value-constant e v h) ∙ value-constant e s h))
    (λ h. value-place e (values_of v s) h ∙ values_at v s (e % 16) ∙ ap (λ x. value_of x s) (sym (value-place e v h)))
    (below? e 16)

-- one effect after another
pub values_values : (w v s : List ℕ) → values_of (values_of w v) s ≡ values_of w (values_of v s)
unfolding values_of
values_values w v s =
    map_of-map (λ e. value_of e s) (λ e. value_of e v) w ∙ map_congr_left {l = w} (λ e _. sym (value_values e v s))

-- ── One entry replaced by another ────────────────────────────────────────────────────────────────

-- `to` in the place of `from`
abbrev pub exchanged : ℕ → ℕ → ℕ → ℕ
exchanged from to e = cond (eqb e from) to e

module _ (from to : ℕ) where
  pub exchanged_from : exchanged from to from ≡ to
  exchanged_from = rw (eq-eqb from from refl)

  pub exchanged-other : (e : ℕ) → (e ≡ from → ⊥) → exchanged from to e ≡ e
  exchanged-other e h = rw (ne_eqb e from h)

  pub exchanged_to : exchanged from to to ≡ to
  exchanged_to = ⊎_elim (λ h. ap (exchanged from to) h ∙ exchanged_from) (exchanged-other to) (equal? to from)

  -- a variable is replaced: constants stay
  exchanged-constant : (e : ℕ) → 16 ≤ from → e < 16 → exchanged from to e ≡ e
  exchanged-constant e hf he = exchanged-other e (λ h. omega arith)

  pub exchanged_less : (e : ℕ) → to ≤ from → exchanged from to e ≤ e
  exchanged_less e h =
      ⊎_elim (λ q. let w : exchanged from to e ≡ to = ap (exchanged from to) q ∙ exchanged_from in omega arith)
      (λ q. omega (arith, exchanged-other e q)) (equal? e from)

  -- in a state that does not tell the two apart, the replacement changes nothing
  value_exchanged : (s : State) (e : ℕ) → value_of from s ≡ value_of to s → value_of (exchanged from to e) s ≡ value_of e s
  value_exchanged s e h =
      ⊎_elim (λ q. ap (λ x. value_of (exchanged from to x) s) q ∙ ap (λ x. value_of x s) exchanged_from ∙ sym h
      ∙ ap (λ x. value_of x s) (sym q))
      (λ q. ap (λ x. value_of x s) (exchanged-other e q)) (equal? e from)

  pub values-replaced : (v s : List ℕ) → value_of from s ≡ value_of to s → values_of (replaced from to v) s ≡ values_of v s
  unfolding values_of replaced
  values-replaced v s h =
      map_of-map (λ e. value_of e s) (exchanged from to) v ∙ map_congr_left {l = v} (λ e _. value_exchanged s e h)

  pub replaced-length : (v : List ℕ) → length (replaced from to v) ≡ length v
  unfolding replaced
  replaced-length v = length-map v (exchanged from to)

  -- what stands at a place, and what is read in the vector, after a variable is replaced
  pub replaced_at : (v : List ℕ) (i : ℕ) → 16 ≤ from → get_or (replaced from to v) i 0 ≡ exchanged from to (get_or v i 0)
  unfolding replaced
  replaced_at v i h =
      ap (λ d. get_or (replaced from to v) i d) (sym (exchanged-constant 0 h (omega arith)))
      ∙ get_or-map (exchanged from to) v i 0

  pub value_in-replaced : (v : List ℕ) (e : ℕ) → 16 ≤ from
      → value_of e (replaced from to v) ≡ exchanged from to (value_of e v)
  value_in-replaced v e h =
      ⊎_elim (λ q. value-constant e (replaced from to v) q ∙ sym (exchanged-constant e h q)
      ∙ ap (exchanged from to) (sym (value-constant e v q)))
      (λ q. value-place e (replaced from to v) q ∙ replaced_at v (e % 16) h
      ∙ ap (exchanged from to) (sym (value-place e v q))) (below? e 16)

  pub values_in-replaced : (w v : List ℕ) → 16 ≤ from
      → values_of w (replaced from to v) ≡ replaced from to (values_of w v)
  unfolding values_of replaced
  values_in-replaced w v h =
      map_congr_left {l = w} (λ e _. value_in-replaced v e h)
      ∙ sym (map_of-map (exchanged from to) (λ e. value_of e v) w)

-- an entry replaced by itself
exchanged-itself : (a e : ℕ) → exchanged a a e ≡ e
exchanged-itself a e =
    ⊎_elim (λ q. ap (exchanged a a) q ∙ exchanged_from a a ∙ sym q) (exchanged-other a a e) (equal? e a)

pub replaced-itself : (a : ℕ) (v : List ℕ) → replaced a a v ≡ v
unfolding replaced
replaced-itself a [] = refl
replaced-itself a (e ∷ v) = cc (exchanged-itself a e, replaced-itself a v)
