-- Laws of states: the list of all states has each state of the sizes and nothing else; what a condition and an effect
-- mean place by place.
-- Assumes nothing.
use mathlib.Core.Path.{◌≡◌, sym, ap, ◌∙◌, subst}
use mathlib.Core.Logic.{◌↔◌}
use mathlib.Core.Bool.{true}
use mathlib.Core.List.{List, [], ◌∷◌, map}
use mathlib.Core.List.Memᴰ
use Prim.Native.Nat.{ℕ, zero, suc, ◌+◌, ◌-◌, ◌≤◌, ◌<◌}
use native.Mathlib.Omega.{arith}
use lib.ListN.{length, get_or, length-map, get_or-map}
use lib.Seq.{ext_get_or}
use borrow.Author.Tests.{lt-ltb, le-ltb}
use Rattle.theory_spec.specs.Lists.{◌∈◌, numbers_from}
use Rattle.theory_spec.proofs.ListLaws.{here, in-flat, of-flat, of-numbers_from, in-numbers_from}
use Rattle.theory_spec.proofs.TestLaws.{same_iff}
use Rattle.model_spec.specs.States.{State, places, value_of, values_of, applicable, successor, width, IsState}
use Rattle.model_spec.specs.States.{choices, states}

-- ── All states ───────────────────────────────────────────────────────────────────────────────────

-- s has a value below the number given for each place
abbrev Below : List ℕ → State → Type 0
Below ns s = (length s ≡ length ns) × ((i : ℕ) → i < length ns → get_or s i 0 < get_or ns i 0)

longer : (n v : ℕ) (ns : List ℕ) (s : State) → v < n → Below ns s → Below (n ∷ ns) (v ∷ s)
longer n v ns s h b = (ap suc b.0, at)
  where
    at : (i : ℕ) → i < suc (length ns) → get_or (v ∷ s) i 0 < get_or (n ∷ ns) i 0
    at zero k = h
    at (suc i) k = b.1 i (omega arith)

of-choices : (ns : List ℕ) (s : State) → s ∈ choices ns → Below ns s
of-choices [] s d = (ap length (Memᴰ.eq_of_singleton d), λ i h. absurd (omega arith))
of-choices (n ∷ ns) s d =
    let w = of-flat (λ v. map (λ (s : State). v ∷ s) (choices ns)) (numbers_from 0 n) d in
    let r = Memᴰ.of_map (λ (s : State). w.0 ∷ s) (choices ns) w.2 in
    let h = of-numbers_from 0 n w.1 in
    subst (Below (n ∷ ns)) r.2 (longer n w.0 ns r.0 (omega arith) (of-choices ns r.0 r.1))

in-choices : (ns : List ℕ) (s : State) → Below ns s → s ∈ choices ns
in-choices [] [] b = here [] []
in-choices [] (v ∷ s) b = absurd (omega arith)
in-choices (n ∷ ns) [] b = absurd (omega arith)
in-choices (n ∷ ns) (v ∷ s) b =
    in-flat (λ v. map (λ (s : State). v ∷ s) (choices ns))
    (in-numbers_from 0 n v (omega arith) (omega (arith, b.1 0 (omega arith))))
    (Memᴰ.map (λ (s : State). v ∷ s) (in-choices ns s (omega arith, λ i h. b.1 (suc i) (omega arith))))

at-numbers : (f : ℕ → ℕ) (k n i : ℕ) → i < n → get_or (map f (numbers_from k n)) i 0 ≡ f (k + i)
at-numbers f k zero i h = absurd (omega arith)
at-numbers f k (suc n) zero h = ap f (omega arith)
at-numbers f k (suc n) (suc i) h = at-numbers f (suc k) n i (omega arith) ∙ ap f (omega arith)

-- what stands at a place of a list made from the places
pub at_places : (f : ℕ → ℕ) (i : ℕ) → i < 16 → get_or (map f places) i 0 ≡ f i
at_places f i h = at-numbers f 0 16 i h ∙ ap f (omega arith)

-- the states of the sizes are exactly the lists with a value below its width at every place
pub states_iff : (positions : ℕ) (sizes : List ℕ) (s : State) → (s ∈ states positions sizes) ↔ IsState positions sizes s
unfolding states
states_iff positions sizes s = (
  λ d. let b = of-choices ws s d in (b.0, λ i h. rw (sym (at i h)) (b.1 i h)),
  λ h. in-choices ws s (h.0, λ i k. rw (at i k) (h.1 i k)),
)
  where
    ws : List ℕ
    ws = map (width positions sizes) places

    at : (i : ℕ) → i < 16 → get_or ws i 0 ≡ width positions sizes i
    at = at_places (width positions sizes)

-- ── Widths ───────────────────────────────────────────────────────────────────────────────────────

-- a position has as many values as its size says
pub width-position : (positions : ℕ) (sizes : List ℕ) (i : ℕ) → i < positions → width positions sizes i ≡ get_or sizes i 0
unfolding width
width-position positions sizes i h = rw (lt-ltb i positions h)

pub width_beyond : (positions : ℕ) (sizes : List ℕ) (i : ℕ) → positions ≤ i → width positions sizes i ≡ 1
unfolding width
width_beyond positions sizes i h = rw (le-ltb i positions h)

-- ── Entries ──────────────────────────────────────────────────────────────────────────────────────

-- a constant stands for itself
pub value-constant : (e : ℕ) (s : State) → e < 16 → value_of e s ≡ e
unfolding value_of
value-constant e s h = rw (lt-ltb e 16 h)

-- a variable stands for what its position holds
pub value-variable : (e : ℕ) (s : State) → 16 ≤ e → e < 32 → value_of e s ≡ get_or s (e - 16) 0
unfolding value_of
value-variable e s h k = rw (le-ltb e 16 h) (ap (λ i. get_or s i 0) (omega arith))

pub values_at : (entries : List ℕ) (s : State) (i : ℕ) → get_or (values_of entries s) i 0 ≡ value_of (get_or entries i 0) s
unfolding values_of value_of
values_at entries s i = get_or-map (λ e. value_of e s) entries i 0

pub values_length : (entries : List ℕ) (s : State) → length (values_of entries s) ≡ length entries
unfolding values_of
values_length entries s = length-map entries (λ e. value_of e s)

-- ── Conditions and effects ───────────────────────────────────────────────────────────────────────

-- a rule runs exactly if every entry of its condition stands for what its place holds
pub applicable_iff : (condition : List ℕ) (s : State) → (applicable condition s ≡ true) ↔ (values_of condition s ≡ s)
unfolding applicable
applicable_iff condition s = same_iff (values_of condition s) s

-- the same place by place
pub applicable_at_iff : (condition : List ℕ) (s : State) → length condition ≡ 16 → length s ≡ 16
    → (applicable condition s ≡ true) ↔ ((i : ℕ) → i < 16 → get_or s i 0 ≡ value_of (get_or condition i 0) s)
applicable_at_iff condition s hc hs = (down, up)
  where
    down : applicable condition s ≡ true → (i : ℕ) → i < 16 → get_or s i 0 ≡ value_of (get_or condition i 0) s
    down e i h = sym (ap (λ l. get_or l i 0) ((applicable_iff condition s).0 e)) ∙ values_at condition s i

    up : ((i : ℕ) → i < 16 → get_or s i 0 ≡ value_of (get_or condition i 0) s) → applicable condition s ≡ true
    up f =
        let n = values_length condition s in
        (applicable_iff condition s).1 (ext_get_or 0 (values_of condition s) s (n ∙ hc ∙ sym hs)
        (λ i h. values_at condition s i ∙ sym (f i (omega arith))))

-- after a rule each place holds what the effect's entry stood for before it
pub successor_at : (effect : List ℕ) (s : State) (i : ℕ) → get_or (successor effect s) i 0 ≡ value_of (get_or effect i 0) s
unfolding successor
successor_at effect s i = values_at effect s i

pub successor-length : (effect : List ℕ) (s : State) → length (successor effect s) ≡ length effect
unfolding successor
successor-length effect s = values_length effect s
