-- A place and a segment that are there, or not.
-- Assumes nothing.
use mathlib.Core.Path.{◌≡◌, refl, ap}
use mathlib.Core.Logic.{◌≢◌}
use Prim.Native.Nat.{ℕ, zero, suc, ◌≤◌}
use native.Mathlib.Omega.{arith}
use Rattle.std.specs.Prelude.{Some, None}
use Rattle.explain_laws.specs.How.LookedUp.{segment_if}
use Rattle.explain_laws.specs.How.Proposals.{place_if}
use Rattle.explain_laws.specs.declared.Segment.{Segment}

pub place_found : (place X : ℕ) → 1 ≤ place → place ≡ X → Some place ≡ place_if X
place_found zero X h e = absurd (omega arith)
place_found (suc place) X h e = rw (← e) refl

pub none_found : (X : ℕ) → 0 ≡ X → None ≡ place_if X
none_found X e = rw (← e) refl

-- the place is the one that is meant
pub place_is : (X place : ℕ) → Some place ≡ place_if X → (place ≡ X) × (X ≢ 0)
place_is zero place e = absurd (cc)
place_is (suc X) place e = (cc, λ z. omega (arith, z))

pub no_place : (X : ℕ) → None ≡ place_if X → X ≡ 0
no_place zero e = refl
no_place (suc X) e = absurd (cc)

pub segment_found : (end length E L : ℕ) → E ≢ 0 → end ≡ E → length ≡ L
    → Some (record { end = end; length = length }) ≡ segment_if E L
segment_found end length zero L h e l = absurd (h refl)
segment_found end length (suc E) L h e l = rw (e, l) refl

pub no_segment : (E L : ℕ) → 0 ≡ E → None ≡ segment_if E L
no_segment E L e = rw (← e) refl

pub segment_is : (E L : ℕ) (s : Segment) → Some s ≡ segment_if E L → (s.end ≡ E) × (s.length ≡ L) × (E ≢ 0)
segment_is zero L s e = absurd (cc)
segment_is (suc E) L s e = let is : s ≡ record { end = suc E; length = L } = cc in
    (ap (λ (t : Segment). t.end) is, ap (λ (t : Segment). t.length) is, λ z. omega (arith, z))

pub segment_none : (E L : ℕ) → None ≡ segment_if E L → E ≡ 0
segment_none zero L e = refl
segment_none (suc E) L e = absurd (cc)
