-- How a recursive search may go about it. No promise of a call needs this file, only those of functions below the
-- calls; the laws in proofs/ equate it with `visited` and `cheapest`.
use Rattle.std.specs.Prelude.{Bool, not, cond, ◌&&◌, ◌||◌, List, [], ◌∷◌, ◌++◌, ℕ, zero, suc, ◌-◌, leb, ltb, eqb}
use Rattle.std.specs.Prelude.{length, drop}
use Rattle.std.proofs.Math.Option.{Option, some, none}
use Rattle.theory_spec.specs.Lists.{any, keep, flat}
use Rattle.theory_spec.specs.How.Folds.{fold_over}
use Rattle.theory_spec.specs.Sequences.{Sequence, cost_of, numbers}

-- ── The visited sequences ────────────────────────────────────────────────────────────────────────

-- go on from the state that a rule leads to, where there is one and it passes the test
abbrev pub enter : {A : Type 0} → (A → Bool) → Option A → (A → List Sequence) → List Sequence
enter test none visit = []
enter test (some t) visit = cond (test t) (visit t) []

-- the search as a recursion: at the sequence q, which has led to the state s, with n moves left.
-- `may` tests whether it may go on to a sequence, which leads to a state
abbrev pub explore : {A : Type 0} → (ℕ → A → Option A) → ℕ → (Sequence → A → Bool) → ℕ → Sequence → A → List Sequence
explore step m may zero q s = q ∷ []
explore step m may (suc n) q s =
    q ∷ flat (λ r. enter (may (q ++ (r ∷ []))) (step r s) (explore step m may n (q ++ (r ∷ [])))) (numbers m)

-- ── The test of one more rule ────────────────────────────────────────────────────────────────────

-- the non-empty suffixes, the longest first
abbrev pub suffixes : Sequence → List Sequence
suffixes [] = []
suffixes (r ∷ q) = (r ∷ q) ∷ suffixes q

-- those of at most n rules
abbrev pub short_suffixes : ℕ → Sequence → List Sequence
short_suffixes n q = keep (λ b. leb (length b) n) (suffixes q)

-- the last k rules
abbrev pub last : ℕ → Sequence → Sequence
last k q = drop (length q - k) q

-- the test that looks only at the suffixes of at most n rules
abbrev pub allowed_next : (ℕ → ℕ) → (Sequence → Bool) → ℕ → ℕ → Sequence → Bool
allowed_next cost marked max_cost n q = leb (cost_of cost q) max_cost && not (any marked (short_suffixes n q))

-- ── The best plan so far ─────────────────────────────────────────────────────────────────────────

-- q replaces the best plan so far: it is cheaper, or costs the same and is shorter
abbrev pub better : (ℕ → ℕ) → Sequence → Sequence → Bool
better cost q p =
    ltb (cost_of cost q) (cost_of cost p)
    || (eqb (cost_of cost q) (cost_of cost p) && ltb (length q) (length p))

-- the better of q and the best plan so far
abbrev pub improved : (ℕ → ℕ) → Sequence → Option Sequence → Option Sequence
improved cost q none = some q
improved cost q (some p) = cond (better cost q p) (some q) (some p)

-- the best plan so far after q, if q passes the test
abbrev pub best_after : (ℕ → ℕ) → (Sequence → Bool) → Sequence → Option Sequence → Option Sequence
best_after cost good q c = cond (good q) (improved cost q c) c

-- the best plan so far after the sequences of a list
abbrev pub best : (ℕ → ℕ) → (Sequence → Bool) → Option Sequence → List Sequence → Option Sequence
best cost good = fold_over (best_after cost good)

-- ── The recursion that carries something along ───────────────────────────────────────────────────

-- go on from the state that a rule leads to, where there is one and it passes the test; else keep c
abbrev pub enter_with : {A C : Type 0} → C → (A → Bool) → Option A → (A → C) → C
enter_with c test none visit = c
enter_with c test (some t) visit = cond (test t) (visit t) c

-- the search as a recursion that carries c along: `note` says what a sequence, which has led to a state, makes of it
abbrev pub explore_with : {A C : Type 0} → (ℕ → A → Option A) → ℕ → (Sequence → A → Bool) → (Sequence → A → C → C)
    → ℕ → Sequence → A → C → C
explore_with step m may note zero q s c = note q s c
explore_with step m may note (suc n) q s c =
    fold_over
    (λ r c'. enter_with c' (may (q ++ (r ∷ []))) (step r s) (λ t. explore_with step m may note n (q ++ (r ∷ [])) t c'))
    (note q s c)
    (numbers m)
