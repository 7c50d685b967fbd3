-- Parsers that are decided by the front of a text: what they say of a text they say of its first n bytes, from some n
-- on. Put together, such parsers are such a parser again.
-- Assumes nothing.
use mathlib.Core.Path.{◌≡◌, refl, sym, ap, subst, ◌∙◌}
use mathlib.Core.Bool.{Bool, true, false, cond}
use mathlib.Core.List.{List}
use Prim.Native.Nat.{ℕ, suc, ◌+◌, ◌-◌, ◌≤◌}
use native.Mathlib.Omega.{arith}
use lib.ListN.{take}
use Rattle.files_spec.specs.Reading.{Parsed, refused, parsed, and_read, refused_unless}

-- what is said of the first n bytes agrees with what is said of the whole text: the same refusal; or the same value,
-- with what is left of the n bytes after those that it uses,
-- and P holds of the value and of their number
abbrev pub Agrees : {A : Type 0} → (A → ℕ → Type 0) → ℕ → Parsed A → Parsed A → Type 0
Agrees P n (refused m) cut = cut ≡ refused m
Agrees P n (parsed a rest) cut = (used : ℕ) × P a used × (cut ≡ parsed a (take (n - used) rest))

-- a parser is decided by the first k bytes, and by any more
abbrev pub ByFront : {A : Type 0} → (A → ℕ → Type 0) → ℕ → (List ℕ → Parsed A) → Type 0
ByFront P k p = (text : List ℕ) (n : ℕ) → k ≤ n → Agrees P n (p text) (p (take n text))

-- so many bytes at most
abbrev pub Within : {A : Type 0} → ℕ → A → ℕ → Type 0
Within c a u = u ≤ c

-- a value with as many of the bytes left
left-same : {A : Type 0} (a : A) (rest : List ℕ) (m n : ℕ) → m ≡ n → parsed a (take m rest) ≡ parsed a (take n rest)
left-same a rest m n e = ap (λ m. parsed a (take m rest)) e

module _ {A : Type 0} (P Q : A → ℕ → Type 0) (weak : (a : A) (u : ℕ) → P a u → Q a u) where
  agrees_weak : (n : ℕ) (q cut : Parsed A) → Agrees P n q cut → Agrees Q n q cut
  agrees_weak n (refused m) cut e = e
  agrees_weak n (parsed a rest) cut w = (w.0, weak a w.0 w.1, w.2)

  -- by more bytes, with less said of the value
  pub weaker : (k K : ℕ) (p : List ℕ → Parsed A) → k ≤ K → ByFront P k p → ByFront Q K p
  weaker k K p h front text n b = agrees_weak n (p text) (p (take n text)) (front text n (omega arith))

-- a value that uses no byte
pub value_front : {A : Type 0} (P : A → ℕ → Type 0) (k : ℕ) (a : A) → P a 0 → ByFront P k (λ text. parsed a text)
value_front P k a h text n b = (0, h, left-same a text n (n - 0) (omega arith))

-- what is read always holds of the value too
pub also_front : {A : Type 0} (P : A → ℕ → Type 0) (Q : A → Type 0) (k : ℕ) (p : List ℕ → Parsed A)
    → ((text : List ℕ) (a : A) (rest : List ℕ) → p text ≡ parsed a rest → Q a)
    → ByFront P k p → ByFront (λ a u. Q a × P a u) k p
also_front {A} P Q k p holds front text n b = go (p text) refl (front text n b)
  where
    go : (q : Parsed A) → p text ≡ q → Agrees P n q (p (take n text))
        → Agrees (λ a u. Q a × P a u) n q (p (take n text))
    go (refused m) e w = w
    go (parsed a rest) e w = (w.0, (holds text a rest e, w.1), w.2)

-- behind one more byte
pub behind_one : {A : Type 0} (P Q : A → ℕ → Type 0) → ((a : A) (u : ℕ) → P a u → Q a (suc u))
    → (n : ℕ) (q cut : Parsed A) → Agrees P n q cut → Agrees Q (suc n) q cut
behind_one P Q more n (refused m) cut e = e
behind_one P Q more n (parsed a rest) cut w =
    (suc w.0, more a w.0 w.1, w.2 ∙ left-same a rest (n - w.0) (suc n - suc w.0) (omega arith))

-- one part after another
module _ {A B : Type 0} (P : A → ℕ → Type 0) (R : B → ℕ → Type 0) (k K : ℕ) (p : List ℕ → Parsed A)
    (next : A → List ℕ → Parsed B) where
  shifted : (u n : ℕ) (q cut : Parsed B) → Agrees (λ b w. R b (u + w)) (n - u) q cut → Agrees R n q cut
  shifted u n (refused m) cut e = e
  shifted u n (parsed b rest) cut w =
      (u + w.0, w.1, w.2 ∙ left-same b rest (n - u - w.0) (n - (u + w.0)) (omega arith))

  pub then_front : ByFront P k p → k ≤ K → ((a : A) (u : ℕ) → P a u → ByFront (λ b w. R b (u + w)) (K - u) (next a))
      → ByFront R K (λ text. and_read (p text) next)
  then_front first h second text n b = go (p text) (first text n (omega arith))
    where
      go : (q : Parsed A) → Agrees P n q (p (take n text))
          → Agrees R n (and_read q next) (and_read (p (take n text)) next)
      go (refused m) e = ap (λ q. and_read q next) e
      go (parsed a rest) w =
          subst (λ q. Agrees R n (next a rest) (and_read q next)) (sym w.2)
          (shifted w.0 n (next a rest) (next a (take (n - w.0) rest))
          (second a w.0 w.1 rest (n - w.0) (omega arith)))

-- a value that is judged by a test
pub judged_front : {A : Type 0} (P : A → ℕ → Type 0) (m k : ℕ) (test : A → Bool) (p : List ℕ → Parsed A) → ByFront P k p
    → ByFront (λ a u. (test a ≡ true) × P a u) k (λ text. refused_unless m test (p text))
judged_front {A} P m k test p front =
    then_front P (λ a u. (test a ≡ true) × P a u) k k p (λ a rest. cond (test a) (parsed a rest) (refused m)) front
    (omega arith) (λ a u h rest n b. go a u h rest n (test a) refl)
  where
    go : (a : A) (u : ℕ) → P a u → (rest : List ℕ) (n : ℕ) (t : Bool) → test a ≡ t
        → Agrees (λ b w. (test b ≡ true) × P b (u + w)) n (cond t (parsed a rest) (refused m))
        (cond t (parsed a (take n rest)) (refused m))
    go a u h rest n true e =
        (0, (e, subst (P a) {x = u} {y = u + 0} (omega arith) h), left-same a rest n (n - 0) (omega arith))
    go a u h rest n false e = refl
