-- Laws of parsers put together: one part read after another, and a value judged by a test. What they read, and where
-- they refuse.
-- Assumes nothing.
use mathlib.Core.Path.{◌≡◌, refl, sym, ap, ◌∙◌, subst₂}
use mathlib.Core.Logic.{◌↔◌}
use mathlib.Core.Bool.{Bool, true, false, cond}
use mathlib.Core.List.{List}
use Prim.Native.Nat.{ℕ}
use native.Mathlib.Omega.{arith}
use Rattle.files_spec.specs.Reading.{Parsed, refused, parsed, and_read, refused_unless}

-- ── What is read ─────────────────────────────────────────────────────────────────────────────────

-- a value is no refusal
pub not-refused {ℓ} : {X : Type ℓ} {A : Type 0} {a : A} {rest : List ℕ} {n : ℕ} → parsed a rest ≡ refused n → X
not-refused e = let z : ◌≡◌ {A = ℕ} 0 1 = cc in absurd (omega arith)

-- what holds of a value and the bytes after it holds of what equals them
pub of-parsed : {A : Type 0} (P : A → List ℕ → Type 0) {a b : A} {s t : List ℕ} → parsed a s ≡ parsed b t → P a s
    → P b t
of-parsed P e h = subst₂ P (cc) (cc) h

-- a value behind a test is read only where the test passes
pub if-read : {A : Type 0} (t : Bool) (p : Parsed A) (n : ℕ) (a : A) (rest : List ℕ)
    → cond t p (refused n) ≡ parsed a rest → (t ≡ true) × (p ≡ parsed a rest)
if-read true p n a rest e = (refl, e)
if-read false p n a rest e = not-refused (sym e)

-- of two parts that are read the first is read, and then the second
pub then-read : {A B C : Type 0} (p : Parsed A) {next : A → List ℕ → Parsed B} {b : B} {rest : List ℕ}
    → and_read p next ≡ parsed b rest
    → ((a : A) (mid : List ℕ) → p ≡ parsed a mid → next a mid ≡ parsed b rest → C) → C
then-read (refused n) e go = not-refused (sym e)
then-read (parsed a mid) e go = go a mid refl e

-- a first part that is read is gone on with
pub then_back : {A B : Type 0} {p : Parsed A} {a : A} {mid : List ℕ} {q : Parsed B} (next : A → List ℕ → Parsed B)
    → p ≡ parsed a mid → next a mid ≡ q → and_read p next ≡ q
then_back next e f = ap (λ p. and_read p next) e ∙ f

-- a value that is judged by a test is read, and passes it
pub unless-read : {A : Type 0} (n : ℕ) (test : A → Bool) (p : Parsed A) (a : A) (rest : List ℕ)
    → refused_unless n test p ≡ parsed a rest → (p ≡ parsed a rest) × (test a ≡ true)
unless-read n test p a rest e =
    then-read p e (λ b mid q r.
    let w = if-read (test b) (parsed b mid) n a rest r in
    (q ∙ w.1, of-parsed (λ a _. test a ≡ true) w.1 w.0))

-- a value that is read and passes the test stands
pub unless_back : {A : Type 0} (n : ℕ) (test : A → Bool) (p : Parsed A) (a : A) (rest : List ℕ) → p ≡ parsed a rest
    → test a ≡ true → refused_unless n test p ≡ parsed a rest
unless_back n test p a rest e h = rw (e, h)

-- ── What is refused ──────────────────────────────────────────────────────────────────────────────

-- of two parts the first is refused, or it is read and the second is refused
pub refused_part : {A B C : Type 0} (p : Parsed A) {next : A → List ℕ → Parsed B} {n : ℕ} → and_read p next ≡ refused n
    → (p ≡ refused n → C) → ((a : A) (rest : List ℕ) → p ≡ parsed a rest → next a rest ≡ refused n → C) → C
refused_part (refused m) {n = n} e first second = let same : m ≡ n = cc in first (ap refused same)
refused_part (parsed a rest) e first second = second a rest refl e

-- the refusal of the first part stands
pub refused-first : {A B : Type 0} {p : Parsed A} {n : ℕ} (next : A → List ℕ → Parsed B) → p ≡ refused n
    → and_read p next ≡ refused n
refused-first next e = ap (λ p. and_read p next) e

-- what is made of a value is refused where the value is
pub made_iff : {A B : Type 0} (p : Parsed A) (make : A → B) (n : ℕ)
    → (and_read p (λ a rest. parsed (make a) rest) ≡ refused n) ↔ (p ≡ refused n)
made_iff p make n =
    (λ e. refused_part p e (λ q. q) (λ a rest _ q. not-refused q), refused-first (λ a rest. parsed (make a) rest))

-- a value that is judged by a test is refused before, or fails the test
pub refused_test : {A C : Type 0} (k : ℕ) (test : A → Bool) (p : Parsed A) {n : ℕ} → refused_unless k test p ≡ refused n
    → (p ≡ refused n → C) → ((a : A) (rest : List ℕ) → p ≡ parsed a rest → test a ≡ false → n ≡ k → C) → C
refused_test {A} {C} k test p {n} e before failed = refused_part p e before (λ a rest q. judged a rest q (test a) refl)
  where
    judged : (a : A) (rest : List ℕ) → p ≡ parsed a rest → (b : Bool) → test a ≡ b
        → cond b (parsed a rest) (refused k) ≡ refused n → C
    judged a rest q true t e = not-refused e
    judged a rest q false t e = failed a rest q t (cc)

-- a value that fails the test is refused
pub failed_test : {A : Type 0} {k n : ℕ} (test : A → Bool) {p : Parsed A} {a : A} {rest : List ℕ} → p ≡ parsed a rest
    → test a ≡ false → n ≡ k → refused_unless k test p ≡ refused n
failed_test {k =
    k} test {a = a} {rest = rest} e t o = ap (λ p. refused_unless k test p) e
    ∙ ap (λ (b : Bool). cond b (parsed a rest) (refused k)) t ∙ ap refused (sym o)
