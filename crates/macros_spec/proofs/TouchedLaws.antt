-- What the two sets of a sequence tell: each position's tests are document 02's statements, and two sets that tell the
-- same of a macro are the same.
-- Assumes nothing.
use mathlib.Core.Path.{◌≡◌, refl, sym, ap, ◌∙◌}
use mathlib.Core.Logic.{◌⊎◌, inl, inr, ⊎_elim, ◌↔◌, ◌≢◌}
use mathlib.Core.Bool.{Bool, true, false, not, ◌&&◌, ◌||◌}
use mathlib.Core.Option.{Option, some, none}
use mathlib.Core.List.{List}
use Prim.Native.Nat.{ℕ, ◌%◌, ◌≤◌, ◌<◌}
use native.Mathlib.Omega.{arith}
use lib.Dec.{ltb, eqb}
use lib.ListN.{get_or}
use borrow.Author.Tests.{lt-ltb}
use Rattle.theory_spec.specs.Sets.{has, set_of}
use Rattle.theory_spec.proofs.ListLaws.{passes?, not-both, never_true, or_split, or_left, or_right, same_test}
use Rattle.theory_spec.proofs.TestLaws.{below?, ltb_iff, eqb_iff, not_iff, and_iff, any-below_iff}
use Rattle.theory_spec.proofs.SetLaws.{set_of-below, has-set_of, set_of_lem, sets_equal}
use Rattle.model_spec.specs.States.{is_constant, width, many_valued, ManyValued}
use Rattle.model_spec.specs.declared.RuleSet.{RuleSet}
use Rattle.macros_spec.specs.Composition.{Lines}
use Rattle.macros_spec.specs.Touched.{names, named_elsewhere, read_at, written_at, touched_by}
use Rattle.macros_spec.specs.Touched.{Constant, Names, NamesAnother, NamedElsewhere, Reads}
use Rattle.macros_spec.specs.Touched.{touched_of, TouchMeaning}
use Rattle.macros_spec.specs.How.Touching.{wide_positions, touched_within}
use Rattle.macros_spec.specs.declared.Macro.{Macro}
use Rattle.macros_spec.specs.declared.Touched.{Touched}

-- ── One position ─────────────────────────────────────────────────────────────────────────────────

names_iff : (e i : ℕ) → (names e i ≡ true) ↔ Names e i
names_iff e i =
    and_iff (not (is_constant e)) (eqb (e % 16) i) (variable_iff e) (eqb_iff (e % 16) i)
  where
    variable_iff : (e : ℕ) → (not (is_constant e) ≡ true) ↔ (16 ≤ e)
    variable_iff e =
        let w = not_iff (ltb e 16) (ltb_iff e 16) in
        (λ p. ⊎_elim (λ c. absurd (w.0 p c)) (λ h. h) (below? e 16), λ h. w.1 (λ c. omega arith))

named_iff : (line : List ℕ) (i : ℕ) → (named_elsewhere line i ≡ true) ↔ NamedElsewhere line i
unfolding named_elsewhere
named_iff line i =
    let w = any-below_iff (λ k. not (eqb k i) && names (get_or line k 0) i) (λ k. (k ≢ i) × Names (get_or line k 0) i)
    (λ k. and_iff (not (eqb k i)) (names (get_or line k 0) i) (not_iff (eqb k i) (eqb_iff k i))
    (names_iff (get_or line k 0) i)) 16 in (
      λ e. let v = w.0 e in (v.0, v.1, v.2.0, v.2.1),
      λ v. w.1 (v.0, v.1, (v.2, v.3)),
    )

-- an entry that is not the position's own variable is a constant or names another
not_own_iff : (e i : ℕ) → (not (names e i) ≡ true) ↔ (Constant e ⊎ NamesAnother e i)
not_own_iff e i =
    let w = not_iff (names e i) (names_iff e i) in (
      λ p. ⊎_elim inl (λ h. inr (h, λ q. w.0 p (h, q))) (below? e 16),
      λ o. w.1 (λ n. ⊎_elim (λ (c : Constant e). omega arith) (λ (a : NamesAnother e i). a.1 n.1) o),
    )

either_iff : (a b : Bool) {P Q : Type 0} → (a ≡ true) ↔ P → (b ≡ true) ↔ Q → ((a || b) ≡ true) ↔ (P ⊎ Q)
either_iff a b p q = (
  λ e. ⊎_elim (λ l. inl (p.0 l)) (λ r. inr (q.0 r)) (or_split a b e),
  λ o. ⊎_elim (λ l. or_left b (p.1 l)) (λ r. or_right a (q.1 r)) o,
)

module _ (m : Lines) (i : ℕ) where
  read_iff : (read_at m i ≡ true)
      ↔ ((Constant (get_or m.condition i 0) ⊎ NamesAnother (get_or m.condition i 0) i)
      ⊎ (NamedElsewhere m.condition i ⊎ NamedElsewhere m.effect i))
  unfolding read_at
  read_iff =
      either_iff (not (names (get_or m.condition i 0) i))
      (named_elsewhere m.condition i || named_elsewhere m.effect i)
      (not_own_iff (get_or m.condition i 0) i)
      (either_iff (named_elsewhere m.condition i) (named_elsewhere m.effect i)
      (named_iff m.condition i) (named_iff m.effect i))

  written_iff : (written_at m i ≡ true) ↔ (get_or m.effect i 0 ≢ get_or m.condition i 0)
  unfolding written_at
  written_iff =
      let w = not_iff (eqb (get_or m.condition i 0) (get_or m.effect i 0))
      (eqb_iff (get_or m.condition i 0) (get_or m.effect i 0)) in
      (λ e p. w.0 e (sym p), λ h. w.1 (λ p. h (sym p)))

-- position i + 1 of a set has two values or more
abbrev many : RuleSet → ℕ → Bool
many set = many_valued set.positions set.sizes

many_iff : (set : RuleSet) (i : ℕ) → (many set i ≡ true) ↔ ManyValued set.positions set.sizes i
many_iff set i = ltb_iff 1 (width set.positions set.sizes i)

-- ── The two sets ─────────────────────────────────────────────────────────────────────────────────

-- a member of a set of places is a place that passes the test
member_iff : (p : ℕ → Bool) {P : Type 0} (i : ℕ) → i < 16 → (p i ≡ true) ↔ P → (has (set_of p 16) i ≡ true) ↔ P
member_iff p i h w =
    let e : has (set_of p 16) i ≡ p i = has-set_of p 16 i ∙ ap (λ b. b && p i) (lt-ltb i 16 h) in
    (λ t. w.0 (sym e ∙ t), λ t. e ∙ w.1 t)

-- the sets of two vectors tell of a macro with these vectors what it reads and writes
pub touched_meaning : (set : RuleSet) (m : Lines) (cost : ℕ)
    → TouchMeaning set (record { condition = m.condition; effect = m.effect; cost = cost }) (touched_by set m)
unfolding touched_by
touched_meaning set m cost = record {
  reads = λ i h. member_iff (λ k. many set k && read_at m k) i h (reads_iff i);
  writes = λ i h. member_iff (λ k. many set k && written_at m k) i h
      (and_iff (many set i) (written_at m i) (many_iff set i) (written_iff m i));
  sixteen = (
    set_of-below (λ k. many set k && read_at m k) 16,
    set_of-below (λ k. many set k && written_at m k) 16,
  );
}
  where
    reads_iff : (i : ℕ) → ((many set i && read_at m i) ≡ true)
        ↔ Reads set (record { condition = m.condition; effect = m.effect; cost = cost }) i
    reads_iff i =
        let w = and_iff (many set i) (read_at m i) (many_iff set i) (read_iff m i) in (
          λ e. let v = w.0 e in (v.0, ⊎_elim (λ o. ⊎_elim inl (λ a. inr (inl a)) o) (λ o. inr (inr o)) v.1),
          λ v. w.1 (v.0, ⊎_elim (λ c. inl (inl c)) (λ o. ⊎_elim (λ a. inl (inr a)) inr o) v.1),
        )

-- a position is read or not
pub reads? : (set : RuleSet) (m : Macro) (i : ℕ) → i < 16 → Reads set m i ⊎ (Reads set m i → ⊥)
reads? set m i h =
    let lines : Lines = record { condition = m.condition; effect = m.effect } in
    let tells = (touched_meaning set lines m.cost).reads i h in
    ⊎_elim (λ e. inl (tells.0 e)) (λ e. inr (λ r. not-both (tells.1 r) e))
    (passes? (has (touched_by set lines).reads i))

-- a position with a single value is neither read nor written
pub single-untouched : (set : RuleSet) (m : Macro) (t : Touched) → TouchMeaning set m t → (i : ℕ) → i < 16
    → width set.positions set.sizes i ≡ 1 → (has t.reads i ≡ false) × (has t.writes i ≡ false)
single-untouched set m t v i h one = (
  never_true (has t.reads i) (λ e. omega (arith, ((v.reads i h).0 e).0, one)),
  never_true (has t.writes i) (λ e. omega (arith, ((v.writes i h).0 e).0, one)),
)

-- two sets that tell the same are the same
pub touched_unique : (set : RuleSet) (m : Macro) (t u : Touched) → TouchMeaning set m t → TouchMeaning set m u → t ≡ u
touched_unique set m t u v w =
    let reads = sets_equal 16 t.reads u.reads v.sixteen.0 w.sixteen.0
    (λ k h. agree (v.reads k h) (w.reads k h)) in
    let writes = sets_equal 16 t.writes u.writes v.sixteen.1 w.sixteen.1
    (λ k h. agree (v.writes k h) (w.writes k h)) in
    λ i. record { reads = reads i; writes = writes i }
  where
    agree : {a b : Bool} {P : Type 0} → (a ≡ true) ↔ P → (b ≡ true) ↔ P → a ≡ b
    agree {a} {b} p q = same_test a b (λ e. q.1 (p.0 e)) (λ e. p.1 (q.0 e))

-- ── As the code makes them ───────────────────────────────────────────────────────────────────────

-- tests that agree on the places make the same set
same_set : (p r : ℕ → Bool) → ((i : ℕ) → i < 16 → p i ≡ r i) → set_of p 16 ≡ set_of r 16
same_set p r e =
    set_of_lem r 16 (set_of p 16) (set_of-below p 16)
    (λ k h. has-set_of p 16 k ∙ ap (λ b. b && p k) (lt-ltb k 16 h) ∙ e k h)

-- among the positions with two values or more they are the sets of the sequence
pub touched-within : (set : RuleSet) (o : Option Lines) → touched_within (wide_positions set) o ≡ touched_of set o
unfolding touched_within wide_positions touched_by
touched-within set none = refl
touched-within set (some m) =
    let wide : (i : ℕ) → i < 16 → has (set_of (many set) 16) i ≡ many set i =
    λ i h. has-set_of (many set) 16 i ∙ ap (λ b. b && many set i) (lt-ltb i 16 h) in
    let reads = same_set _ (λ i. many set i && read_at m i) (λ i h. ap (λ b. b && read_at m i) (wide i h)) in
    let writes = same_set _ (λ i. many set i && written_at m i) (λ i h. ap (λ b. b && written_at m i) (wide i h)) in
    λ j. record { reads = reads j; writes = writes j }
