-- The turns of composition's loops: over an array that is filled, over the places of two vectors that are unified, and
-- over the rules of a sequence.
-- Where an invariant says of what is left at i that it decides the whole, the whole is X.
-- Assumes nothing.
use mathlib.Core.Path.{◌≡◌, refl, sym, ap, ◌∙◌}
use mathlib.Core.Bool.{true, false, not}
use mathlib.Core.Option.{Option, some, none}
use mathlib.Core.List.{List, [], ◌∷◌, ◌++◌, map, append-nil}
use Prim.Native.Nat.{ℕ, zero, suc, ◌+◌, ◌-◌, ◌%◌, ◌≤◌, ◌<◌, min, max}
use native.Mathlib.Numerals.{add-one}
use native.Mathlib.Omega.{arith}
use lib.Dec.{eqb}
use lib.ListN.{length, get_or, take, drop, set, replicate, take-append-drop, drop_of_length-le}
use lib.Seq.{take-suc-set, take_all, append_snoc, take-suc, drop-cons, drop-drop, drop-set-lt}
use borrow.Author.Tests.{eqb-true, not-false}
use Rattle.theory_spec.specs.Lists.{numbers_from}
use Rattle.theory_spec.specs.Sequences.{Sequence}
use Rattle.theory_spec.proofs.ListLaws.{never_true}
use Rattle.model_spec.specs.States.{value_of, values_of}
use Rattle.model_spec.proofs.LoopLaws.{left_more}
use Rattle.model_spec.proofs.MoveLaws.{rule_among}
use Rattle.model_spec.specs.Rules.{rule_at}
use Rattle.model_spec.specs.declared.Rule.{Rule}
use Rattle.model_spec.specs.declared.RuleSet.{RuleSet}
use Rattle.macros_spec.specs.Composition.{Lines, replaced, clash, equated, unified, followed, extended, composed}
use Rattle.macros_spec.specs.Composition.{as_vectors, lines_of}
use Rattle.macros_spec.specs.declared.Vectors.{Vectors}
use Rattle.macros_spec.proofs.EquatedLaws.{clash_iff, equated-same}
use Rattle.macros_spec.proofs.VectorLaws.{value-place}
use Rattle.macros_spec.proofs.ExtensionLaws.{lines_vectors, composed-extended}

-- ── An array that is filled: its first i places, and what is left to store, are the whole ────────

module _ (i : ℕ) (l left X : List ℕ) (inv : take i l ++ left ≡ X) where
  store_go : (v : ℕ) (later : List ℕ) → left ≡ v ∷ later → i < length l → take (i + 1) (set l i v) ++ later ≡ X
  store_go v later e hl =
      rw (add-one i, take-suc-set l i v hl) (append_snoc (take i l) v later ∙ ap (λ r. take i l ++ r) (sym e) ∙ inv)

all-zeros : (f : ℕ → ℕ) (i m : ℕ) → ((k : ℕ) → i ≤ k → k < i + m → f k ≡ 0) → map f (numbers_from i m) ≡ replicate m 0
all-zeros f i zero h = refl
all-zeros f i (suc m) h =
    cc (h i (omega arith) (omega arith), all-zeros f (suc i) m (λ k hk hm. h k (omega arith) (omega arith)))

-- each place is to hold f of its number
module _ (f : ℕ → ℕ) (i n : ℕ) (l X : List ℕ) (inv : take i l ++ map f (numbers_from i (n - i)) ≡ X) where
  pub fill_go : (v : ℕ) → v ≡ f i → i < n → i < length l → take (i + 1) (set l i v)
      ++ map f (numbers_from (i + 1) (n - (i + 1))) ≡ X
  fill_go v e h hl = store_go i l _ X inv v _ (rw (e, left_more i n h)) hl

  -- where the other places hold 0 already, and are to hold it
  pub fill-zeros : i ≤ n → ((k : ℕ) → i ≤ k → k < n → f k ≡ 0) → drop i l ≡ replicate (n - i) 0 → l ≡ X
  fill-zeros h hz e =
      let zeros = all-zeros f i (n - i) (λ k hk hn. hz k hk (omega arith)) in
      sym (take-append-drop i l) ∙ ap (λ r. take i l ++ r) (e ∙ sym zeros) ∙ inv

-- a store leaves the places behind it as they are
pub zeros-behind : (i n : ℕ) (l : List ℕ) (v : ℕ) → drop i l ≡ replicate (n - i) 0 → i < n
    → drop (i + 1) (set l i v) ≡ replicate (n - (i + 1)) 0
zeros-behind i n l v e h =
    let left : n - i ≡ suc (n - (i + 1)) = omega arith in
    drop-set-lt (i + 1) l i v (omega arith) ∙ sym (drop-drop 1 i l) ∙ ap (drop 1) e ∙ rw left

-- each place is to hold what the entry there of a list stands for
module _ (entries s : List ℕ) (i : ℕ) (l X : List ℕ) (inv : take i l ++ values_of (drop i entries) s ≡ X) where
  pub follow_go : (v : ℕ) → v ≡ value_of (get_or entries i 0) s → i < length entries → i < length l
      → take (i + 1) (set l i v) ++ values_of (drop (i + 1) entries) s ≡ X
  unfolding values_of
  follow_go v e h hl = store_go i l _ X inv v _ (rw (e, drop-cons entries i 0 h, add-one i)) hl

  pub follow-end : length entries ≤ i → length l ≤ i → l ≡ X
  unfolding values_of
  follow-end h hl =
      sym (take_all i l hl) ∙ sym (append-nil (take i l)) ∙ (rw (drop_of_length-le entries {i = i} h) at inv)

-- ── Two vectors that are unified, place by place ─────────────────────────────────────────────────

clash_constants : (x y : ℕ) → max x y < 16 → (x ≡ y → ⊥) → clash x y ≡ true
clash_constants x y h ne = (clash_iff x y).1 (omega arith, (omega arith, ne))

clash-variable : (x y : ℕ) → 16 ≤ max x y → clash x y ≡ false
clash-variable x y h = never_true (clash x y) (λ e. let w = (clash_iff x y).0 e in omega arith)

clash-same : (x : ℕ) → clash x x ≡ false
clash-same x = never_true (clash x x) (λ e. ((clash_iff x x).0 e).1.1 refl)

module _ (asked : List ℕ) (i : ℕ) (m : Lines) (X : Option Lines) (inv : unified (drop i asked) i m ≡ X) where
  pub unify-end : length asked ≤ i → some m ≡ X
  unfolding unified
  unify-end h = rw (drop_of_length-le asked {i = i} h) at inv

  module _ (h : i < length asked) (have want : ℕ) (eh : have ≡ get_or m.effect i 0)
      (ew : want ≡ value_of (get_or asked i 0) m.effect) where
    -- where the two agree
    pub unify-same : have ≡ want → unified (drop (i + 1) asked) (i + 1) m ≡ X
    unfolding unified
    unify-same e =
        rw (add-one i) (sym (rw (
          drop-cons asked i 0 h,
          ← eh,
          ← ew,
          ← e,
          clash-same have,
          equated-same have m.condition,
          equated-same have m.effect,
        )) ∙ inv)

    -- where two constants clash
    pub unify-clash : (from : ℕ) → from ≡ max have want → from < 16 → (have ≡ want → ⊥) → none ≡ X
    unfolding unified
    unify-clash from ef hf ne =
        sym (rw (drop-cons asked i 0 h, ← eh, ← ew, clash_constants have want (omega arith) ne)) ∙ inv

    -- where the larger is replaced by the smaller
    pub unify_go : (from to : ℕ) (condition effect : List ℕ) → from ≡ max have want → to ≡ min have want → 16 ≤ from
        → condition ≡ replaced from to m.condition → effect ≡ replaced from to m.effect
        → unified (drop (i + 1) asked) (i + 1) (record { condition = condition; effect = effect }) ≡ X
    unfolding unified equated
    unify_go from to condition effect ef et hf ec ee =
        rw (add-one i, ec, ee, ef, et) (sym (rw (
          drop-cons asked i 0 h,
          ← eh,
          ← ew,
          clash-variable have want (omega arith),
        )) ∙ inv)

  -- where the condition asks nothing: its entry is the variable of the place itself
  pub unify_own : i < length asked → i < 16 → not (eqb (get_or asked i 0) (16 + i)) ≡ false
      → unified (drop (i + 1) asked) (i + 1) m ≡ X
  unify_own h hi own =
      let entry = eqb-true (get_or asked i 0) (16 + i) (not-false _ own) in
      let place : (16 + i) % 16 ≡ i = omega arith in
      let want : value_of (get_or asked i 0) m.effect ≡ get_or m.effect i 0 =
      ap (λ e. value_of e m.effect) entry ∙ value-place (16 + i) m.effect (omega arith)
      ∙ ap (λ k. get_or m.effect k 0) place in
      unify-same h _ _ refl refl (sym want)

-- ── The vectors as the code keeps them ───────────────────────────────────────────────────────────

module _ (v : Vectors) (m : Option Lines) (e : v ≡ as_vectors m) where
  lines_of_lem : lines_of v ≡ m
  lines_of_lem = ap lines_of e ∙ lines_vectors m

  pub lines-denied : v.admitted ≡ false → m ≡ none
  lines-denied h = sym lines_of_lem ∙ rw h

  pub lines-admitted : v.admitted ≡ true → m ≡ some (record { condition = v.condition; effect = v.effect })
  lines-admitted h = sym lines_of_lem ∙ rw h

-- ── A rule after a sequence ──────────────────────────────────────────────────────────────────────

module _ (rule : Rule) (v : Vectors) where
  pub extend-denied : v.admitted ≡ false → extended rule (lines_of v) ≡ none
  unfolding extended
  extend-denied h = rw h

  -- the sequence's vectors, unified with the rule's condition
  abbrev unification : Option Lines
  unification = unified rule.condition 0 (record { condition = v.condition; effect = v.effect })

  module _ (admitted : v.admitted ≡ true) (met : Vectors) (e : met ≡ as_vectors unification) where
    pub extend-clash : met.admitted ≡ false → extended rule (lines_of v) ≡ none
    unfolding extended followed
    extend-clash h = rw (admitted, lines-denied met unification e h)

    pub extend_met : (reached : List ℕ) → met.admitted ≡ true → reached ≡ values_of rule.effect met.effect
        → extended rule (lines_of v) ≡ some (record { condition = met.condition; effect = reached })
    unfolding extended followed
    extend_met reached h er = rw (admitted, lines-admitted met unification e h, er)

-- ── The rules of a sequence, one after another ───────────────────────────────────────────────────

-- one number more, where the code limits it by 31
pub compose_more : (set : RuleSet) (q : Sequence) (v : Vectors) (number : ℕ) (next : Vectors)
    → v ≡ as_vectors (composed set q) → number ≤ 31
    → next ≡ as_vectors (extended (rule_at set (min number 31)) (lines_of v))
    → next ≡ as_vectors (composed set (q ++ number ∷ []))
compose_more set q v number next inv h e =
    rw (composed-extended set q number) (rw (lines_of_lem v (composed set q) inv, rule_among set number h) at e)

module _ (set : RuleSet) (moves : Sequence) (i : ℕ) (v : Vectors)
    (inv : v ≡ as_vectors (composed set (take i moves))) where
  pub compose_go : (rule : Rule) (next : Vectors) → rule ≡ rule_at set (get_or moves i 0)
      → next ≡ as_vectors (extended rule (lines_of v)) → i < length moves
      → next ≡ as_vectors (composed set (take (i + 1) moves))
  compose_go rule next er en h =
      rw (add-one i, take-suc moves i 0 h, composed-extended set (take i moves) (get_or moves i 0))
      (rw (lines_of_lem v (composed set (take i moves)) inv, er) at en)

  pub compose-end : length moves ≤ i → v ≡ as_vectors (composed set moves)
  compose-end h = inv ∙ ap (λ (q : Sequence). as_vectors (composed set q)) (take_all i moves h)
