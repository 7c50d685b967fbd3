-- Laws of the search for a witness: what `find_behind` finds in joined lists and behind one more rule, and the turns of
-- the loops over rules and lengths.
-- Assumes nothing.
use mathlib.Core.Path.{◌≡◌, refl, sym, ap, ◌∙◌, subst, fun_ext}
use mathlib.Core.Logic.{⊎_elim}
use mathlib.Core.Bool.{true≢false, Bool, true, false, cond, ◌&&◌, and-false, and_assoc}
use mathlib.Core.Option as Math
use mathlib.Core.Option.{some}
use mathlib.Core.List.{List, [], ◌∷◌, ◌++◌}
use Prim.Native.Nat.{ℕ, zero, suc, ◌+◌, ◌*◌, ◌-◌, ◌≤◌, ◌<◌}
use native.Mathlib.Omega.{arith}
use lib.Dec.{leb}
use lib.ListN.{get_or}
use borrow.Author.Tests.{leb-true, leb-false, le-leb, lt-leb}
use Rattle.std.specs.Option.{option_or}
use Rattle.std.specs.Prelude.{Option, None, Some, unwrap_or, is_some}
use Rattle.theory_spec.specs.Lists.{only_if, flat, numbers_from, same}
use Rattle.theory_spec.specs.Sequences.{Sequence, and_then, with_first, level, sequences}
use Rattle.theory_spec.specs.How.Indices.{index_from}
use Rattle.theory_spec.proofs.ListLaws.{same_test}
use Rattle.theory_spec.proofs.TestLaws.{equal?}
use Rattle.model_spec.specs.States.{State, applicable, successor}
use Rattle.model_spec.specs.Rules.{no_rule, rule_at, step_of, rule_cost, run_in, sequence_cost}
use Rattle.model_spec.specs.declared.Rule.{Rule}
use Rattle.model_spec.specs.declared.RuleSet.{RuleSet}
use Rattle.macros_spec.specs.Composition.{Lines}
use Rattle.macros_spec.specs.Redundancy.{ends_in, covers}
use Rattle.model_spec.proofs.LoopLaws.{rules_left}
use Rattle.tables_spec.specs.Table.{kept}
use Rattle.tables_laws.specs.How.Witnesses.{first_behind, serves}
use Rattle.tables_laws.specs.How.Searches.{find_behind, find_witness}

-- ── What is found, or else ───────────────────────────────────────────────────────────────────────

first-taken : (o p : Option ℕ) → is_some o ≡ true → option_or o p ≡ o
first-taken None p e = absurd (true≢false (sym e))
first-taken (Some i) p e = refl

second-tried : (o p : Option ℕ) → is_some o ≡ false → option_or o p ≡ p
second-tried None p e = refl
second-tried (Some i) p e = absurd (true≢false e)

nothing : (o : Option ℕ) → is_some o ≡ false → o ≡ None
nothing None e = refl
nothing (Some i) e = absurd (true≢false e)

-- ── The first in joined lists ────────────────────────────────────────────────────────────────────

module _ (m i : ℕ) (test : Sequence → Bool) where
  -- it is the first list's, where that has one, else the second's
  find-joined : (l l' : List Sequence)
      → find_behind m i test (l ++ l') ≡ option_or (find_behind m i test l) (find_behind m i test l')
  find-joined [] l' = refl
  find-joined (q ∷ l) l' = go (test q) (find-joined l l')
    where
      go : (b : Bool)
          → find_behind m i test (l ++ l') ≡ option_or (find_behind m i test l) (find_behind m i test l')
          → cond b (Some (index_from m i q)) (find_behind m i test (l ++ l'))
          ≡ option_or (cond b (Some (index_from m i q)) (find_behind m i test l)) (find_behind m i test l')
      go true e = refl
      go false e = e

  -- of sequences with the same first rule none passes
  find_skips : (r : ℕ) (l l' : List Sequence) → ((q : Sequence) → test (r ∷ q) ≡ false)
      → find_behind m i test (with_first l r ++ l') ≡ find_behind m i test l'
  find_skips r [] l' h = refl
  find_skips r (q ∷ l) l' h = rw (h q) (find_skips r l l' h)

  -- sequences with the same first rule: the search goes on behind it
  find-onward : (r : ℕ) (l : List Sequence)
      → find_behind m i test (with_first l r) ≡ find_behind m (i * m + r) (λ q. test (r ∷ q)) l
  find-onward r [] = refl
  find-onward r (q ∷ l) = ap (cond (test (r ∷ q)) (Some (index_from m (i * m + r) q))) (find-onward r l)

  -- by the index, or 65535 where there is none
  pub found-index : (l : List Sequence) → unwrap_or (find_behind m i test l) kept ≡ first_behind m i test l
  found-index [] = refl
  found-index (q ∷ l) = go (test q) (found-index l)
    where
      go : (b : Bool) → unwrap_or (find_behind m i test l) kept ≡ first_behind m i test l
          → unwrap_or (cond b (Some (index_from m i q)) (find_behind m i test l)) kept
          ≡ cond b (index_from m i q) (first_behind m i test l)
      go true e = refl
      go false e = e

-- ── Sets that are searched ───────────────────────────────────────────────────────────────────────

module _ (set : RuleSet) (i : ℕ) (b : Math.Option Lines) (cost : ℕ) (among : List Sequence) where
  pub witness-searched : set.count ≤ 31
      → find_witness set i b cost among ≡ find_behind set.count i (serves set b cost) among
  unfolding find_witness
  witness-searched few = rw (le-leb set.count 31 few)

  pub witness_unsearched : 31 < set.count → find_witness set i b cost among ≡ None
  unfolding find_witness
  witness_unsearched many = rw (lt-leb set.count 31 many)

-- ── One more rule in front ───────────────────────────────────────────────────────────────────────

-- what is paid first is no longer left
leb-sub : (a b n : ℕ) → a ≤ n → leb (a + b) n ≡ leb b (n - a)
leb-sub a b n h =
    same_test (leb (a + b) n) (leb b (n - a)) (λ e. let l = leb-true (a + b) n e in le-leb b (n - a) (omega arith))
    (λ e. let l = leb-true b (n - a) e in le-leb (a + b) n (omega arith))

-- a rule of cost a has to run for at most `left`, and the others, of cost b, to lead on from where it leads
paid : (a b left : ℕ) (runs : Bool) (t : State) (f : State → Math.Option State) (target : List ℕ)
    → (leb (a + b) left && ends_in (and_then (only_if runs t) f) target)
    ≡ ((leb a left && runs) && (leb b (left - a) && ends_in (f t) target))
paid a b left false t f target = rw (and-false (leb (a + b) left), and-false (leb a left))
paid a b left true t f target = go (leb a left) refl
  where
    go : (c : Bool) → leb a left ≡ c → (leb (a + b) left && ends_in (f t) target)
        ≡ ((c && true) && (leb b (left - a) && ends_in (f t) target))
    go true e = ap (λ c. c && ends_in (f t) target) (leb-sub a b left (leb-true a left e))
    go false e = ap (λ c. c && ends_in (f t) target) (let l = leb-false a left e in lt-leb (a + b) left (omega arith))

-- the vectors of a search from the entries to the target
abbrev aim : List ℕ → List ℕ → Math.Option Lines
aim entries target = some (record { condition = entries; effect = target })

-- a sequence leads to the target where its first rule runs and the others lead on from there
serves_next : (set : RuleSet) (entries : List ℕ) (left : ℕ) (target : List ℕ) (rule : Rule) (r : ℕ)
    → rule ≡ rule_at set r → (q : Sequence)
    → serves set (aim entries target) left (r ∷ q)
    ≡ ((leb rule.cost left && applicable rule.condition entries)
    && serves set (aim (successor rule.effect entries) target) (left - rule.cost) q)
unfolding serves covers run_in step_of sequence_cost rule_cost
serves_next set entries left target rule r is q =
    rw is (paid (rule_at set r).cost (sequence_cost set q) left (applicable (rule_at set r).condition entries)
    (successor (rule_at set r).effect entries) (run_in set q) target)

-- the empty sequence leads to the target where the entries are the target already
pub serves-last : (set : RuleSet) (entries : List ℕ) (left : ℕ) (target : List ℕ)
    → serves set (aim entries target) left [] ≡ same entries target
unfolding serves covers run_in sequence_cost
serves-last set entries left target = rw (le-leb 0 left (omega arith))

-- the rule at place k, whose number is k + 1
abbrev placed : RuleSet → ℕ → Rule
placed set k = get_or set.rules k no_rule

placed-number : (set : RuleSet) (k : ℕ) → placed set k ≡ rule_at set (k + 1)
unfolding rule_at
placed-number set k = let e : k ≡ k + 1 - 1 = omega arith in ap (λ j. get_or set.rules j no_rule) e

-- ── The loop over the rules of `with_more` ───────────────────────────────────────────────────────

module _ (set : RuleSet) (entries target : List ℕ) (left index n : ℕ) where
  abbrev m : ℕ
  m = set.count

  abbrev test : Sequence → Bool
  test = serves set (aim entries target) left

  -- the first witness, of one rule more than n, that begins with the rule at place k or a later one
  pub from_rule : ℕ → Option ℕ
  from_rule k = find_behind m index test (flat (with_first (level m n)) (numbers_from (k + 1) (m - k)))

  -- the rule at place k runs on the entries, for at most `left`
  abbrev pub runs_here : ℕ → Bool
  runs_here k = leb (placed set k).cost left && applicable (placed set k).condition entries

  -- a sequence leads on, from where the rule at place k leads
  abbrev onward : ℕ → Sequence → Bool
  onward k = serves set (aim (successor (placed set k).effect entries) target) (left - (placed set k).cost)

  -- the first witness that begins with the rule at place k, where that runs
  abbrev pub through_rule : ℕ → Option ℕ
  through_rule k = find_behind m (index * m + (k + 1)) (onward k) (level m n)

  -- before the loop, and before that of `with_one_more`
  pub from_first : (more : ℕ) → more ≡ suc n
      → from_rule 0 ≡ find_behind m index (serves set (some (record { condition = entries; effect = target })) left)
      (level m more)
  unfolding from_rule
  from_first more e = let f : m - 0 ≡ m = omega arith in rw (e, f)

  -- after the loop, and after that of `with_one_more`
  pub from_end : (k : ℕ) → m ≤ k → from_rule k ≡ None
  unfolding from_rule
  from_end k h = let e : m - k ≡ 0 = omega arith in rw e

  module _ (k : ℕ) (h : k < m) where
    -- the sequences that begin with the rule at place k, and then those that begin with a later one
    parted : from_rule k ≡ find_behind m index test
        (with_first (level m n) (k + 1) ++ flat (with_first (level m n)) (numbers_from (k + 1 + 1) (m - (k + 1))))
    unfolding from_rule
    parted = ap (λ l. find_behind m index test (flat (with_first (level m n)) l)) (rules_left k m h)

    -- what a sequence that begins with the rule at place k leads to
    begun : {b : Bool} → runs_here k ≡ b → (q : Sequence) → test ((k + 1) ∷ q) ≡ (b && onward k q)
    begun t q =
        serves_next set entries left target (placed set k) (k + 1) (placed-number set k) q ∙ ap (λ b. b && onward k q) t

    -- a turn whose rule does not run
    pub from_next : runs_here k ≡ false → from_rule (k + 1) ≡ from_rule k
    unfolding from_rule
    from_next t = sym (parted ∙ find_skips m index test (k + 1) (level m n) _ (begun t))

    -- a turn whose rule runs: what is found behind it, else what is found later
    through : runs_here k ≡ true → from_rule k ≡ option_or (through_rule k) (from_rule (k + 1))
    unfolding from_rule
    through t =
        parted ∙ find-joined m index test (with_first (level m n) (k + 1)) _
        ∙ ap (λ o. option_or o (from_rule (k + 1)))
        (find-onward m index test (k + 1) (level m n)
        ∙ ap (λ p. find_behind m (index * m + (k + 1)) p (level m n)) (fun_ext (begun t)))

    module _ (found : Option ℕ) (is : found ≡ through_rule k) (t : runs_here k ≡ true) where
      begun-found : from_rule k ≡ option_or found (from_rule (k + 1))
      begun-found = through t ∙ ap (λ o. option_or o (from_rule (k + 1))) (sym is)

      -- it finds nothing behind it
      pub from_through : is_some found ≡ false → from_rule (k + 1) ≡ from_rule k
      from_through e = sym (begun-found ∙ second-tried found (from_rule (k + 1)) e)

      -- it finds a witness
      pub from_found : is_some found ≡ true → found ≡ from_rule k
      from_found e = sym (begun-found ∙ first-taken found (from_rule (k + 1)) e)

-- ── The loop over the last rules of `with_one_more` ──────────────────────────────────────────────

module _ (set : RuleSet) (entries target : List ℕ) (left index k : ℕ) (h : k < set.count) (finishes : Bool)
    (is : finishes ≡ (leb (placed set k).cost left
    && (applicable (placed set k).condition entries
    && same (successor (placed set k).effect entries) target))) where
  -- whether the rule at place k alone leads to the target
  tested : {b : Bool} → finishes ≡ b → serves set (aim entries target) left ((k + 1) ∷ []) ≡ b
  tested t =
      begun set entries target left index 0 k h refl []
      ∙ ap (λ b. runs_here set entries target left index 0 k && b)
      (serves-last set (successor (placed set k).effect entries) (left - (placed set k).cost) target)
      ∙ and_assoc (leb (placed set k).cost left) (applicable (placed set k).condition entries)
      (same (successor (placed set k).effect entries) target)
      ∙ sym is
      ∙ t

  -- a turn whose rule does not
  pub last_next : finishes ≡ false → from_rule set entries target left index 0 (k + 1)
      ≡ from_rule set entries target left index 0 k
  unfolding from_rule
  last_next t = sym (parted set entries target left index 0 k h ∙ rw (tested t))

  -- a turn whose rule does
  pub last_found : finishes ≡ true → (i : ℕ) → i ≡ index * set.count + (k + 1)
      → Some i ≡ from_rule set entries target left index 0 k
  last_found t i e = rw e (sym (parted set entries target left index 0 k h ∙ rw (tested t)))

-- ── The loop over the lengths of `smallest_witness` ──────────────────────────────────────────────

module _ (m : ℕ) (test : Sequence → Bool) where
  -- the first witness of at most n rules
  pub up_to : ℕ → Option ℕ
  up_to n = find_behind m 0 test (sequences m n)

  -- the empty sequence is the first of all: no loop
  pub empty-found : test [] ≡ true → Some 0 ≡ find_behind m 0 test (sequences m 3)
  empty-found t = sym (rw t)

  -- before the loop
  pub empty_next : test [] ≡ false → up_to (1 - 1) ≡ None
  unfolding up_to
  empty_next t = rw t

  -- after the loop
  pub lengths-end : (more : ℕ) → more ≡ 4 → up_to (more - 1) ≡ None → None ≡ find_behind m 0 test (sequences m 3)
  unfolding up_to
  lengths-end more e none = sym (ap (λ n. up_to (n - 1)) (sym e) ∙ none)

  -- what is found among shorter sequences is found among all
  longer-found : (n k : ℕ) → n ≤ k → is_some (up_to n) ≡ true → up_to k ≡ up_to n
  unfolding up_to
  longer-found n zero h f = let e : 0 ≡ n = omega arith in ap up_to e
  longer-found n (suc k) h f =
      ⊎_elim (λ e. ap up_to (sym e)) (λ e. shorter (longer-found n k (omega arith) f)) (equal? n (suc k))
    where
      shorter : up_to k ≡ up_to n → up_to (suc k) ≡ up_to n
      shorter e =
          find-joined m 0 test (sequences m k) (level m (suc k))
          ∙ first-taken (up_to k) _ (ap is_some e ∙ f)
          ∙ e

  module _ (more : ℕ) (low : 1 ≤ more) (high : more ≤ 3) (none : up_to (more - 1) ≡ None) where
    -- where shorter sequences have none, the first is among those of `more` rules
    longer : up_to more ≡ find_behind m 0 test (level m more)
    unfolding up_to
    longer =
        subst (λ j. up_to j ≡ find_behind m 0 test (level m j)) next
        (find-joined m 0 test (sequences m (more - 1)) (level m (suc (more - 1)))
        ∙ ap (λ o. option_or o (find_behind m 0 test (level m (suc (more - 1))))) none)
      where
        next : suc (more - 1) ≡ more
        next = omega arith

    module _ (found : Option ℕ) (is : found ≡ find_behind m 0 test (level m more)) where
      -- a turn that finds nothing
      pub lengths_next : is_some found ≡ false → up_to (more + 1 - 1) ≡ None
      lengths_next f =
          let e : more + 1 - 1 ≡ more = omega arith in
          ap up_to e ∙ longer ∙ sym is ∙ nothing found f

      -- a turn that finds a witness
      pub lengths-found : is_some found ≡ true → found ≡ find_behind m 0 test (sequences m 3)
      unfolding up_to
      lengths-found f =
          let e = longer ∙ sym is in sym (longer-found more 3 high (ap is_some e ∙ f) ∙ e)
