-- The turns of the loop of `visit_from`: what the rules from a place on make of the progress, with the rule there and
-- without it; what a call for one more rule asks;
-- and that an exceeded progress stays as it is.
-- Assumes nothing.
use mathlib.Core.Path.{◌≡◌, refl, sym, ap, ap₂, subst, ◌∙◌}
use mathlib.Core.Logic.{◌≢◌}
use mathlib.Core.Bool.{Bool, true, false, cond, ◌&&◌}
use mathlib.Core.Option.{Option, some, none}
use mathlib.Core.List.{List, [], ◌∷◌, ◌++◌}
use Prim.Native.Nat.{ℕ, zero, suc, ◌+◌, ◌-◌, ◌*◌, ◌≤◌, ◌<◌, min}
use native.Mathlib.Omega.{arith}
use lib.Dec.{leb, ltb, eqb}
use lib.ListN.{length, get_or, take, replicate, length-append}
use lib.Seq.{take_at}
use borrow.Author.Tests.{le-ltb, ltb-false}
use Rattle.theory_spec.specs.Lists.{numbers_from, only_if, padded}
use Rattle.theory_spec.specs.How.Folds.{fold_over}
use Rattle.theory_spec.specs.Sequences.{Sequence, cost_of}
use Rattle.theory_spec.specs.How.Indices.{index_of}
use Rattle.theory_spec.specs.How.Recursion.{last, enter_with}
use Rattle.theory_spec.proofs.ListLaws.{not-both}
use Rattle.theory_spec.proofs.SequenceLaws.{cost-append, numbered-append}
use Rattle.model_spec.specs.States.{State, applicable, successor}
use Rattle.model_spec.proofs.LoopLaws.{rules_left}
use Rattle.search_spec.specs.Searched.{no_move}
use Rattle.search_laws.specs.declared.Progress.{Progress}
use Rattle.search_laws.specs.declared.Limits.{Limits}
use Rattle.search_laws.specs.How.Visits.{lent_step, lent_cost, may_go_on, best_at, noted_moves, noted, visits_from}
use Rattle.search_laws.specs.How.Visits.{meets_within, laid_over, EndsAt, Lent, Reached}
use Rattle.search_laws.proofs.StateLoopLaws.{goes-within, successor_ends, led-within}
use Rattle.search_laws.proofs.PlanArrayLaws.{plan-moves}
use Rattle.search_laws.proofs.LookupLaws.{last-place}

-- ── Carrying along ───────────────────────────────────────────────────────────────────────────────

-- what no element of a list changes stays as it is
fold_fixed : {A B : Type 0} (f : A → B → B) (b : B) (l : List A) → ((a : A) → f a b ≡ b) → fold_over f b l ≡ b
fold_fixed f b [] h = refl
fold_fixed f b (a ∷ l) h = ap (λ x. fold_over f x l) (h a) ∙ fold_fixed f b l h

-- and so does what no state changes that a rule may lead to
enter_fixed : {A C : Type 0} (c : C) (test : A → Bool) (o : Option A) (visit : A → C) → ((t : A) → visit t ≡ c)
    → enter_with c test o visit ≡ c
enter_fixed c test none visit h = refl
enter_fixed {A} {C} c test (some t) visit h = go (test t)
  where
    go : (b : Bool) → cond b (visit t) c ≡ c
    go true = h t
    go false = refl

-- where a test decides whether there is a state, the two tests decide together
enter_only : {A C : Type 0} (c : C) (b a : Bool) (t : A) (visit : A → C)
    → enter_with c (λ _. b) (only_if a t) visit ≡ cond (b && a) (visit t) c
enter_only c true true t visit = refl
enter_only c false true t visit = refl
enter_only c true false t visit = refl
enter_only c false false t visit = refl

-- the limit is exceeded, and the least cost beyond it is no higher than a cost: what costs as much or more changes
-- nothing
abbrev Idle : ℕ → ℕ → Progress → Type 0
Idle limit cost p = (limit ≤ p.steps) × (p.exceeded ≡ true) × (p.least ≤ cost)

-- what a sequence makes of the progress within the limit, and beyond it
abbrev stepped : List ℕ → ℕ → Sequence → State → Progress → Progress
stepped goal cost q s p = record {
  steps = p.steps + 1;
  exceeded = false;
  best = best_at goal cost (length q) (padded 32 no_move q) s p.best;
  least = p.least;
}

abbrev beyond : ℕ → Progress → Progress
beyond cost p = record { steps = p.steps; exceeded = true; best = p.best; least = min p.least cost }

noted_idle : (goal : List ℕ) (limit cost : ℕ) (q : Sequence) (s : State) (p : Progress) → Idle limit cost p
    → noted goal limit cost q s p ≡ p
unfolding noted noted_moves
noted_idle goal limit cost q s p h =
    let low : min p.least cost ≡ p.least = let k = h.2 in omega arith in
    ap (λ b. cond b (stepped goal cost q s p) (beyond cost p))
    (le-ltb p.steps limit h.0)
    ∙ (λ i. record { steps = p.steps; exceeded = sym h.1 i; best = p.best; least = low i })

-- a sequence beyond the limit leaves the progress so
idle-noted : (goal : List ℕ) (limit cost : ℕ) (q : Sequence) (s : State) (p c : Progress)
    → c ≡ noted goal limit cost q s p → c.exceeded ≡ true → Idle limit cost c
unfolding noted noted_moves
idle-noted goal limit cost q s p c e t = go (ltb p.steps limit) refl e
  where
    go : (b : Bool) → ltb p.steps limit ≡ b
        → c ≡ cond b (stepped goal cost q s p) (beyond cost p)
        → Idle limit cost c
    go true k is = not-both t (ap (λ (x : Progress). x.exceeded) is)
    go false k is =
        let m = ltb-false p.steps limit k in
        let a = ap (λ (x : Progress). x.steps) is in
        let f = ap (λ (x : Progress). x.least) is in
        (omega arith, t, omega arith)

-- ── The loop over the rules ──────────────────────────────────────────────────────────────────────

module _ (conditions effects : List (List ℕ)) (costs blocked goal : List ℕ) (limits : Limits) where
  abbrev visits : ℕ → Sequence → State → Progress → Progress
  visits = visits_from conditions effects costs blocked goal limits

  -- what rule r behind q makes of the progress, with n moves left behind it
  abbrev by_rule : ℕ → Sequence → State → ℕ → Progress → Progress
  by_rule n q s r c =
      enter_with c (λ _. may_go_on costs blocked limits (q ++ (r ∷ []))) (lent_step conditions effects r s)
      (λ t. visits n (q ++ (r ∷ [])) t c)

  -- what the rules from place k on make of it
  pub rest_from : ℕ → Sequence → State → ℕ → Progress → Progress
  rest_from n q s k c = fold_over (by_rule n q s) c (numbers_from (k + 1) (limits.count - k))

  -- no move is left: the sequence alone is visited
  pub visits-last : (left : ℕ) (q : Sequence) (s : State) (p : Progress) (cost : ℕ) (c : Progress) → left ≡ 0
      → cost ≡ cost_of (lent_cost costs) q → c ≡ noted goal limits.step_limit cost q s p
      → c ≡ visits left q s p
  unfolding visits_from
  visits-last left q s p cost c e paid is = is ∙ rw (e, paid)

  -- before the loop
  pub whole : (left : ℕ) (q : Sequence) (s : State) (p : Progress) (cost : ℕ) (c : Progress) → left ≢ 0
      → cost ≡ cost_of (lent_cost costs) q → c ≡ noted goal limits.step_limit cost q s p
      → rest_from (left - 1) q s 0 c ≡ visits left q s p
  unfolding rest_from visits_from
  whole zero q s p cost c h paid is = absurd (h refl)
  whole (suc n) q s p cost c h paid is =
      let f : limits.count - 0 ≡ limits.count = omega arith in let e : suc n - 1 ≡ n = omega arith in
      rw (f, e, is, paid)

  -- after the loop
  pub loop-end : (n : ℕ) (q : Sequence) (s : State) (k : ℕ) (c : Progress) → limits.count ≤ k → rest_from n q s k c ≡ c
  unfolding rest_from
  loop-end n q s k c h = let e : limits.count - k ≡ 0 = omega arith in rw e

  -- with one more rule a sequence costs no less
  idle_next : (q : Sequence) (r : ℕ) (c : Progress) → Idle limits.step_limit (cost_of (lent_cost costs) q) c
      → Idle limits.step_limit (cost_of (lent_cost costs) (q ++ (r ∷ []))) c
  idle_next q r c h = let k = h.2 in (h.0, h.1, omega (arith, cost-append (lent_cost costs) q (r ∷ [])))

  -- an exceeded progress stays as it is, all through what extends a sequence that costs no less
  visits_idle : (n : ℕ) (q : Sequence) (s : State) (c : Progress)
      → Idle limits.step_limit (cost_of (lent_cost costs) q) c → visits n q s c ≡ c
  unfolding visits_from
  visits_idle zero q s c h = noted_idle goal limits.step_limit (cost_of (lent_cost costs) q) q s c h
  visits_idle (suc n) q s c h =
      ap (λ x. fold_over (by_rule n q s) x (numbers_from 1 limits.count))
      (noted_idle goal limits.step_limit (cost_of (lent_cost costs) q) q s c h)
      ∙ fold_fixed (by_rule n q s) c (numbers_from 1 limits.count)
      (λ r. enter_fixed c (λ _. may_go_on costs blocked limits (q ++ (r ∷ []))) (lent_step conditions effects r s) _
      (λ t. visits_idle n (q ++ (r ∷ [])) t c (idle_next q r c h)))

  rest_idle : (n : ℕ) (q : Sequence) (s : State) (k : ℕ) (c : Progress)
      → Idle limits.step_limit (cost_of (lent_cost costs) q) c → rest_from n q s k c ≡ c
  unfolding rest_from
  rest_idle n q s k c h =
      fold_fixed (by_rule n q s) c (numbers_from (k + 1) (limits.count - k))
      (λ r. enter_fixed c (λ _. may_go_on costs blocked limits (q ++ (r ∷ []))) (lent_step conditions effects r s) _
      (λ t. visits_idle n (q ++ (r ∷ [])) t c (idle_next q r c h)))

  -- a sequence beyond the limit, with all that extends it
  pub whole_exceeded : (left : ℕ) (q : Sequence) (s : State) (p : Progress) (cost : ℕ) (c : Progress) → left ≢ 0
      → cost ≡ cost_of (lent_cost costs) q → c ≡ noted goal limits.step_limit cost q s p
      → c.exceeded ≡ true → c ≡ visits left q s p
  whole_exceeded left q s p cost c h paid is over =
      sym (rest_idle (left - 1) q s 0 c (subst (λ n. Idle limits.step_limit n c) paid
      (idle-noted goal limits.step_limit cost q s p c is over))) ∙ whole left q s p cost c h paid is

  -- one turn
  turn : (n : ℕ) (q : Sequence) (s : State) (k : ℕ) (c : Progress) → k < limits.count
      → rest_from n q s k c ≡ rest_from n q s (k + 1) (by_rule n q s (k + 1) c)
  unfolding rest_from
  turn n q s k c h = ap (fold_over (by_rule n q s) c) (rules_left k limits.count h)

  -- whether the search goes on by the rule at place k, as `goes_on` tells from the cost so far and the first place in
  -- the look-up
  abbrev goes_by : ℕ → ℕ → State → ℕ → Bool
  goes_by cost first s k =
      (leb (cost + get_or costs k 0) limits.max_cost && eqb (get_or blocked (first + k) 0) 0)
      && applicable (get_or conditions k []) s

  module _ (q : Sequence) (cost first : ℕ) (at : first
      ≡ index_of limits.count (last (limits.reach - 1) q) * limits.count + 1)
      (paid : cost ≡ cost_of (lent_cost costs) q) (low : 1 ≤ limits.reach) where
    -- the rule at place k has the number k + 1
    may_next : (k : ℕ) → may_go_on costs blocked limits (q ++ ((k + 1) ∷ []))
        ≡ (leb (cost + get_or costs k 0) limits.max_cost && eqb (get_or blocked (first + k) 0) 0)
    unfolding may_go_on lent_cost
    may_next k =
        let i : k + 1 - 1 ≡ k = omega arith in
        let r : suc (limits.reach - 1) ≡ limits.reach = omega arith in
        ap₂ (λ a b. leb a limits.max_cost && eqb (get_or blocked b 0) 0)
        (cost-append (lent_cost costs) q ((k + 1) ∷ []) ∙ ap₂ ◌+◌ (sym paid) (omega (arith, ap (λ j. get_or costs j 0) i)))
        (ap (λ j. index_of limits.count (last j (q ++ ((k + 1) ∷ [])))) (sym r)
        ∙ last-place limits.count (limits.reach - 1) q (k + 1) ∙ omega (arith, at))

    module _ (n : ℕ) (s : State) (k : ℕ) (c : Progress) where
      -- what that rule makes of the progress
      by_next : (goes : Bool) → goes_by cost first s k ≡ goes
          → by_rule n q s (k + 1) c ≡ cond goes (visits n (q ++ ((k + 1) ∷ [])) (successor (get_or effects k []) s) c) c
      unfolding lent_step
      by_next goes e =
          let i : k + 1 - 1 ≡ k = omega arith in
          ap₂ (λ b j. enter_with c (λ _. b) (only_if (applicable (get_or conditions j []) s)
          (successor (get_or effects j []) s)) (λ t. visits n (q ++ ((k + 1) ∷ [])) t c)) (may_next k) i
          ∙ enter_only c _ (applicable (get_or conditions k []) s) (successor (get_or effects k []) s)
          (λ t. visits n (q ++ ((k + 1) ∷ [])) t c)
          ∙ ap (λ b. cond b (visits n (q ++ ((k + 1) ∷ [])) (successor (get_or effects k []) s) c) c) e

      -- as the functions that look only at the positions tell, where lines and state end in zeros
      module _ (X : Progress) (h : k < limits.count) (inv : rest_from n q s k c ≡ X)
          (lent : Lent conditions effects goal limits) (held : EndsAt limits.positions s) (goes : Bool)
          (is : goes
          ≡ ((leb (cost + get_or costs k 0) limits.max_cost && eqb (get_or blocked (first + k) 0) 0)
          && meets_within (min limits.positions 16) (get_or conditions k []) s))
        where
          runs : goes ≡ goes_by cost first s k
          runs =
              goes-within limits.positions (get_or conditions k []) s
              (leb (cost + get_or costs k 0) limits.max_cost && eqb (get_or blocked (first + k) 0) 0) goes
              lent.position_limit (lent.condition_ends k h) held is

          -- a turn that goes on by the rule, and what it finds
          pub turn_taken : goes ≡ true → (longer : Sequence) → longer ≡ q ++ ((k + 1) ∷ [])
              → (next : State) → next ≡ laid_over (min limits.positions 16) (successor (get_or effects k []) s)
              (replicate 16 0)
              → (found c' : Progress) → c' ≡ found → found ≡ visits n longer next c → rest_from n q s (k + 1) c' ≡ X
          turn_taken t longer made next led found c' got e =
              let there = led-within limits.positions (get_or effects k []) s next lent.position_limit
              (lent.effect_ends k h) led in
              ap (rest_from n q s (k + 1))
              (got ∙ e ∙ ap₂ (λ l u. visits n l u c) made there ∙ sym (by_next true (sym runs ∙ t)))
              ∙ sym (turn n q s k c h) ∙ inv

          -- a turn that does not
          pub turn_left : goes ≡ false → rest_from n q s (k + 1) c ≡ X
          turn_left t = ap (rest_from n q s (k + 1)) (sym (by_next false (sym runs ∙ t))) ∙ sym (turn n q s k c h) ∙ inv

-- ── What a call for one more rule asks ───────────────────────────────────────────────────────────

module _ (costs : List ℕ) (limits : Limits) (state plan : List ℕ) (n cost left : ℕ)
    (reached : Reached costs limits state plan n cost left) where
  -- the sequence so far is as long as it says
  so_far : length (take n plan) ≡ n
  so_far = plan-moves 32 no_move plan n reached.rest (let r = reached.room in omega arith)

  module _ (k : ℕ) (longer : List ℕ) (made : longer ≡ padded 32 no_move (take n plan ++ ((k + 1) ∷ []))) where
    -- the longer plan begins with the longer sequence
    pub plan_next : take (n + 1) longer ≡ take n plan ++ ((k + 1) ∷ [])
    plan_next =
        let q = take n plan ++ ((k + 1) ∷ []) in
        ap (take (n + 1)) made ∙ take_at q (replicate (32 - length q) no_move) (n + 1)
        (omega (arith, length-append (take n plan) ((k + 1) ∷ []), so_far))

    -- the sequence with the rule at place k behind it is reached, with any number of moves to come for which there is
    -- room
    pub reached_next : (conditions effects : List (List ℕ)) (goal : List ℕ) → Lent conditions effects goal limits
        → k < limits.count
        → (next : State) → next ≡ laid_over (min limits.positions 16) (successor (get_or effects k []) state)
        (replicate 16 0)
        → (less : ℕ) → n + 1 + less ≤ 32 → Reached costs limits next longer (n + 1) (cost + get_or costs k 0) less
    unfolding lent_cost
    reached_next conditions effects goal lent h next led less room = record {
      room = room;
      rest = made ∙ ap (padded 32 no_move) (sym plan_next);
      rules =
          rw plan_next (numbered-append limits.count (take n plan) ((k + 1) ∷ []) reached.rules
          (omega arith, omega arith, tt));
      total =
          sym (ap (cost_of (lent_cost costs)) plan_next ∙ cost-append (lent_cost costs) (take n plan) ((k + 1) ∷ [])
          ∙ ap₂ ◌+◌ (sym reached.total) paid);
      state_end =
          let ends = lent.effect_ends k h in
          rw (led-within limits.positions (get_or effects k []) state next lent.position_limit ends led)
          (successor_ends limits.positions (get_or effects k []) state ends);
    }
      where
        paid : cost_of (lent_cost costs) ((k + 1) ∷ []) ≡ get_or costs k 0
        paid = let i : k + 1 - 1 ≡ k = omega arith in omega (arith, ap (λ j. get_or costs j 0) i)
