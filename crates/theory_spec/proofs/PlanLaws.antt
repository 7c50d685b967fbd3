-- Where every mark is justified, the pruned depth-first search answers with the cheapest candidate, or with none where
-- there is no candidate.
-- Assumes nothing.
use mathlib.Core.Path.{◌≡◌, refl, sym, ap, ◌∙◌, subst}
use mathlib.Core.Logic.{◌⊎◌, inl, inr}
use mathlib.Core.Bool.{Bool, true, false, cond, ◌&&◌, ◌||◌}
use mathlib.Core.Option.{Option, some, none}
use mathlib.Core.List.{List, [], ◌∷◌}
use mathlib.Core.List.Memᴰ
use Prim.Native.Nat.{ℕ, ◌≤◌, ◌<◌}
use native.Mathlib.Omega.{arith}
use lib.Dec.{leb, ltb, eqb}
use lib.ListN.{length, take}
use borrow.Author.Tests.{ltb-true, lt-ltb, eqb-true, eq-eqb, le-leb, ltb-false}
use Rattle.theory_spec.specs.Lists.{◌∈◌, keep, keep_if, Pairwise, is_some}
use Rattle.theory_spec.specs.Sequences.{Sequence, run, cost_of, sequences, depth_first}
use Rattle.theory_spec.specs.Order.{LexBefore, Before}
use Rattle.theory_spec.specs.Plans.{reaches, is_plan, candidates, cheapest, Preferred, allowed, is_visited, visited}
use Rattle.theory_spec.specs.How.Firsts.{Least}
use Rattle.theory_spec.specs.How.Pruning.{Closed, Justified}
use Rattle.theory_spec.specs.Frontier.{is_in}
use Rattle.theory_spec.specs.How.Recursion.{better, improved, best}
use Rattle.theory_spec.proofs.ListLaws.{or_split, or_left, or_right, and_split, and_join, here, in-keep, of-keep}
use Rattle.theory_spec.proofs.ListLaws.{of-take, pairwise_take, pairwise-keep, passes?, not-both}
use Rattle.theory_spec.proofs.SequenceLaws.{of-sequences, in-sequences, of-depth_first, in-depth_first}
use Rattle.theory_spec.proofs.OrderLaws.{sequences-ordered, depth_first-ordered}
use Rattle.theory_spec.proofs.CheapestLaws.{preferred_trans, least_unique, cheapest_none, cheapest-least}
use Rattle.theory_spec.proofs.FloorLaws.{in_is, is_in_lem}
use Rattle.theory_spec.proofs.PruningLaws.{in-ends_in, of-plan, cheapest_not-pruned}
use Rattle.theory_spec.proofs.VisitLaws.{of-allowed, in-allowed}

-- ── The preference as a test ────────────────────────────────────────────────────────────────────

-- a test of the form: less, or equal and a further test
less_or : (x y : ℕ) (c : Bool) → (ltb x y || (eqb x y && c)) ≡ true → (x < y) ⊎ ((x ≡ y) × (c ≡ true))
less_or x y c h = go (or_split (ltb x y) (eqb x y && c) h)
  where
    go : (ltb x y ≡ true) ⊎ ((eqb x y && c) ≡ true) → (x < y) ⊎ ((x ≡ y) × (c ≡ true))
    go (inl e) = inl (ltb-true x y e)
    go (inr e) = let w = and_split (eqb x y) c e in inr (eqb-true x y w.0, w.1)

or_less : (x y : ℕ) (c : Bool) → (x < y) ⊎ ((x ≡ y) × (c ≡ true)) → (ltb x y || (eqb x y && c)) ≡ true
or_less x y c (inl h) = or_left (eqb x y && c) (lt-ltb x y h)
or_less x y c (inr h) = or_right (ltb x y) (and_join (eq-eqb x y h.0) h.1)

-- ── The fold finds the least ─────────────────────────────────────────────────────────────────────

module _ (cost : ℕ → ℕ) where
  -- the same where every sequence counts
  abbrev best_of : Option Sequence → List Sequence → Option Sequence
  best_of c [] = c
  best_of c (q ∷ l) = best_of (improved cost q c) l

  best-keep : (good : Sequence → Bool) (c : Option Sequence) (l : List Sequence)
      → best cost good c l ≡ best_of c (keep good l)
  best-keep good c [] = refl
  best-keep good c (q ∷ l) = go (good q) (λ c. best-keep good c l)
    where
      go : (b : Bool) → ((c : Option Sequence) → best cost good c l ≡ best_of c (keep good l))
          → best cost good (cond b (improved cost q c) c) l ≡ best_of c (keep_if b q (keep good l))
      go true ih = ih (improved cost q c)
      go false ih = ih c

  -- what is better is preferred
  better-preferred : (q p : Sequence) → better cost q p ≡ true → Preferred cost q p
  better-preferred q p h = go (less_or (cost_of cost q) (cost_of cost p) (ltb (length q) (length p)) h)
    where
      go : (cost_of cost q < cost_of cost p) ⊎ ((cost_of cost q ≡ cost_of cost p) × (ltb (length q) (length p) ≡ true))
          → Preferred cost q p
      go (inl k) = inl k
      go (inr k) = inr (k.0, inl (ltb-true (length q) (length p) k.1))

  -- what comes first in lexicographic order and is not improved on is preferred
  earlier-preferred : (q p : Sequence) → LexBefore p q → better cost q p ≡ false → Preferred cost p q
  earlier-preferred q p l h =
      by_cost (passes? (ltb (cost_of cost p) (cost_of cost q))) (passes? (ltb (cost_of cost q) (cost_of cost p)))
    where
      by_length : cost_of cost q ≡ cost_of cost p → (ltb (length q) (length p) ≡ true)
          ⊎ (ltb (length q) (length p) ≡ false) → (ltb (length p) (length q) ≡ true)
          ⊎ (ltb (length p) (length q) ≡ false) → Before p q
      by_length e (inl s) t =
          not-both (or_less (cost_of cost q) (cost_of cost p) (ltb (length q) (length p)) (inr (e, s))) h
      by_length e (inr s) (inl t) = inl (ltb-true (length p) (length q) t)
      by_length e (inr s) (inr t) =
          let s' = ltb-false (length q) (length p) s in let t' = ltb-false (length p) (length q) t in
          inr (omega arith, l)

      by_cost : (ltb (cost_of cost p) (cost_of cost q) ≡ true) ⊎ (ltb (cost_of cost p) (cost_of cost q) ≡ false)
          → (ltb (cost_of cost q) (cost_of cost p) ≡ true) ⊎ (ltb (cost_of cost q) (cost_of cost p) ≡ false)
          → Preferred cost p q
      by_cost (inl s) t = inl (ltb-true (cost_of cost p) (cost_of cost q) s)
      by_cost (inr s) (inl t) =
          not-both (or_less (cost_of cost q) (cost_of cost p) (ltb (length q) (length p))
          (inl (ltb-true (cost_of cost q) (cost_of cost p) t))) h
      by_cost (inr s) (inr t) =
          let s' = ltb-false (cost_of cost p) (cost_of cost q) s in
          let t' = ltb-false (cost_of cost q) (cost_of cost p) t in
          let e : cost_of cost q ≡ cost_of cost p = omega arith in
          inr (sym e, by_length e (passes? (ltb (length q) (length p))) (passes? (ltb (length p) (length q))))

  -- p is least, and q preferred to r: then r is no better than p
  carry : (p q r : Sequence) → (q ≡ p) ⊎ Preferred cost p q → Preferred cost q r → (r ≡ p) ⊎ Preferred cost p r
  carry p q r (inl e) h = inr (subst (λ x. Preferred cost x r) e h)
  carry p q r (inr k) h = inr (preferred_trans cost p q r k h)

  -- the fold over a list in lexicographic order gives the least of what it has seen
  best_of-least : (l : List Sequence) (c : Sequence) → Pairwise LexBefore (c ∷ l) → (p : Sequence)
      × (best_of (some c) l ≡ some p) × Least cost (c ∷ l) p
  best_of-least [] c o = (c, refl, (here c [], alone))
    where
      alone : (q : Sequence) → q ∈ c ∷ [] → (q ≡ c) ⊎ Preferred cost c q
      alone q (Memᴰ.head e) = inl e
      alone q (Memᴰ.tail d) = absurd (Memᴰ.not-nil d)
  best_of-least (x ∷ l) c o = go (better cost x c) refl (best_of-least l)
    where
      Found : Bool → Type 0
      Found b = (p : Sequence) × (best_of (cond b (some x) (some c)) l ≡ some p) × Least cost (c ∷ x ∷ l) p

      go : (b : Bool) → better cost x c ≡ b → ((c : Sequence) → Pairwise LexBefore (c ∷ l) → (p : Sequence)
          × (best_of (some c) l ≡ some p) × Least cost (c ∷ l) p) → Found b
      go true h ih = let w = ih x o.1 in (w.0, w.1, (Memᴰ.tail w.2.0, others w.0 w.2))
        where
          others : (p : Sequence) → Least cost (x ∷ l) p → (q : Sequence) → q ∈ c ∷ x ∷ l → (q ≡ p) ⊎ Preferred cost p q
          others p k q (Memᴰ.head e) =
              subst (λ y. (y ≡ p) ⊎ Preferred cost p y) (sym e)
              (carry p x c (k.1 x (here x l)) (better-preferred x c h))
          others p k q (Memᴰ.tail d) = k.1 q d
      go false h ih =
          let w = ih c (λ y d. o.0 y (Memᴰ.tail d), o.1.1) in
          (w.0, w.1, (member w.0 w.2.0, others w.0 w.2))
        where
          member : (p : Sequence) → p ∈ c ∷ l → p ∈ c ∷ x ∷ l
          member p (Memᴰ.head e) = Memᴰ.head e
          member p (Memᴰ.tail d) = Memᴰ.tail (Memᴰ.tail d)

          others : (p : Sequence) → Least cost (c ∷ l) p → (q : Sequence) → q ∈ c ∷ x ∷ l → (q ≡ p) ⊎ Preferred cost p q
          others p k q (Memᴰ.head e) = k.1 q (Memᴰ.head e)
          others p k q (Memᴰ.tail (Memᴰ.head e)) =
              subst (λ y. (y ≡ p) ⊎ Preferred cost p y) (sym e)
              (carry p c x (k.1 c (here c l)) (earlier-preferred x c (o.0 x (here x l)) h))
          others p k q (Memᴰ.tail (Memᴰ.tail d)) = k.1 q (Memᴰ.tail d)

  best_of_finds : (l : List Sequence) → Pairwise LexBefore l → (p : Sequence) → Least cost l p → best_of none l ≡ some p
  best_of_finds [] o p h = absurd (Memᴰ.not-nil h.0)
  best_of_finds (x ∷ l) o p h =
      let w = best_of-least l x o in w.1 ∙ ap {B = Option Sequence} some (least_unique cost (x ∷ l) w.0 p w.2 h)

  -- the fold over l, in lexicographic order, gives the cheapest of c, in document 01's order, where what counts in l is
  -- in c, and the cheapest of c counts in l
  pub best_agrees : (good : Sequence → Bool) (l c : List Sequence) → Pairwise LexBefore (keep good l)
      → Pairwise Before c
      → ((q : Sequence) → q ∈ keep good l → q ∈ c) → ((p : Sequence) → cheapest cost c ≡ some p → p ∈ keep good l)
      → best cost good none l ≡ cheapest cost c
  best_agrees good l c lex ordered inside outside = best-keep good none l ∙ go (cheapest cost c) refl
    where
      empty : (k : List Sequence) → ((q : Sequence) → q ∈ k → ⊥) → best_of none k ≡ none
      empty [] h = refl
      empty (q ∷ k) h = absurd (h q (here q k))

      go : (o : Option Sequence) → cheapest cost c ≡ o → best_of none (keep good l) ≡ o
      go none e =
          empty (keep good l) (λ q d. Memᴰ.not-nil (subst (λ k. q ∈ k) (cheapest_none cost c e) (inside q d)))
      go (some p) e =
          let least = cheapest-least cost c ordered p e in
          best_of_finds (keep good l) lex p (outside p e, λ q d. least.1 q (inside q d))

-- ── The search's answer ──────────────────────────────────────────────────────────────────────────

-- the plans stand in document 01's order
plans-ordered : {A : Type 0} (step : ℕ → A → Option A) (cost : ℕ → ℕ) (m : ℕ) (start : A) (goal : A → Bool)
    (max_moves max_cost : ℕ) → Pairwise Before (candidates step cost m start goal max_moves max_cost)
plans-ordered step cost m start goal max_moves max_cost =
    pairwise-keep Before (is_plan step cost start goal max_cost) (sequences m max_moves) (sequences-ordered m max_moves)

-- a search that visits the sequences that pass a test, of which each is within the cost bound
module _ {A : Type 0} (step : ℕ → A → Option A) (cost : ℕ → ℕ) (m : ℕ) (start : A) (goal : A → Bool)
    (max_moves max_cost : ℕ) (good : Sequence → Bool)
    (bounded : (q : Sequence) → good q ≡ true → cost_of cost q ≤ max_cost) where
  abbrev plans : List Sequence
  plans = candidates step cost m start goal max_moves max_cost

  -- the plans that the search comes to
  abbrev found : List Sequence
  found = keep (reaches step start goal) (keep good (depth_first m max_moves))

  found-ordered : Pairwise LexBefore found
  found-ordered =
      pairwise-keep LexBefore (reaches step start goal) (keep good (depth_first m max_moves))
      (pairwise-keep LexBefore good (depth_first m max_moves) (depth_first-ordered m max_moves))

  -- they are plans
  found_plans : (q : Sequence) → q ∈ found → q ∈ plans
  found_plans q d =
      let u = of-keep (reaches step start goal) (keep good (depth_first m max_moves)) d in
      let v = of-keep good (depth_first m max_moves) u.0 in
      let w = of-depth_first m max_moves v.0 in
      in-keep (is_plan step cost start goal max_cost) (in-sequences m max_moves q w.0 w.1)
      (and_join u.1 (le-leb (cost_of cost q) max_cost (bounded q v.1)))

  -- and a plan that passes is among them
  plans-found : (q : Sequence) → q ∈ plans → good q ≡ true → q ∈ found
  plans-found q d h =
      let u = of-keep (is_plan step cost start goal max_cost) (sequences m max_moves) d in
      let w = of-sequences m max_moves u.0 in
      let t = of-plan step cost start goal max_cost q u.1 in
      in-keep (reaches step start goal) (in-keep good (in-depth_first m max_moves q w.0 w.1) h)
      (in-ends_in goal (run step q start) t.0 t.1 t.2)

  -- where the cheapest plan passes, the search answers with it; where there is no plan, with none
  pub best_of_good : ((p : Sequence) → cheapest cost (candidates step cost m start goal max_moves max_cost) ≡ some p
      → good p ≡ true)
      → best cost (reaches step start goal) none (keep good (depth_first m max_moves))
      ≡ cheapest cost (candidates step cost m start goal max_moves max_cost)
  best_of_good passes =
      let ordered = plans-ordered step cost m start goal max_moves max_cost in
      best_agrees cost (reaches step start goal)
      (keep good (depth_first m max_moves)) plans found-ordered ordered found_plans
      (λ p e. plans-found p (cheapest-least cost plans ordered p e).0 (passes p e))

  -- the best of the first n that it visits is the cheapest of the plans among these
  best-looked : (n : ℕ)
      → best cost (reaches step start goal) none (take n (keep good (depth_first m max_moves)))
      ≡ cheapest cost (keep (is_in (take n (keep good (depth_first m max_moves))))
      (candidates step cost m start goal max_moves max_cost))
  best-looked n =
      best_agrees cost (reaches step start goal) looked (keep (is_in looked) plans) lex ordered inside outside
    where
      looked : List Sequence
      looked = take n (keep good (depth_first m max_moves))

      lex : Pairwise LexBefore (keep (reaches step start goal) looked)
      lex =
          pairwise-keep LexBefore (reaches step start goal) looked
          (pairwise_take LexBefore n (keep good (depth_first m max_moves))
          (pairwise-keep LexBefore good (depth_first m max_moves) (depth_first-ordered m max_moves)))

      ordered : Pairwise Before (keep (is_in looked) plans)
      ordered = pairwise-keep Before (is_in looked) plans (plans-ordered step cost m start goal max_moves max_cost)

      inside : (q : Sequence) → q ∈ keep (reaches step start goal) looked → q ∈ keep (is_in looked) plans
      inside q d =
          let u = of-keep (reaches step start goal) looked d in
          in-keep (is_in looked) (found_plans q (in-keep (reaches step start goal)
          (of-take n (keep good (depth_first m max_moves)) u.0) u.1)) (in_is u.0)

      outside : (p : Sequence) → cheapest cost (keep (is_in looked) plans) ≡ some p
          → p ∈ keep (reaches step start goal) looked
      outside p e =
          let u = of-keep (is_in looked) plans (cheapest-least cost (keep (is_in looked) plans) ordered p e).0 in
          let w = of-keep (is_plan step cost start goal max_cost) (sequences m max_moves) u.0 in
          in-keep (reaches step start goal) (is_in_lem looked p u.1)
          (and_split (reaches step start goal p) (leb (cost_of cost p) max_cost) w.1).0

-- a search that visits what marks leave
module _ {A : Type 0} (step : ℕ → A → Option A) (cost : ℕ → ℕ) (m : ℕ) (marked : Sequence → Bool) (start : A)
    (goal : A → Bool) (max_moves max_cost : ℕ) where
  visited-bounded : (q : Sequence) → is_visited step cost marked start max_cost q ≡ true → cost_of cost q ≤ max_cost
  visited-bounded q h =
      (of-allowed cost marked max_cost q
      (and_split (is_some (run step q start)) (allowed cost marked max_cost q) h).1).0

  -- the best of the first n visits is the cheapest of the plans among these
  pub best-first : (n : ℕ)
      → best cost (reaches step start goal) none (take n (visited step cost m marked start max_moves max_cost))
      ≡ cheapest cost (keep (is_in (take n (visited step cost m marked start max_moves max_cost)))
      (candidates step cost m start goal max_moves max_cost))
  best-first =
      best-looked step cost m start goal max_moves max_cost (is_visited step cost marked start max_cost) visited-bounded

-- a search that visits what justified marks leave
module _ {A : Type 0} (step : ℕ → A → Option A) (cost : ℕ → ℕ) (m : ℕ) (Valid : A → Type 0)
    (closed : Closed step m Valid)
    (marked : Sequence → Bool) (justified : Justified step cost m Valid marked)
    (start : A) (valid : Valid start) (goal : A → Bool) (max_moves max_cost : ℕ) where
  -- the cheapest plan is visited
  pub cheapest-visited : (p : Sequence) → cheapest cost (candidates step cost m start goal max_moves max_cost) ≡ some p
      → is_visited step cost marked start max_cost p ≡ true
  cheapest-visited p e =
      let d = (cheapest-least cost (candidates step cost m start goal max_moves max_cost)
      (plans-ordered step cost m start goal max_moves max_cost) p e).0 in
      let t = of-plan step cost start goal max_cost p
      (of-keep (is_plan step cost start goal max_cost) (sequences m max_moves) d).1 in
      and_join (ap is_some t.1) (in-allowed cost marked max_cost p t.3
      (cheapest_not-pruned step cost m Valid closed marked justified start goal max_moves max_cost p valid e))

  -- so the search answers with the cheapest plan; where there is no plan, with none
  pub best-cheapest : best cost (reaches step start goal) none (visited step cost m marked start max_moves max_cost)
      ≡ cheapest cost (candidates step cost m start goal max_moves max_cost)
  best-cheapest =
      best_of_good step cost m start goal max_moves max_cost (is_visited step cost marked start max_cost)
      (visited-bounded step cost m marked start goal max_moves max_cost) cheapest-visited
