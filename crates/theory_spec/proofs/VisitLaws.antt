-- What is visited is closed under prefixes, and the recursion `explore` visits what `visited` lists, in that order; for
-- one more rule it need test only suffixes;
-- the recursion that carries something along is the fold over what it visits.
-- Assumes nothing.
use mathlib.Core.Path.{◌≡◌, refl, sym, ap, ◌∙◌, ap₂, subst, fun_ext}
use mathlib.Core.Logic.{◌⊎◌, inl, inr}
use mathlib.Core.Bool.{Bool, true, false, not, cond, ◌&&◌, ◌||◌}
use mathlib.Core.Option.{Option, some, none}
use mathlib.Core.List.{List, [], ◌∷◌, ◌++◌, map, map-append, append_assoc, append-nil}
use mathlib.Core.List.Memᴰ
use Prim.Native.Nat.{ℕ, zero, suc, ◌+◌, ◌-◌, ◌≤◌, ◌<◌, zero-le}
use native.Mathlib.Omega.{arith}
use lib.Dec.{leb}
use lib.ListN.{length}
use borrow.Author.Tests.{not-true, leb-true, leb-false, le-leb}
use Rattle.theory_spec.specs.Lists.{◌∈◌, any, keep, flat, is_some}
use Rattle.theory_spec.specs.How.Folds.{fold_over}
use Rattle.theory_spec.specs.Sequences.{Sequence, and_then, run, cost_of, numbers, Numbered, with_first, depth_first}
use Rattle.theory_spec.specs.Pruning.{prefixes, segments, pruned}
use Rattle.theory_spec.specs.Plans.{allowed, is_visited, visited}
use Rattle.theory_spec.specs.How.Recursion.{enter, explore, suffixes, short_suffixes, allowed_next, enter_with}
use Rattle.theory_spec.specs.How.Recursion.{explore_with}
use Rattle.theory_spec.proofs.ListLaws.{of-is_some, keep_none, keep_pass, keep-flat, flat-same, fold-append}
use Rattle.theory_spec.proofs.ListLaws.{map-flat, map_of-map, map_id, any_append, any-keep, and_split, and_join}
use Rattle.theory_spec.proofs.ListLaws.{passes?, not-both}
use Rattle.theory_spec.proofs.SequenceLaws.{run-append, run_split, cost-append, numbered-append, of-numbers}
use Rattle.theory_spec.proofs.PruningLaws.{pruned_around}

-- ── What is visited is closed under prefixes ─────────────────────────────────────────────────────

module _ (cost : ℕ → ℕ) (marked : Sequence → Bool) (max_cost : ℕ) where
  pub of-allowed : (q : Sequence) → allowed cost marked max_cost q ≡ true → (cost_of cost q ≤ max_cost)
      × (pruned marked q ≡ false)
  of-allowed q h =
      let w = and_split (leb (cost_of cost q) max_cost) (not (pruned marked q)) h in
      (leb-true (cost_of cost q) max_cost w.0, not-true (pruned marked q) w.1)

  pub in-allowed : (q : Sequence) → cost_of cost q ≤ max_cost → pruned marked q ≡ false
      → allowed cost marked max_cost q ≡ true
  in-allowed q h k = and_join (le-leb (cost_of cost q) max_cost h) (ap not k)

  pub allowed_prefix : (x y : Sequence) → allowed cost marked max_cost (x ++ y) ≡ true
      → allowed cost marked max_cost x ≡ true
  allowed_prefix x y h =
      in-allowed x (let c = w.0 in omega (arith, cost-append cost x y)) (unpruned (passes? (pruned marked x)))
    where
      w : (cost_of cost (x ++ y) ≤ max_cost) × (pruned marked (x ++ y) ≡ false)
      w = of-allowed (x ++ y) h

      unpruned : (pruned marked x ≡ true) ⊎ (pruned marked x ≡ false) → pruned marked x ≡ false
      unpruned (inl e) = not-both (pruned_around marked [] x y e) w.1
      unpruned (inr e) = e

-- a test of sequences that passes on to prefixes, and that is told, for one more rule, by the longer sequence and the
-- state it leads to
pub record Inherited {A : Type 0} (step : ℕ → A → Option A) (start : A) (good : Sequence → Bool)
    (may : Sequence → A → Bool) : Type 0 where
  pub prefix : (x y : Sequence) → good (x ++ y) ≡ true → good x ≡ true
  pub runs : (q : Sequence) → good q ≡ true → is_some (run step q start) ≡ true
  pub next : (q : Sequence) (r : ℕ) (s t : A) → good q ≡ true → run step q start ≡ some s → step r s ≡ some t
      → good (q ++ (r ∷ [])) ≡ may (q ++ (r ∷ [])) t

module _ {A : Type 0} (step : ℕ → A → Option A) (m : ℕ) (start : A) (good : Sequence → Bool) (may : Sequence → A → Bool)
    (inherited : Inherited step start good may) where
  -- no extension of what does not pass passes
  blocked : (x : Sequence) (l : List Sequence) → good x ≡ false → keep good (map (λ w. x ++ w) l) ≡ []
  blocked x l h = keep_none good (map (λ w. x ++ w) l) each
    where
      each : (a : Sequence) → a ∈ map (λ w. x ++ w) l → good a ≡ false
      each a d = go (passes? (good a)) (Memᴰ.of_map (λ (w : Sequence). x ++ w) l d)
        where
          go : (good a ≡ true) ⊎ (good a ≡ false) → ((w : Sequence) × (w ∈ l) × ((x ++ w) ≡ a)) → good a ≡ false
          go (inl e) w = not-both (inherited.prefix x w.0 (subst (λ b. good b ≡ true) (sym w.2) e)) h
          go (inr e) w = e

  -- q itself comes first
  first : (q : Sequence) (l : List Sequence) → good q ≡ true → keep good ((q ++ []) ∷ l) ≡ q ∷ keep good l
  first q l h = ap (λ p. keep good (p ∷ l)) (append-nil q) ∙ keep_pass good q l h

  -- the extensions of q by r, regrouped
  regroup : (q : Sequence) (r : ℕ) (l : List Sequence)
      → map (λ w. q ++ w) (with_first l r) ≡ map (λ w. q ++ (r ∷ []) ++ w) l
  regroup q r l =
      map_of-map (λ (w : Sequence). q ++ w) (λ (w : Sequence). r ∷ w) l
      ∙ ap (λ (f : Sequence → Sequence). map f l) (fun_ext (λ w. sym (append_assoc q (r ∷ []) w)))

  -- the recursion from a sequence q that passes, at state s, with n moves left, lists its extensions that pass
  abbrev Enumerates : ℕ → Sequence → A → Type 0
  Enumerates n q s = keep good (map (λ w. q ++ w) (depth_first m n)) ≡ explore step m may n q s

  -- the extensions by the rule r
  good_child : (n : ℕ) → ((q : Sequence) (s : A) → run step q start ≡ some s → good q ≡ true → Enumerates n q s)
      → (q : Sequence) (s : A) → run step q start ≡ some s → good q ≡ true → (r : ℕ)
      → keep good (map (λ w. q ++ w) (with_first (depth_first m n) r))
      ≡ enter (may (q ++ (r ∷ []))) (step r s) (explore step m may n (q ++ (r ∷ [])))
  good_child n ih q s e h r = ap (keep good) (regroup q r (depth_first m n)) ∙ go (step r s) refl
    where
      next : Sequence
      next = q ++ (r ∷ [])

      run_in : run step next start ≡ and_then (step r s) some
      run_in = run-append step q (r ∷ []) start ∙ ap (λ o. and_then o (run step (r ∷ []))) e

      ended : (t : A) → step r s ≡ some t → (b : Bool) → good next ≡ b
          → keep good (map (λ w. next ++ w) (depth_first m n)) ≡ cond b (explore step m may n next t) []
      ended t p true k = ih next t (run_in ∙ ap (λ o. and_then o some) p) k
      ended t p false k = blocked next (depth_first m n) k

      stopped : step r s ≡ none → (good next ≡ true) ⊎ (good next ≡ false) → good next ≡ false
      stopped p (inl k) = not-both (sym (ap is_some (run_in ∙ ap (λ o. and_then o some) p)) ∙ inherited.runs next k) refl
      stopped p (inr k) = k

      go : (o : Option A) → step r s ≡ o → keep good (map (λ w. next ++ w) (depth_first m n))
          ≡ enter (may next) o (explore step m may n next)
      go none p = blocked next (depth_first m n) (stopped p (passes? (good next)))
      go (some t) p = ended t p (may next t) (inherited.next q r s t h e p)

  good_from : (n : ℕ) (q : Sequence) (s : A) → run step q start ≡ some s → good q ≡ true → Enumerates n q s
  good_from zero q s e h = first q [] h
  good_from (suc n) q s e h =
      first q (map (λ w. q ++ w) (flat (with_first (depth_first m n)) (numbers m))) h
      ∙ ap {B =
      List Sequence} (λ l. q ∷ l) (spread ∙ flat-same child visit (numbers m)
      (λ r d. good_child n (good_from n) q s e h r))
    where
      child : ℕ → List Sequence
      child r = keep good (map (λ w. q ++ w) (with_first (depth_first m n) r))

      visit : ℕ → List Sequence
      visit r = enter (may (q ++ (r ∷ []))) (step r s) (explore step m may n (q ++ (r ∷ [])))

      spread : keep good (map (λ w. q ++ w) (flat (with_first (depth_first m n)) (numbers m))) ≡ flat child (numbers m)
      spread =
          ap (keep good) (map-flat (λ (w : Sequence). q ++ w) (with_first (depth_first m n)) (numbers m))
          ∙ keep-flat good (λ r. map (λ w. q ++ w) (with_first (depth_first m n) r)) (numbers m)

  -- the recursion from the empty sequence, where that passes, visits what passes, in that order
  pub good-explore : (max_moves : ℕ) → good [] ≡ true
      → keep good (depth_first m max_moves) ≡ explore step m may max_moves [] start
  good-explore max_moves h = ap (keep good) (sym (map_id (depth_first m max_moves))) ∙ good_from max_moves [] start refl h

  -- where the empty sequence does not pass, nothing does
  pub good_none : (max_moves : ℕ) → good [] ≡ false → keep good (depth_first m max_moves) ≡ []
  good_none max_moves h = ap (keep good) (sym (map_id (depth_first m max_moves))) ∙ blocked [] (depth_first m max_moves) h

module _ {A : Type 0} (step : ℕ → A → Option A) (cost : ℕ → ℕ) (m : ℕ) (marked : Sequence → Bool) (start : A)
    (max_cost : ℕ) where
  abbrev may : Sequence → Bool
  may = allowed cost marked max_cost

  pub visited_prefix : (x y : Sequence) → is_visited step cost marked start max_cost (x ++ y) ≡ true
      → is_visited step cost marked start max_cost x ≡ true
  visited_prefix x y h =
      let w = and_split (is_some (run step (x ++ y) start)) (may (x ++ y)) h in
      let t = of-is_some (run step (x ++ y) start) w.0 in
      let u = run_split step x y start t.0 t.1 in
      and_join (ap is_some u.1) (allowed_prefix cost marked max_cost x y w.1)

  visited_inherited : Inherited step start (is_visited step cost marked start max_cost) (λ q _. may q)
  visited_inherited = record {
    prefix = visited_prefix;
    runs = λ q h. (and_split (is_some (run step q start)) (may q) h).0;
    next =
        λ q r s t h e p. ap (λ o. is_some o && may (q ++ (r ∷ [])))
        (run-append step q (r ∷ []) start ∙ ap (λ o. and_then o (run step (r ∷ []))) e ∙ ap (λ o. and_then o some) p);
  }

  -- the recursion from the empty sequence at the start visits what `visited` lists, in that order
  pub visited-explore : (max_moves : ℕ) → visited step cost m marked start max_moves max_cost
      ≡ explore step m (λ q _. allowed cost marked max_cost q) max_moves [] start
  visited-explore max_moves =
      good-explore step m start (is_visited step cost marked start max_cost) (λ q _. may q) visited_inherited max_moves
      (in-allowed cost marked max_cost [] zero-le refl)

-- ── The test of one more rule ────────────────────────────────────────────────────────────────────

-- one more prefix with one more rule
prefixes_snoc : (q : Sequence) (r : ℕ) → prefixes (q ++ (r ∷ [])) ≡ prefixes q ++ ((q ++ (r ∷ [])) ∷ [])
prefixes_snoc [] r = refl
prefixes_snoc (p ∷ q) r =
    ap {B = List Sequence} (λ l. (p ∷ []) ∷ l)
    (ap (λ l. with_first l p) (prefixes_snoc q r)
    ∙ map-append (λ (w : Sequence). p ∷ w) (prefixes q) ((q ++ (r ∷ [])) ∷ []))

module _ (marked : Sequence → Bool) where
  -- what one more rule adds to the segments are the suffixes
  pub pruned_snoc : (q : Sequence) (r : ℕ) → pruned marked (q ++ (r ∷ []))
      ≡ (pruned marked q || any marked (suffixes (q ++ (r ∷ []))))
  pruned_snoc [] r = refl
  pruned_snoc (p ∷ q) r =
      any_append marked (prefixes (p ∷ q ++ (r ∷ []))) (segments (q ++ (r ∷ [])))
      ∙ ap₂ ◌||◌ (ap (any marked) (prefixes_snoc (p ∷ q) r)
      ∙ any_append marked (prefixes (p ∷ q)) ((p ∷ q ++ (r ∷ [])) ∷ [])) (pruned_snoc q r)
      ∙ shuffle (any marked (prefixes (p ∷ q))) (marked (p ∷ q ++ (r ∷ []))) (pruned marked q)
      (any marked (suffixes (q ++ (r ∷ []))))
      ∙ ap (λ b. b || any marked (suffixes (p ∷ q ++ (r ∷ []))))
      (sym (any_append marked (prefixes (p ∷ q)) (segments q)))
    where
      shuffle : (a b c d : Bool) → ((a || (b || false)) || (c || d)) ≡ ((a || c) || (b || d))
      shuffle true b c d = refl
      shuffle false true true d = refl
      shuffle false true false d = refl
      shuffle false false true d = refl
      shuffle false false false d = refl

  -- of a sequence that is not pruned and one more rule, the segments that end in that rule decide
  pub pruned_next : (q : Sequence) (r : ℕ) → pruned marked q ≡ false
      → pruned marked (q ++ (r ∷ [])) ≡ any marked (suffixes (q ++ (r ∷ [])))
  pruned_next q r h = pruned_snoc q r ∙ ap (λ b. b || any marked (suffixes (q ++ (r ∷ [])))) h

  -- and of those only the short ones, where nothing longer is marked
  pub pruned_next-short : (n : ℕ) → ((b : Sequence) → n < length b → marked b ≡ false) → (q : Sequence) (r : ℕ)
      → pruned marked q ≡ false
      → pruned marked (q ++ (r ∷ [])) ≡ any marked (short_suffixes n (q ++ (r ∷ [])))
  pruned_next-short n short q r h =
      pruned_next q r h ∙ sym (any-keep marked (λ b. leb (length b) n) (suffixes (q ++ (r ∷ []))) fits)
    where
      fits : (b : Sequence) → marked b ≡ true → leb (length b) n ≡ true
      fits b k = go (passes? (leb (length b) n))
        where
          go : (leb (length b) n ≡ true) ⊎ (leb (length b) n ≡ false) → leb (length b) n ≡ true
          go (inl e) = e
          go (inr e) = not-both k (short b (leb-false (length b) n e))

-- ── The recursion with the test of one more rule ─────────────────────────────────────────────────

-- two tests that agree on one more rule to what may be visited lead the recursion the same way
pub explore-same : {A : Type 0} (step : ℕ → A → Option A) (m : ℕ) (may may' : Sequence → A → Bool)
    → ((q : Sequence) (r : ℕ) (s t : A) → Numbered m (q ++ (r ∷ [])) → may q s ≡ true → step r s ≡ some t
    → may (q ++ (r ∷ [])) t ≡ may' (q ++ (r ∷ [])) t)
    → (n : ℕ) (q : Sequence) (s : A) → Numbered m q → may q s ≡ true
    → explore step m may n q s ≡ explore step m may' n q s
explore-same step m may may' agree zero q s k h = refl
explore-same {A} step m may may' agree (suc n) q s k h =
    ap {B =
    List Sequence} (λ l. q ∷ l) (flat-same (visit may) (visit may') (numbers m)
    (λ r d. go r (longer r d) (λ t. explore-same step m may may' agree n (q ++ (r ∷ [])) t (longer r d))
    (step r s) refl))
  where
    longer : (r : ℕ) → r ∈ numbers m → Numbered m (q ++ (r ∷ []))
    longer r d = let w = of-numbers m d in numbered-append m q (r ∷ []) k (w.0, w.1, tt)

    visit : (Sequence → A → Bool) → ℕ → List Sequence
    visit f r = enter (f (q ++ (r ∷ []))) (step r s) (explore step m f n (q ++ (r ∷ [])))

    Same : ℕ → A → Type 0
    Same r t =
        may (q ++ (r ∷ [])) t ≡ true → explore step m may n (q ++ (r ∷ [])) t ≡ explore step m may' n (q ++ (r ∷ [])) t

    tested : (r : ℕ) (t : A) → Same r t → (b : Bool) → may (q ++ (r ∷ [])) t ≡ b
        → cond b (explore step m may n (q ++ (r ∷ [])) t) [] ≡ cond b (explore step m may' n (q ++ (r ∷ [])) t) []
    tested r t ih true e = ih e
    tested r t ih false e = refl

    go : (r : ℕ) → Numbered m (q ++ (r ∷ [])) → ((t : A) → Same r t) → (o : Option A) → step r s ≡ o
        → enter (may (q ++ (r ∷ []))) o (explore step m may n (q ++ (r ∷ [])))
        ≡ enter (may' (q ++ (r ∷ []))) o (explore step m may' n (q ++ (r ∷ [])))
    go r l ih none p = refl
    go r l ih (some t) p =
        tested r t (ih t) (may (q ++ (r ∷ [])) t) refl
        ∙ ap (λ b. cond b (explore step m may' n (q ++ (r ∷ [])) t) []) (agree q r s t l h p)

-- where nothing longer than n is marked, the recursion may use that test
pub visited-explore_next : {A : Type 0} (step : ℕ → A → Option A) (cost : ℕ → ℕ) (m : ℕ) (marked : Sequence → Bool)
    (start : A) (max_cost n : ℕ)
    → ((b : Sequence) → n < length b → marked b ≡ false) → (max_moves : ℕ)
    → visited step cost m marked start max_moves max_cost
    ≡ explore step m (λ q _. allowed_next cost marked max_cost n q) max_moves [] start
visited-explore_next step cost m marked start max_cost n short max_moves =
    visited-explore step cost m marked start max_cost max_moves
    ∙ explore-same step m (λ q _. allowed cost marked max_cost q) (λ q _. allowed_next cost marked max_cost n q)
    (λ q r s t k h p. agree q r h) max_moves [] start tt
    (in-allowed cost marked max_cost [] zero-le refl)
  where
    agree : (q : Sequence) (r : ℕ) → allowed cost marked max_cost q ≡ true
        → allowed cost marked max_cost (q ++ (r ∷ [])) ≡ allowed_next cost marked max_cost n (q ++ (r ∷ []))
    agree q r h =
        ap (λ b. leb (cost_of cost (q ++ (r ∷ []))) max_cost && not b)
        (pruned_next-short marked n short q r (of-allowed cost marked max_cost q h).1)

-- ── The recursion that carries something along ───────────────────────────────────────────────────

module _ {A C : Type 0} (step : ℕ → A → Option A) (m : ℕ) (may : Sequence → A → Bool) (start : A)
    (note : Sequence → A → C → C) (note_of : Sequence → C → C)
    (agree : (q : Sequence) (s : A) (c : C) → run step q start ≡ some s → note q s c ≡ note_of q c) where
  fold-flat : (f : ℕ → List Sequence) (rs : List ℕ) (c : C)
      → fold_over note_of c (flat f rs) ≡ fold_over (λ r c'. fold_over note_of c' (f r)) c rs
  fold-flat f [] c = refl
  fold-flat f (r ∷ rs) c = fold-append note_of (f r) (flat f rs) c ∙ fold-flat f rs (fold_over note_of c (f r))

  abbrev Folds : ℕ → Type 0
  Folds n =
      (q : Sequence) (s : A) (c : C) → run step q start ≡ some s
      → explore_with step m may note n q s c ≡ fold_over note_of c (explore step m may n q s)

  fold_child : (n : ℕ) → Folds n → (q : Sequence) (s : A) → run step q start ≡ some s → (r : ℕ) (c : C)
      → enter_with c (may (q ++ (r ∷ []))) (step r s) (λ t. explore_with step m may note n (q ++ (r ∷ [])) t c)
      ≡ fold_over note_of c (enter (may (q ++ (r ∷ []))) (step r s) (explore step m may n (q ++ (r ∷ []))))
  fold_child n ih q s e r c = go (step r s) refl
    where
      next : Sequence
      next = q ++ (r ∷ [])

      run_in : run step next start ≡ and_then (step r s) some
      run_in = run-append step q (r ∷ []) start ∙ ap (λ o. and_then o (run step (r ∷ []))) e

      tested : (t : A) → step r s ≡ some t → (b : Bool)
          → cond b (explore_with step m may note n next t c) c
          ≡ fold_over note_of c (cond b (explore step m may n next t) [])
      tested t p true = ih next t c (run_in ∙ ap (λ o. and_then o some) p)
      tested t p false = refl

      go : (o : Option A) → step r s ≡ o → enter_with c (may next) o (λ t. explore_with step m may note n next t c)
          ≡ fold_over note_of c (enter (may next) o (explore step m may n next))
      go none p = refl
      go (some t) p = tested t p (may next t)

  -- it is the fold over what the recursion visits, where the note can be told from the sequence
  pub explore_fold : (n : ℕ) (q : Sequence) (s : A) (c : C) → run step q start ≡ some s
      → explore_with step m may note n q s c ≡ fold_over note_of c (explore step m may n q s)
  explore_fold zero q s c e = agree q s c e
  explore_fold (suc n) q s c e =
      ap (λ c'. fold_over visit c' (numbers m)) (agree q s c e)
      ∙ ap (λ f. fold_over f (note_of q c) (numbers m))
      (fun_ext (λ r. fun_ext (λ c'. fold_child n (explore_fold n) q s e r c')))
      ∙ sym (fold-flat list (numbers m) (note_of q c))
    where
      visit : ℕ → C → C
      visit r c' =
          enter_with c' (may (q ++ (r ∷ []))) (step r s) (λ t. explore_with step m may note n (q ++ (r ∷ [])) t c')

      list : ℕ → List Sequence
      list r = enter (may (q ++ (r ∷ []))) (step r s) (explore step m may n (q ++ (r ∷ [])))
