-- The fold that notes a list of sequences one by one: the steps are their number up to the limit, the limit is exceeded
-- exactly if their number is above it, the best plan is the best of the first ones that pass the test, as many as the
-- limit, and the least cost beyond the limit is that of the others.
-- Assumes nothing.
use mathlib.Core.Path.{◌≡◌, refl, sym, ap, ◌∙◌, subst}
use mathlib.Core.Bool.{Bool, true, false, cond, ◌&&◌}
use mathlib.Core.Option.{Option, some, none}
use mathlib.Core.List.{List, [], ◌∷◌}
use Prim.Native.Nat.{ℕ, zero, suc, ◌+◌, ◌-◌, ◌≤◌, min}
use native.Mathlib.Nat.{zero-add}
use native.Mathlib.Omega.{arith}
use lib.Dec.{ltb}
use lib.ListN.{length, take, drop}
use borrow.Author.Tests.{ltb-true, ltb-false, lt-ltb, le-ltb}
use Rattle.theory_spec.specs.How.Folds.{fold_over}
use Rattle.theory_spec.specs.Sequences.{Sequence, cost_of}
use Rattle.theory_spec.specs.Frontier.{least_cost}
use Rattle.theory_spec.specs.How.Recursion.{better, improved, best_after, best}
use Rattle.theory_spec.proofs.FloorLaws.{least-min}
use Rattle.model_spec.specs.States.{State}
use Rattle.search_spec.specs.Query.{meets_goal}
use Rattle.std.specs.Prelude.{Option as Held, Some}
use Rattle.search_laws.specs.How.Visits.{replaces, as_plan, best_at, noted_moves, noted, no_progress, as_best}
use Rattle.search_laws.specs.declared.Plan.{Plan}
use Rattle.search_laws.specs.declared.Progress.{Progress}

module _ (cost : ℕ → ℕ) (limit : ℕ) where
  -- the best plan after q, and what visiting q makes of the progress, where `good` says whether q leads to the goal
  abbrev pub best_as : Bool → Sequence → Held Plan → Held Plan
  best_as good q b = cond (good && replaces b (cost_of cost q) (length q)) (Some (as_plan (cost_of cost q) q)) b

  abbrev pub noted_as : Bool → Sequence → Progress → Progress
  noted_as good q p =
      cond (ltb p.steps limit) (record {
        steps = p.steps + 1;
        exceeded = false;
        best = best_as good q p.best;
        least = p.least;
      })
      (record { steps = p.steps; exceeded = true; best = p.best; least = min p.least (cost_of cost q) })

  -- that is what the search notes
  pub noted_as_lem : (goal : List ℕ) (q : Sequence) (s : State) (p : Progress)
      → noted goal limit (cost_of cost q) q s p ≡ noted_as (meets_goal goal s) q p
  unfolding noted noted_moves best_at as_plan
  noted_as_lem goal q s p = refl

  -- where the sequence itself tells whether it leads to the goal
  module _ (good : Sequence → Bool) where
    abbrev pub note_of : Sequence → Progress → Progress
    note_of q = noted_as (good q) q

    -- the progress after n steps, with the best plan c and the least cost f
    abbrev at : ℕ → Option Sequence → ℕ → Progress
    at n c f = record { steps = n; exceeded = false; best = as_best (cost_of cost) c; least = f }

    -- the best plan after q
    best_next : (q : Sequence) (c : Option Sequence)
        → best_as (good q) q (as_best (cost_of cost) c) ≡ as_best (cost_of cost) (best_after cost good q c)
    unfolding replaces as_plan as_best
    best_next q c = go (good q) c
      where
        chosen : (b : Bool) (p : Sequence) → cond b (as_best (cost_of cost) (some q)) (as_best (cost_of cost) (some p))
            ≡ as_best (cost_of cost) (cond b (some q) (some p))
        chosen true p = refl
        chosen false p = refl

        go : (b : Bool) (c : Option Sequence) → best_as b q (as_best (cost_of cost) c)
            ≡ as_best (cost_of cost) (cond b (improved cost q c) c)
        go true none = refl
        go true (some p) = chosen (better cost q p) p
        go false c = refl

    -- once the limit is exceeded only the least cost falls, to that of what is met
    fold_exceeded : (l : List Sequence) (n : ℕ) (b : Held Plan) (f : ℕ) → limit ≤ n
        → fold_over note_of (record { steps = n; exceeded = true; best = b; least = f }) l
        ≡ record { steps = n; exceeded = true; best = b; least = least_cost cost f l }
    fold_exceeded [] n b f h = refl
    fold_exceeded (q ∷ l) n b f h =
        ap (λ t. fold_over note_of (cond t (record {
          steps = n + 1;
          exceeded = false;
          best = best_as (good q) q b;
          least =
              f;
        }) (record { steps = n; exceeded = true; best = b; least = min f (cost_of cost q) })) l) (le-ltb n limit h)
        ∙ fold_exceeded l n b (min f (cost_of cost q)) h
        ∙ ap (λ g. record { steps = n; exceeded = true; best = b; least = g }) (least-min cost f (cost_of cost q) l)

    -- what the progress p is after n steps and the sequences of a list
    abbrev Counts : ℕ → Option Sequence → ℕ → List Sequence → Progress → Type 0
    Counts n c f l p =
        (p.steps ≡ min (n + length l) limit) × (p.exceeded ≡ ltb limit (n + length l))
        × (p.best ≡ as_best (cost_of cost) (best cost good c (take (limit - n) l)))
        × (p.least ≡ least_cost cost f (drop (limit - n) l))

    -- from n steps within the limit, by induction over the list
    fold-counts : (l : List Sequence) (n : ℕ) (c : Option Sequence) (f : ℕ) → n ≤ limit
        → Counts n c f l (fold_over note_of (at n c f) l)
    fold-counts [] n c f h =
        (omega arith, sym (le-ltb limit (n + 0) (omega arith)), none_taken (limit - n), none_left (limit - n))
      where
        none_taken : (k : ℕ) → as_best (cost_of cost) c ≡ as_best (cost_of cost) (best cost good c (take k []))
        none_taken zero = refl
        none_taken (suc k) = refl

        none_left : (k : ℕ) → f ≡ least_cost cost f (drop k [])
        none_left zero = refl
        none_left (suc k) = refl
    fold-counts (q ∷ l) n c f h = go (ltb n limit) refl (fold-counts l (n + 1) (best_after cost good q c) f)
      where
        next : Bool → Progress
        next b =
            cond b (record {
              steps = n + 1;
              exceeded = false;
              best = best_as (good q) q (as_best (cost_of cost) c);
              least =
                  f;
            })
            (record { steps = n; exceeded = true; best = as_best (cost_of cost) c; least = min f (cost_of cost q) })

        go : (b : Bool) → ltb n limit ≡ b → (n + 1 ≤ limit
            → Counts (n + 1) (best_after cost good q c) f l (fold_over note_of (at (n + 1) (best_after cost good q c) f) l))
            → Counts n c f (q ∷ l) (fold_over note_of (next b) l)
        go true e ih =
            let k = ltb-true n limit e in
            let w = ih (omega arith) in
            let s : (n + 1) + length l ≡ n + length (q ∷ l) = omega arith in
            let d : limit - n ≡ suc (limit - (n + 1)) = omega arith in
            subst (λ (b : Held Plan). Counts n c f (q ∷ l)
            (fold_over note_of (record { steps = n + 1; exceeded = false; best = b; least = f }) l))
            (sym (best_next q c)) (
              w.0 ∙ ap (λ m. min m limit) s,
              w.1 ∙ ap (ltb limit) s,
              w.2
                  ∙ sym (ap (λ m. as_best (cost_of cost) (best cost good c (take m (q ∷ l)))) d),
              w.3
                  ∙ sym (ap (λ m. least_cost cost f (drop m (q ∷ l))) d),
            )
        go false e ih =
            let k = ltb-false n limit e in
            let d : limit - n ≡ 0 = omega arith in
            subst (Counts n c f (q ∷ l)) (sym (fold_exceeded l n (as_best (cost_of cost) c) (min f (cost_of cost q)) k)) (
              omega arith,
              sym (lt-ltb limit (n + length (q ∷ l)) (omega arith)),
              sym (ap (λ m. as_best (cost_of cost) (best cost good c (take m (q ∷ l)))) d),
              least-min cost f (cost_of cost q) l ∙ sym (ap (λ m. least_cost cost f (drop m (q ∷ l))) d),
            )

    -- the same from the beginning
    pub fold_progress : (l : List Sequence)
        → fold_over note_of no_progress l
        ≡ record {
          steps = min (length l) limit;
          exceeded = ltb limit (length l);
          best = as_best (cost_of cost) (best cost good none (take limit l));
          least = least_cost cost 65535 (drop limit l);
        }
    unfolding no_progress as_best
    fold_progress l =
        let w = fold-counts l 0 none 65535 (omega arith) in
        let s = zero-add (length l) in
        let d : limit - 0 ≡ limit = omega arith in
        let steps = w.0 ∙ ap (λ n. min n limit) s in
        let exceeded = w.1 ∙ ap (ltb limit) s in
        let taken = w.2 ∙ ap (λ n. as_best (cost_of cost) (best cost good none (take n l))) d in
        let least = w.3 ∙ ap (λ n. least_cost cost 65535 (drop n l)) d in
        λ i. record { steps = steps i; exceeded = exceeded i; best = taken i; least = least i }
