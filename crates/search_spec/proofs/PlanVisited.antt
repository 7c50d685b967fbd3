-- Why pruning is safe: the cheapest plan of a query that is not refused is never pruned, so a search that visits the
-- unpruned sequences alone meets it.
-- Source document 000, Theorem 2, with both bounds, for rule sets and accepted tables.
-- Assumes nothing.
use mathlib.Core.Path.{◌≡◌, refl, sym, subst}
use mathlib.Core.Logic.{◌⊎◌, inl, inr}
use mathlib.Core.Bool.{true}
use mathlib.Core.Option.{some}
use mathlib.Core.List.{List, [], ◌∷◌, ◌++◌}
use Prim.Native.Nat.{ℕ, zero, suc, ◌-◌, ◌≤◌, ◌<◌}
use native.Mathlib.Omega.{arith}
use lib.ListN.{length, get_or, replicate, length-append, length-replicate, get_or-eq_default}
use borrow.Author.Tests.{not-false}
use Rattle.theory_spec.specs.Lists.{◌∈◌}
use Rattle.theory_spec.specs.Sequences.{Sequence}
use Rattle.theory_spec.proofs.ListLaws.{zeros_at}
use Rattle.theory_spec.proofs.TestLaws.{below?}
use Rattle.theory_spec.proofs.PruningLaws.{cheapest_not-pruned}
use Rattle.model_spec.specs.States.{width}
use Rattle.model_spec.specs.Rules.{step_of, rule_cost, StateOf}
use Rattle.model_spec.specs.Validity.{valid, WellFormed}
use Rattle.model_spec.specs.declared.RuleSet.{RuleSet}
use Rattle.model_spec.proofs.StateLaws.{width-position, width_beyond}
use Rattle.model_spec.proofs.ValidityLaws.{valid_iff, valid_closed}
use Rattle.tables_spec.specs.Table.{marked, accepted}
use Rattle.tables_spec.specs.Answers.{table_causes}
use Rattle.tables_spec.proofs.TableLaws.{accepted-justified}
use Rattle.search_spec.specs.Query.{Query, start_fits, start_state, meets_goal, visited_by, plans_for, StartFits}
use Rattle.search_spec.specs.Searched.{query_causes, cheapest_plan, NotRefused}
use Rattle.search_spec.proofs.VisitedLaws.{start-fits_iff, unpruned_iff, visited_iff}
use Rattle.search_spec.proofs.Demand.{cheapest-leads}

-- padding by 0 changes no element that is read with the default 0
padded_at : (l : List ℕ) (n i : ℕ) → get_or (l ++ replicate n 0) i 0 ≡ get_or l i 0
padded_at [] n i = zeros_at n i
padded_at (x ∷ l) n zero = refl
padded_at (x ∷ l) n (suc i) = padded_at l n i

module _ (set : RuleSet) (query : Query) where
  -- a start that fits is a state of the sizes
  pub start-state : WellFormed set → start_fits set query.start ≡ true → StateOf set (start_state query)
  start-state v e = (size, below)
    where
      fits : StartFits set query.start
      fits = (start-fits_iff set query.start).0 e

      size : length (start_state query) ≡ 16
      size =
          omega (
            arith,
            length-append query.start (replicate (16 - length query.start) 0),
            length-replicate {A = ℕ} (16 - length query.start) 0,
            fits.0,
            v.position_limits,
          )

      below : (i : ℕ) → i < 16 → get_or (start_state query) i 0 < width set.positions set.sizes i
      below i h =
          subst (λ n. n < width set.positions set.sizes i)
          (sym (padded_at query.start (16 - length query.start) i)) (at (below? i set.positions))
        where
          at : (i < set.positions) ⊎ (set.positions ≤ i)
              → get_or query.start i 0 < width set.positions set.sizes i
          at (inl k) =
              subst (λ n. get_or query.start i 0 < n) (sym (width-position set.positions set.sizes i k))
              (fits.1 i k)
          at (inr k) =
              let z = get_or-eq_default query.start 0 {n = i} (omega (arith, fits.0)) in
              omega (arith, z, width_beyond set.positions set.sizes i k)

  -- what a query has that is not refused: a valid set, a start that fits, an accepted table
  faultless : (room : ℕ) → NotRefused set query room
      → (valid set ≡ true) × (start_fits set query.start ≡ true) × (accepted set query.reach query.table ≡ true)
  unfolding query_causes table_causes
  faultless room h = (
    not-false (valid set) h.0,
    not-false (start_fits set query.start) h.1.1.1.0,
    not-false (accepted set query.reach query.table) h.1.1.1.1.1.1.1.0,
  )

  -- the cheapest plan is visited
  pub plan-visited : (room : ℕ) → NotRefused set query room → (p : Sequence) → cheapest_plan set query ≡ some p
      → p ∈ visited_by set query
  unfolding cheapest_plan plans_for
  plan-visited room h p e =
      let w = faultless room h in
      let v = ((valid_iff set).0 w.0).formed in
      (visited_iff set query p).1 (
        (cheapest-leads set query p e).0.runs_within,
        (unpruned_iff set query p).0
            (cheapest_not-pruned (step_of set) (rule_cost set) set.count (StateOf set) (valid_closed set v)
            (marked set query.reach query.table)
            (accepted-justified set query.reach query.table w.2) (start_state query) (meets_goal query.goal)
            query.max_moves query.max_cost p (start-state v w.1) e),
      )
