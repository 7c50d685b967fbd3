-- What the lists of a query's definitions hold: the visited sequences are the unpruned ones that can be run within both
-- bounds, and the plans are all sequences that lead to the goal within both.
-- Assumes nothing.
use mathlib.Core.Path.{◌≡◌, ap, ◌∙◌}
use mathlib.Core.Logic.{◌↔◌, ◌≢◌}
use mathlib.Core.Bool.{Bool, true, false}
use mathlib.Core.List.{List, ◌++◌}
use Prim.Native.Nat.{ℕ}
use native.Mathlib.Omega.{arith}
use lib.ListN.{length, get_or, length-append}
use Rattle.theory_spec.specs.Lists.{◌∈◌, keep, is_some, Pairwise}
use Rattle.theory_spec.specs.Sequences.{Sequence, run, sequences, depth_first}
use Rattle.theory_spec.specs.Order.{LexBefore, Before}
use Rattle.theory_spec.specs.Pruning.{pruned}
use Rattle.theory_spec.specs.Plans.{is_plan, allowed, is_visited}
use Rattle.theory_spec.proofs.ListLaws.{never_true, of-is_some, and_split, and_join, not-both, in-keep, of-keep}
use Rattle.theory_spec.proofs.ListLaws.{pairwise-keep}
use Rattle.theory_spec.proofs.SequenceLaws.{numbered_left, of-sequences, in-sequences, of-depth_first}
use Rattle.theory_spec.proofs.SequenceLaws.{in-depth_first}
use Rattle.theory_spec.proofs.OrderLaws.{sequences-ordered, depth_first-ordered, depth_first_distinct}
use Rattle.theory_spec.proofs.PruningLaws.{pruned-segment, segment-pruned, of-plan, in-plan}
use Rattle.theory_spec.proofs.TestLaws.{ltb_iff, eqb_iff, and_iff, unless_iff, every-below_iff}
use Rattle.theory_spec.proofs.VisitLaws.{of-allowed, in-allowed, visited_prefix}
use Rattle.model_spec.specs.States.{State}
use Rattle.model_spec.specs.Rules.{step_of, rule_cost, run_in, sequence_cost}
use Rattle.model_spec.specs.declared.RuleSet.{RuleSet}
use Rattle.tables_spec.specs.Table.{marked}
use Rattle.tables_spec.proofs.TableLaws.{marked_iff}
use Rattle.search_spec.specs.Query.{
  Query,
  start_fits,
  any_value,
  goal_fits,
  start_state,
  meets_goal,
  visited_by,
  plans_for,
  StartFits,
  GoalFits,
  RunsWithin,
  MeetsGoal,
  LeadsToGoal,
  Unpruned,
}

-- the tests of a query's start and goal are the statements
pub start-fits_iff : (set : RuleSet) (start : List ℕ) → (start_fits set start ≡ true) ↔ StartFits set start
unfolding start_fits
start-fits_iff set start =
    and_iff _ _ (eqb_iff (length start) set.positions)
    (every-below_iff _ _ (λ i. ltb_iff (get_or start i 0) (get_or set.sizes i 0)) set.positions)

pub goal-fits_iff : (set : RuleSet) (goal : List ℕ) → (goal_fits set goal ≡ true) ↔ GoalFits set goal
unfolding goal_fits
goal-fits_iff set goal =
    and_iff _ _ (eqb_iff (length goal) set.positions)
    (every-below_iff _ _ (λ i. unless_iff _ _ (eqb_iff (get_or goal i 0) any_value)
    (ltb_iff (get_or goal i 0) (get_or set.sizes i 0))) set.positions)

-- and so is the test of a state that meets the goal
pub meets_goal_iff : (goal : List ℕ) (s : State) → (meets_goal goal s ≡ true) ↔ MeetsGoal goal s
unfolding meets_goal
meets_goal_iff goal s =
    every-below_iff _ _ (λ i. unless_iff _ _ (eqb_iff (get_or goal i 0) any_value) (eqb_iff (get_or s i 0) (get_or goal i 0)))
    (length goal)

module _ (set : RuleSet) (query : Query) where
  abbrev marks : Sequence → Bool
  marks = marked set query.reach query.table

  abbrev visits : Sequence → Bool
  visits = is_visited (step_of set) (rule_cost set) marks (start_state query) query.max_cost

  abbrev leads : Sequence → Bool
  leads = is_plan (step_of set) (rule_cost set) (start_state query) (meets_goal query.goal) query.max_cost

  -- the test of pruning is the statement over all segments
  pub unpruned_iff : (q : Sequence) → (pruned marks q ≡ false) ↔ Unpruned set query q
  unpruned_iff q = (down, up)
    where
      down : pruned marks q ≡ false → Unpruned set query q
      down h x b y e k m =
          not-both (ap (pruned marks) e ∙ segment-pruned marks x b y k
          ((marked_iff set query.reach query.table b).1 m)) h

      up : Unpruned set query q → pruned marks q ≡ false
      up h =
          never_true (pruned marks q) (λ e. let w = pruned-segment marks q e in
          h w.2.1.0 w.0 w.2.1.1 w.2.1.2 w.2.0
          ((marked_iff set query.reach query.table w.0).0 w.1))

  -- the visited sequences are exactly the unpruned ones that can be run from the start within both bounds
  pub visited_iff : (q : Sequence) → (q ∈ visited_by set query) ↔ (RunsWithin set query q × Unpruned set query q)
  unfolding visited_by run_in sequence_cost
  visited_iff q = (down, up)
    where
      down : q ∈ keep visits (depth_first set.count query.max_moves) → RunsWithin set query q × Unpruned set query q
      down d =
          let w = of-keep visits (depth_first set.count query.max_moves) d in
          let inside = of-depth_first set.count query.max_moves w.0 in
          let both = and_split (is_some (run (step_of set) q (start_state query)))
          (allowed (rule_cost set) marks query.max_cost q) w.1 in
          let end = of-is_some (run (step_of set) q (start_state query)) both.0 in
          let may = of-allowed (rule_cost set) marks query.max_cost q both.1 in (
            record { rules = inside.1; moves = inside.0; costs = may.0; end = end.0; runs = end.1 },
            (unpruned_iff q).0 may.1,
          )

      up : RunsWithin set query q × Unpruned set query q → q ∈ keep visits (depth_first set.count query.max_moves)
      up h =
          in-keep visits (in-depth_first set.count query.max_moves q h.0.moves h.0.rules)
          (and_join (ap is_some h.0.runs) (in-allowed (rule_cost set) marks query.max_cost q h.0.costs
          ((unpruned_iff q).1 h.1)))

  -- no sequence is visited twice
  pub visited-once : Pairwise (λ (a b : Sequence). a ≢ b) (visited_by set query)
  unfolding visited_by
  visited-once =
      pairwise-keep (λ (a b : Sequence). a ≢ b) visits (depth_first set.count query.max_moves)
      (depth_first_distinct set.count query.max_moves)

  -- they stand in depth-first order
  pub visited-ordered : Pairwise LexBefore (visited_by set query)
  unfolding visited_by
  visited-ordered =
      pairwise-keep LexBefore visits (depth_first set.count query.max_moves)
      (depth_first-ordered set.count query.max_moves)

  -- the front of a visited sequence is visited
  pub visited_closed : (x y : Sequence) → (x ++ y) ∈ visited_by set query → x ∈ visited_by set query
  unfolding visited_by
  visited_closed x y d =
      let w = of-keep visits (depth_first set.count query.max_moves) d in
      let inside = of-depth_first set.count query.max_moves w.0 in
      in-keep visits
      (in-depth_first set.count query.max_moves x (omega (arith, length-append x y, inside.0))
      (numbered_left set.count x y inside.1))
      (visited_prefix (step_of set) (rule_cost set) set.count marks (start_state query) query.max_cost x y w.1)

  -- the plans are exactly the rule sequences that lead to the goal within both bounds, pruned or not
  pub plans_iff : (q : Sequence) → (q ∈ plans_for set query) ↔ LeadsToGoal set query q
  unfolding plans_for run_in sequence_cost
  plans_iff q = (down, up)
    where
      down : q ∈ keep leads (sequences set.count query.max_moves) → LeadsToGoal set query q
      down d =
          let w = of-keep leads (sequences set.count query.max_moves) d in
          let inside = of-sequences set.count query.max_moves w.0 in
          let p = of-plan (step_of set) (rule_cost set) (start_state query) (meets_goal query.goal) query.max_cost q
          w.1 in
          record {
            runs_within = record { rules = inside.1; moves = inside.0; costs = p.3; end = p.0; runs = p.1 };
            at_goal = (meets_goal_iff query.goal p.0).0 p.2;
          }

      up : LeadsToGoal set query q → q ∈ keep leads (sequences set.count query.max_moves)
      up h =
          in-keep leads (in-sequences set.count query.max_moves q h.runs_within.moves h.runs_within.rules)
          (in-plan (step_of set) (rule_cost set) (start_state query) (meets_goal query.goal) query.max_cost q
          h.runs_within.end h.runs_within.runs
          ((meets_goal_iff query.goal h.runs_within.end).1 h.at_goal) h.runs_within.costs)

  -- the plans stand in document 01's order
  pub plans-ordered : Pairwise Before (plans_for set query)
  unfolding plans_for
  plans-ordered =
      pairwise-keep Before leads (sequences set.count query.max_moves)
      (sequences-ordered set.count query.max_moves)
