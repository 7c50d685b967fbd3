-- What an explanation tells, as statements over all rule sequences and states: each outcome and each reason exactly if,
-- the move, the position and the costs that a reason names, and the marked segment with its witness. What the visited
-- sequences and those that are looked at are, `SearchMeaning` says (`search_spec`).
use Rattle.std.specs.Prelude.{◌≡◌, ◌⊎◌, ◌↔◌, ◌≢◌, List, [], ◌++◌, ℕ, ◌-◌, ◌*◌, ◌≤◌, ◌<◌, length, get_or, take}
use Rattle.std.proofs.Math.Option.{some, none}
use Rattle.theory_spec.specs.Lists.{padded}
use Rattle.theory_spec.specs.Sequences.{Sequence, Numbered}
use Rattle.theory_spec.specs.Order.{Before}
use Rattle.theory_spec.specs.Plans.{Preferred}
use Rattle.model_spec.specs.Limits.{move_limit}
use Rattle.model_spec.specs.States.{State}
use Rattle.model_spec.specs.Rules.{run_in, sequence_cost, rule_cost, RedundantIn}
use Rattle.model_spec.specs.Validity.{Valid}
use Rattle.model_spec.specs.declared.RuleSet.{RuleSet}
use Rattle.tables_spec.specs.Table.{table_entries, sequence_at, kept, entry_at, Accepted, Marked}
use Rattle.tables_spec.specs.Answers.{ReachLimits, Ready}
use Rattle.search_spec.specs.Query.{Query, any_value, start_state, visited_by}
use Rattle.search_spec.specs.Query.{StartFits, GoalFits, RunsWithin, MeetsGoal, LeadsToGoal, Unpruned}
use Rattle.search_spec.specs.Looked.{LookedPlan}
use Rattle.search_spec.specs.Searched.{StartPassed, GoalPassed, MovesPassed, searched}
use Rattle.search_spec.specs.PlanPart.{part_of}
use Rattle.explain_spec.specs.Explained.{bare}
use Rattle.explain_spec.specs.declared.Explanation.{Explanation}

-- ── What has been passed ─────────────────────────────────────────────────────────────────────────

-- the query has no fault; nothing is asked of a plan buffer, since none is lent
abbrev pub TablePassed : RuleSet → Query → Type 0
TablePassed set query = MovesPassed set query × Accepted set query.reach query.table

-- and the proposal's moves are rules' numbers
abbrev pub ProposalPassed : RuleSet → Query → Sequence → Type 0
ProposalPassed set query q = TablePassed set query × Numbered set.count q

-- and the sequences to visit are more than the step limit
abbrev pub Unfinished : RuleSet → Query → Sequence → Type 0
Unfinished set query q = ProposalPassed set query q × (query.step_limit < length (visited_by set query))

-- or they are not: the search is finished, and there is a reason
abbrev pub Finished : RuleSet → Query → Sequence → Type 0
Finished set query q = ProposalPassed set query q × (length (visited_by set query) ≤ query.step_limit)

-- ── Moves, positions and the plan ────────────────────────────────────────────────────────────────

-- move k is the first that fails: the sequence can be run up to the move before it, and not up to it
pub record FailsAt (set : RuleSet) (query : Query) (q : Sequence) (k : ℕ) : Type 0 where
  pub inside : (1 ≤ k) × (k ≤ length q)
  pub stuck : run_in set (take k q) (start_state query) ≡ none
  pub before : State
  pub runs : run_in set (take (k - 1) q) (start_state query) ≡ some before

-- move k is the first with which the sequence costs more than the cost bound
pub record PassesAt (set : RuleSet) (query : Query) (q : Sequence) (k : ℕ) : Type 0 where
  pub inside : (1 ≤ k) × (k ≤ length q)
  pub above : query.max_cost < sequence_cost set (take k q)
  pub below : sequence_cost set (take (k - 1) q) ≤ query.max_cost

-- position i, from 1, is the lowest at which a state is not what the goal asks for
pub record WrongAt (goal : List ℕ) (s : State) (i : ℕ) : Type 0 where
  pub inside : (1 ≤ i) × (i ≤ length goal)
  pub asks : get_or goal (i - 1) 0 ≢ any_value
  pub differs : get_or s (i - 1) 0 ≢ get_or goal (i - 1) 0
  pub lower : (j : ℕ) → j < i - 1 → (get_or goal j 0 ≡ any_value → ⊥) → get_or s j 0 ≡ get_or goal j 0

-- p is the plan: it leads to the goal within both bounds, and is preferred to every other sequence that does, pruned or
-- not
pub record ThePlan (set : RuleSet) (query : Query) (p : Sequence) : Type 0 where
  pub leads : LeadsToGoal set query p
  pub best : (q : Sequence) → LeadsToGoal set query q → (q ≡ p) ⊎ Preferred (rule_cost set) p q

-- the sequence can be run from the start, to the state t
abbrev pub RunsTo : RuleSet → Query → Sequence → State → Type 0
RunsTo set query q t = run_in set q (start_state query) ≡ some t

-- ── The marked segment ───────────────────────────────────────────────────────────────────────────

-- a segment of q, with what stands before and behind it, that is marked: its index in the table, and the witness that
-- the table names there, with which it is redundant over all states
pub record MarkedSegment (set : RuleSet) (query : Query) (q : Sequence) (answer : Explanation) : Type 0 where
  pub before : Sequence
  pub segment : Sequence
  pub behind : Sequence
  pub splits : q ≡ before ++ segment ++ behind
  pub end : answer.segment_end ≡ length (before ++ segment)
  pub moves : answer.segment_length ≡ length segment
  pub index : ℕ
  pub in_table : index < table_entries set query.reach
  pub at_index : sequence_at set query.reach index ≡ segment
  pub mark : entry_at query.table index ≢ kept
  pub witness : Sequence
  pub named : witness ≡ sequence_at set query.reach (entry_at query.table index)
  pub earlier : Before witness segment
  pub redundant_with : RedundantIn set segment witness
  pub witness_length : answer.witness_length ≡ length witness
  pub witness_rules : answer.witness ≡ padded 3 0 witness
  pub witness_short : length witness ≤ 3

-- ── The explanation ──────────────────────────────────────────────────────────────────────────────

pub record ExplanationMeaning (set : RuleSet) (query : Query) (q : Sequence) (answer : Explanation) : Type 0 where
  -- the outcome: each number exactly if its cause holds and none before it does, 0 exactly if none holds
  pub not_valid : (answer.outcome ≡ 7) ↔ (Valid set → ⊥)
  pub bad_reach : (answer.outcome ≡ 5) ↔ (Valid set × (ReachLimits query.reach → ⊥))
  pub bad_length : (answer.outcome ≡ 6)
      ↔ (Valid set × (ReachLimits query.reach × (length query.table ≢ 2 * table_entries set query.reach)))
  pub bad_start : (answer.outcome ≡ 9)
      ↔ (Ready set query.reach (length query.table) × (StartFits set query.start → ⊥))
  pub bad_goal : (answer.outcome ≡ 10) ↔ (StartPassed set query × (GoalFits set query.goal → ⊥))
  pub many_moves : (answer.outcome ≡ 11) ↔ (GoalPassed set query × (move_limit < query.max_moves))
  pub not_accepted : (answer.outcome ≡ 14)
      ↔ (MovesPassed set query × (Accepted set query.reach query.table → ⊥))
  pub unknown_move : (answer.outcome ≡ 13) ↔ (TablePassed set query × (Numbered set.count q → ⊥))
  pub plan_at_limit : (answer.outcome ≡ 18)
      ↔ (Unfinished set query q × ((p : Sequence) × LookedPlan set query p))
  pub none_at_limit : (answer.outcome ≡ 16)
      ↔ (Unfinished set query q × ((p : Sequence) → LookedPlan set query p → ⊥))
  pub unsolvable : (answer.outcome ≡ 15) ↔ (Finished set query q × ((p : Sequence) → LeadsToGoal set query p → ⊥))
  pub solved : (answer.outcome ≡ 0) ↔ (Finished set query q × ((p : Sequence) × LeadsToGoal set query p))
  -- no plan buffer is lent: 12 is never given
  pub no_buffer : answer.outcome ≢ 12
  -- but for 13 it is the search's, whatever plan buffer of at least the move bound is lent to that
  pub as_searched : (room : ℕ) → query.max_moves ≤ room → answer.outcome ≢ 13
      → answer.outcome ≡ (searched set query room).answer.outcome
  -- every outcome but 0 and 15 stands alone: it names no reason, move, position, cost, segment or witness
  pub alone : answer.outcome ≢ 0 → answer.outcome ≢ 15 → answer ≡ bare answer.outcome
  -- the reason, one of seven: each exactly if it holds and none before it does
  pub reasoned : Finished set query q → (1 ≤ answer.reason) × (answer.reason ≤ 7)
  pub over_moves : (answer.reason ≡ 1) ↔ (Finished set query q × (query.max_moves < length q))
  pub cannot_run : (answer.reason ≡ 2)
      ↔ (Finished set query q
      × ((length q ≤ query.max_moves) × (run_in set q (start_state query) ≡ none)))
  pub over_cost : (answer.reason ≡ 3)
      ↔ (Finished set query q
      × ((length q ≤ query.max_moves) × ((t : State) × RunsTo set query q t) × (query.max_cost < sequence_cost set q)))
  pub off_goal : (answer.reason ≡ 4)
      ↔ (Finished set query q × ((r : RunsWithin set query q) × (MeetsGoal query.goal r.end → ⊥)))
  pub dearer : (answer.reason ≡ 5)
      ↔ (Finished set query q
      × (LeadsToGoal set query q
      × ((p : Sequence) × ThePlan set query p × (sequence_cost set p < sequence_cost set q))))
  pub later : (answer.reason ≡ 6)
      ↔ (Finished set query q
      × (LeadsToGoal set query q
      × ((p : Sequence) × ThePlan set query p × (sequence_cost set p ≡ sequence_cost set q) × Before p q)))
  pub is_the_plan : (answer.reason ≡ 7) ↔ (Finished set query q × ThePlan set query q)
  -- it is the plan exactly if the search gives it with outcome 0, whatever plan buffer of at least the move bound is
  -- lent
  pub search_shows : (room : ℕ) → query.max_moves ≤ room
      → (answer.reason ≡ 7)
      ↔ (((searched set query room).answer.outcome ≡ 0) × (part_of (searched set query room) ≡ q))
  -- what a reason names
  pub failing : answer.reason ≡ 2 → FailsAt set query q answer.place
  pub passing : answer.reason ≡ 3 → PassesAt set query q answer.place
  pub wrong : answer.reason ≡ 4 → (t : State) × RunsTo set query q t × WrongAt query.goal t answer.place
  pub no_place : answer.reason ≢ 2 → answer.reason ≢ 3 → answer.reason ≢ 4 → answer.place ≡ 0
  pub costs : answer.reason ≡ 5
      → (answer.cost ≡ sequence_cost set q)
      × ((p : Sequence) × ThePlan set query p × (answer.plan_cost ≡ sequence_cost set p))
  pub no_costs : answer.reason ≢ 5 → (answer.cost ≡ 0) × (answer.plan_cost ≡ 0)
  -- the marked segment: beside a reason there is one exactly if the proposal is pruned; it ends soonest, and is the
  -- shortest of those that end there. The plan has none
  pub segment : (answer.segment_end ≢ 0) ↔ (Finished set query q × (Unpruned set query q → ⊥))
  pub found : answer.segment_end ≢ 0 → MarkedSegment set query q answer
  pub soonest : (x b y : Sequence) → q ≡ x ++ b ++ y → (b ≡ [] → ⊥)
      → Marked set query.reach query.table b
      → (answer.segment_end ≤ length (x ++ b))
      × (answer.segment_end ≡ length (x ++ b) → answer.segment_length ≤ length b)
  pub no_segment : answer.segment_end ≡ 0
      → (answer.segment_length ≡ 0) × (answer.witness_length ≡ 0) × (answer.witness ≡ padded 3 0 [])
  pub plan_unmarked : answer.reason ≡ 7 → answer.segment_end ≡ 0
