-- What the search carries along from the empty sequence on, over what it lends to itself, is what documents 01 and 02
-- ask for: the number of visited sequences up to the step limit, the best plan of these, which is the cheapest of all
-- if the limit is not exceeded, and the least cost of the others.
-- Assumes nothing.
use mathlib.Core.Path.{◌≡◌, refl, sym, ap, ap₂, ◌∙◌, subst, fun_ext}
use mathlib.Core.Bool.{Bool, false, ◌&&◌}
use mathlib.Core.Option.{Option, some, none}
use mathlib.Core.List.{List, [], ◌∷◌, ◌++◌, map}
use Prim.Native.Nat.{ℕ, ◌-◌, ◌≤◌, ◌<◌, zero-le, min}
use native.Mathlib.Omega.{arith}
use lib.Dec.{leb, eqb}
use lib.ListN.{length, get_or, take, get_or-map}
use lib.Seq.{take_all}
use borrow.Author.Tests.{le-leb}
use Rattle.theory_spec.specs.Lists.{only_if, padded}
use Rattle.theory_spec.specs.How.Folds.{fold_over}
use Rattle.theory_spec.specs.Sequences.{Sequence, run, cost_of, Numbered}
use Rattle.theory_spec.specs.How.Indices.{index_of}
use Rattle.theory_spec.specs.Plans.{ends_in, reaches}
use Rattle.theory_spec.specs.How.Recursion.{explore, explore_with, last, allowed_next, best}
use Rattle.theory_spec.proofs.ListLaws.{and_join, never_true}
use Rattle.theory_spec.proofs.VisitLaws.{explore-same, visited-explore_next, explore_fold}
use Rattle.theory_spec.proofs.PlanLaws.{best-first, best-cheapest}
use Rattle.model_spec.specs.States.{State, applicable, successor}
use Rattle.model_spec.specs.Refusals.{first_refusal}
use Rattle.model_spec.specs.Rules.{no_rule, rule_at, step_of, rule_cost, StateOf, sequence_cost}
use Rattle.model_spec.specs.declared.RuleSet.{RuleSet}
use Rattle.model_spec.proofs.ValidityLaws.{valid_closed}
use Rattle.tables_spec.specs.Table.{marked}
use Rattle.tables_spec.proofs.TableLaws.{accepted_iff, marked-short, accepted-justified}
use Rattle.search_spec.specs.Query.{Query, start_state, meets_goal, visited_by, plans_for}
use Rattle.search_spec.specs.Looked.{looked_at, cheapest_looked}
use Rattle.search_spec.specs.Searched.{query_causes, NotRefused, WellPosed, cheapest_plan}
use Rattle.search_spec.proofs.VisitedLaws.{start-fits_iff}
use Rattle.search_spec.proofs.PlanVisited.{start-state}
use Rattle.search_spec.proofs.MeaningLaws.{not-refused_iff, unrefused_iff}
use Rattle.search_laws.specs.How.Lookup.{LooksUp}
use Rattle.search_laws.specs.How.Visits.{lent_step, lent_cost, may_go_on, noted, no_progress, visits_from, as_best}
use Rattle.search_laws.specs.How.Visits.{whole_progress}
use Rattle.search_laws.specs.declared.Limits.{Limits}
use Rattle.search_laws.specs.declared.Progress.{Progress}
use Rattle.search_laws.proofs.LookupLaws.{look_up-marks}
use Rattle.search_laws.proofs.LentLaws.{start_fits}
use Rattle.search_laws.proofs.ProgressLaws.{noted_as, noted_as_lem, note_of, fold_progress}

-- the search comes to the cheapest of the plans that are looked at
pub whole-looked : (set : RuleSet) (query : Query)
    → (whole_progress set query).best ≡ as_best (sequence_cost set) (cheapest_looked set query)
unfolding whole_progress cheapest_looked looked_at visited_by plans_for
whole-looked set query =
    ap (as_best (sequence_cost set))
    (best-first (step_of set) (rule_cost set) set.count (marked set query.reach query.table) (start_state query)
    (meets_goal query.goal) query.max_moves query.max_cost query.step_limit)

-- the rows that are lent have the rules' steps and costs
lent_step_lem : (set : RuleSet) → lent_step (map (λ rule. rule.condition) set.rules)
    (map (λ rule. rule.effect) set.rules) ≡ step_of set
unfolding lent_step step_of rule_at
lent_step_lem set =
    fun_ext λ r. fun_ext λ s. ap₂ (λ condition effect. only_if (applicable condition s) (successor effect s))
    (get_or-map (λ rule. rule.condition) set.rules (r - 1) no_rule)
    (get_or-map (λ rule. rule.effect) set.rules (r - 1) no_rule)

lent_cost_lem : (set : RuleSet) → lent_cost (map (λ rule. rule.cost) set.rules) ≡ rule_cost set
unfolding lent_cost rule_cost rule_at
lent_cost_lem set = fun_ext λ r. get_or-map (λ rule. rule.cost) set.rules (r - 1) no_rule

module _ (set : RuleSet) (query : Query) (room : ℕ) (not_refused : NotRefused set query room) where
  judged : WellPosed set query room
  judged = (not-refused_iff set query room).0 not_refused

  abbrev marks : Sequence → Bool
  marks = marked set query.reach query.table

  -- a sequence leads to the goal
  abbrev good : Sequence → Bool
  good = reaches (step_of set) (start_state query) (meets_goal query.goal)

  -- the best of what is visited is the cheapest of all plans
  best-plan : best (rule_cost set) good none (visited_by set query) ≡ cheapest_plan set query
  unfolding visited_by cheapest_plan plans_for
  best-plan =
      let started = judged.0.0.0.0 in
      let v = started.0.0.formed in
      best-cheapest (step_of set) (rule_cost set) set.count (StateOf set) (valid_closed set v) marks
      (accepted-justified set query.reach query.table
      ((accepted_iff set query.reach query.table).1 judged.1)) (start_state query)
      (start-state set query v ((start-fits_iff set query.start).1 started.1)) (meets_goal query.goal)
      query.max_moves query.max_cost

  -- if all are looked at, the cheapest of the plans among them is the cheapest of all
  pub looked-cheapest : length (visited_by set query) ≤ query.step_limit
      → cheapest_looked set query ≡ cheapest_plan set query
  unfolding cheapest_looked looked_at visited_by plans_for
  looked-cheapest h =
      sym (best-first (step_of set) (rule_cost set) set.count marks (start_state query) (meets_goal query.goal)
      query.max_moves query.max_cost query.step_limit)
      ∙ ap (best (rule_cost set) good none) (take_all query.step_limit (visited_by set query) h) ∙ best-plan

  module _ (blocked : List ℕ) (looked : LooksUp (min set.count 31) query.table blocked) where
    looks : LooksUp set.count query.table blocked
    looks =
        let few : min set.count 31 ≡ set.count = omega (arith, judged.0.0.0.0.0.0.formed.count_limits) in
        subst (λ m. LooksUp m query.table blocked) few looked

    -- what visiting a sequence makes of the progress
    abbrev note : Sequence → Progress → Progress
    note = note_of (rule_cost set) query.step_limit good

    -- the search may go on to q, by costs and look-up
    abbrev may : (ℕ → ℕ) → Sequence → Bool
    may cost q =
        leb (cost_of cost q) query.max_cost && eqb (get_or blocked (index_of set.count (last query.reach q)) 0) 0

    -- the visits, by steps, costs and look-up
    abbrev visits : (ℕ → State → Option State) → (ℕ → ℕ) → Progress
    visits step cost =
        explore_with step set.count (λ q _. may cost q)
        (λ q. noted query.goal query.step_limit (cost_of cost q) q) query.max_moves [] (start_state query)
        no_progress

    -- what is visited by the look-up is what the table's marks allow
    visited_list : visited_by set query
        ≡ explore (step_of set) set.count (λ q _. may (rule_cost set) q) query.max_moves [] (start_state query)
    unfolding visited_by
    visited_list =
        visited-explore_next (step_of set) (rule_cost set) set.count marks (start_state query) query.max_cost
        query.reach short query.max_moves
        ∙ explore-same (step_of set) set.count
        (λ q _. allowed_next (rule_cost set) marks query.max_cost query.reach q) (λ q _. may (rule_cost set) q)
        (λ q r s t k h p. agree (q ++ (r ∷ [])) k) query.max_moves []
        (start_state query) tt (and_join (le-leb 0 query.max_cost zero-le) refl)
      where
        short : (b : Sequence) → query.reach < length b → marks b ≡ false
        short b h = never_true (marks b) (λ e. omega (arith, (marked-short set query.reach query.table b e).0))

        agree : (q : Sequence) → Numbered set.count q
            → allowed_next (rule_cost set) marks query.max_cost query.reach q ≡ may (rule_cost set) q
        agree q k =
            let ready = judged.0.0.0.0.0 in
            ap (λ b. leb (cost_of (rule_cost set) q) query.max_cost && b)
            (sym (look_up-marks set query.reach query.table blocked ready.1.0.1 ready.1.1 looks q k))

    -- the visits are the fold over it
    visits_fold : visits (step_of set) (rule_cost set) ≡ fold_over note no_progress (visited_by set query)
    visits_fold =
        explore_fold (step_of set) set.count (λ q _. may (rule_cost set) q) (start_state query)
        (λ q. noted query.goal query.step_limit (cost_of (rule_cost set) q) q) note agree query.max_moves []
        (start_state query) no_progress refl
        ∙ ap (fold_over note no_progress) (sym visited_list)
      where
        agree : (q : Sequence) (s : State) (p : Progress) → run (step_of set) q (start_state query) ≡ some s
            → noted query.goal query.step_limit (cost_of (rule_cost set) q) q s p ≡ note q p
        agree q s p e =
            noted_as_lem (rule_cost set) query.step_limit query.goal q s p
            ∙ ap (λ o. noted_as (rule_cost set) query.step_limit (ends_in (meets_goal query.goal) o) q p) (sym e)

    -- the whole search of a query that is not refused: the visits from the empty sequence on, over what is lent
    pub explored-whole : (conditions effects : List (List ℕ)) (costs : List ℕ) (state : State) (limits : Limits)
        (found : Progress)
        → conditions ≡ map (λ rule. rule.condition) set.rules
        → effects ≡ map (λ rule. rule.effect) set.rules
        → costs ≡ map (λ rule. rule.cost) set.rules
        → state ≡ padded 16 0 (take 16 query.start)
        → limits ≡ record {
          positions = set.positions;
          count = set.count;
          reach = query.reach;
          max_cost = query.max_cost;
          step_limit = query.step_limit;
        }
        → found ≡ visits_from conditions effects costs blocked query.goal limits query.max_moves [] state no_progress
        → found ≡ whole_progress set query
    unfolding visits_from may_go_on whole_progress sequence_cost
    explored-whole conditions effects costs state limits found a b c s e is =
        let whole = fold_progress (rule_cost set) query.step_limit good (visited_by set query) in
        rw (is, a, b, c, s ∙ start_fits set query room not_refused, e)
        (ap₂ visits (lent_step_lem set) (lent_cost_lem set) ∙ visits_fold ∙ whole)

-- ── The judgement of the query ───────────────────────────────────────────────────────────────────

-- a query without a refusal
pub unrefused : (set : RuleSet) (query : Query) (room : ℕ) → first_refusal (query_causes set query room) ≡ 0
    → NotRefused set query room
unrefused set query room e = (not-refused_iff set query room).1 ((unrefused_iff set query room).0 e)
