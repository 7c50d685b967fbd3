-- What the search lends to itself is as the recursion asks, for a query that is not refused: the rules' lines and the
-- start are zero beyond the positions, and the empty sequence has been reached.
-- Assumes nothing.
use mathlib.Core.Path.{◌≡◌, refl, sym, ap, ◌∙◌, subst}
use mathlib.Core.Logic.{⊎_elim}
use mathlib.Core.List.{List, map}
use Prim.Native.Nat.{ℕ, ◌≤◌, ◌<◌}
use native.Mathlib.Omega.{arith}
use lib.ListN.{get_or, take, replicate, get_or-map, get_or-eq_default}
use lib.Seq.{take_all}
use Rattle.theory_spec.specs.Lists.{padded}
use Rattle.theory_spec.proofs.TestLaws.{below?}
use Rattle.model_spec.specs.States.{State}
use Rattle.model_spec.specs.Rules.{no_rule, StateOf}
use Rattle.model_spec.specs.Validity.{WellFormed, LinesValid}
use Rattle.model_spec.specs.declared.RuleSet.{RuleSet}
use Rattle.model_spec.proofs.StateLaws.{width_beyond}
use Rattle.model_spec.proofs.ValidityLaws.{single-lines}
use Rattle.search_spec.specs.Query.{Query, start_state}
use Rattle.search_spec.specs.Searched.{no_move, NotRefused, WellPosed}
use Rattle.search_spec.proofs.VisitedLaws.{start-fits_iff}
use Rattle.search_spec.proofs.Demand.{blank_buffer}
use Rattle.search_spec.proofs.PlanVisited.{start-state}
use Rattle.search_spec.proofs.MeaningLaws.{not-refused_iff}
use Rattle.search_laws.specs.How.Visits.{EndsAt, Lent, Reached}
use Rattle.search_laws.specs.declared.Limits.{Limits}

module _ (set : RuleSet) where
  -- both lines of a rule end in zeros: beyond the positions there is a single value
  lines_beyond : (condition effect : List ℕ) → LinesValid set.positions set.sizes condition effect
      → EndsAt set.positions condition × EndsAt set.positions effect
  lines_beyond condition effect v = (
    (v.condition_length, λ i h. (zero i h).0),
    (v.effect_length, λ i h. (zero i h).1),
  )
    where
      zero : (i : ℕ) → set.positions ≤ i → (get_or condition i 0 ≡ 0) × (get_or effect i 0 ≡ 0)
      zero i h =
          single-lines set.positions set.sizes condition effect v i
          (width_beyond set.positions set.sizes i h)

  -- and so does a state of the set's sizes
  state_beyond : (s : List ℕ) → StateOf set s → EndsAt set.positions s
  state_beyond s k = (
    k.0,
    λ i h. ⊎_elim (λ (b : i < 16). omega (arith, k.1 i b, width_beyond set.positions set.sizes i h))
        (λ b. get_or-eq_default s 0 {n = i} (omega (arith, k.0))) (below? i 16),
  )

module _ (set : RuleSet) (query : Query) (room : ℕ) (not_refused : NotRefused set query room) where
  -- what the search goes by
  abbrev pub limits : Limits
  limits =
      record {
        positions = set.positions;
        count = set.count;
        reach = query.reach;
        max_cost = query.max_cost;
        step_limit = query.step_limit;
      }

  judged : WellPosed set query room
  judged = (not-refused_iff set query room).0 not_refused

  valid : WellFormed set
  valid = judged.0.0.0.0.0.0.formed

  rule_ends : (k : ℕ) → k < set.count → EndsAt set.positions (get_or set.rules k no_rule).condition
      × EndsAt set.positions (get_or set.rules k no_rule).effect
  rule_ends k h =
      lines_beyond set (get_or set.rules k no_rule).condition (get_or set.rules k no_rule).effect (valid.lines k h)

  -- what stays the same all through
  lent-rules : Lent (map (λ rule. rule.condition) set.rules) (map (λ rule. rule.effect) set.rules) query.goal
      limits
  lent-rules =
      let goal = judged.0.0.0 in
      record {
        position_limit = valid.position_limits.1;
        count_limits = valid.count_limits;
        reach_limits = goal.0.0.1.0;
        goal_limit = omega (arith, goal.1.0, valid.position_limits);
        condition_ends = λ k h.
            subst (EndsAt set.positions) (sym (get_or-map (λ rule. rule.condition) set.rules k no_rule))
            (rule_ends k h).0;
        effect_ends = λ k h.
            subst (EndsAt set.positions) (sym (get_or-map (λ rule. rule.effect) set.rules k no_rule))
            (rule_ends k h).1;
      }

  pub lent-whole : (conditions effects : List (List ℕ)) → conditions ≡ map (λ rule. rule.condition) set.rules
      → effects ≡ map (λ rule. rule.effect) set.rules
      → Lent conditions effects query.goal limits
  lent-whole conditions effects a b = rw (a, b) lent-rules

  -- the start fits a state
  pub start_fits : padded 16 0 (take 16 query.start) ≡ start_state query
  start_fits =
      ap (padded 16 0) (take_all 16 query.start (omega (arith, judged.0.0.0.0.1.0, valid.position_limits)))

  -- the empty sequence is reached there
  pub reached-first : (costs : List ℕ) (state : State) → state ≡ padded 16 0 (take 16 query.start)
      → Reached costs limits state (replicate 32 no_move) 0 0 query.max_moves
  reached-first costs state e =
      record {
        room = omega (arith, judged.0.0.1);
        rest = sym (blank_buffer 32);
        rules = tt;
        total = refl;
        state_end =
            rw (e ∙ start_fits)
            (state_beyond set (start_state query)
            (start-state set query valid ((start-fits_iff set query.start).1 judged.0.0.0.0.1)));
      }
