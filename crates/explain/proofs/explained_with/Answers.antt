-- `explain::explained_with` meets its contract: the reason, the marked segment and its witness, put together.
use mathlib.Core.Path.{◌≡◌, refl, sym, ap, ap₂, ◌∙◌}
use mathlib.Core.Bool.{Bool}
use mathlib.Core.List.{List, [], ◌∷◌}
use Prim.Native.Nat.{ℕ, ◌-◌, ◌≤◌}
use native.Mathlib.Omega.{arith}
use lib.ListN.{length, take, drop}
use borrow.Author.Tests.{ne_eqb}
use borrow.Author.Rules.{rules}
use Rattle.theory_spec.specs.Lists.{padded}
use Rattle.theory_spec.specs.Sequences.{Sequence}
use Rattle.model_spec.specs.declared.RuleSet.{RuleSet}
use Rattle.model_spec.proofs.MoveLaws.{numbered_wider}
use Rattle.tables_spec.specs.Answers.{Ready}
use Rattle.tables_spec.specs.Table.{entry_at}
use Rattle.tables_laws.specs.How.ShortSequences.{short_sequence}
use Rattle.theory_spec.specs.How.Indices.{index_of}
use Rattle.search_spec.specs.Query.{Query, query_of}
use Rattle.explain_spec.specs.Segments.{soonest_end, soonest_length}
use Rattle.explain_spec.specs.Explained.{plan_for, explained_with, first_reason}
use Rattle.explain_spec.specs.Meaning.{ProposalPassed}
use Rattle.explain_spec.specs.declared.Explanation.{Explanation}
use Rattle.explain_spec.proofs.SegmentLaws.{segment_limits}
use Rattle.explain_laws.specs.How.Proposals.{Told, reason_of}
use Rattle.explain_laws.specs.How.LookedUp.{looked_up, named_witness}
use Rattle.explain_laws.proofs.PlaceLaws.{segment_is, segment_none}
use Rattle.explain_laws.proofs.ReasonOfLaws.{place_limit}
use Rattle.explain_laws.proofs.LookedUpLaws.{same_end, same_length, witness-named_by}
use Rattle.explain.proofs.explained_with.Goals as goal

-- an explanation of its parts
abbrev assembled : ℕ → Told → ℕ → ℕ → ℕ → List ℕ → Explanation
assembled outcome told end size many rules =
    record {
      outcome = outcome;
      reason = told.number;
      place = told.place;
      cost = told.cost;
      plan_cost = told.plan_cost;
      segment_end = end;
      segment_length = size;
      witness_length = many;
      witness = rules;
    }

-- with a segment in place of its own
abbrev completed : Explanation → ℕ → ℕ → ℕ → List ℕ → Explanation
completed x end size many rules =
    record x { segment_end = end; segment_length = size; witness_length = many; witness = rules }

-- the part that is lent names the witness
lent : (count : ℕ) (table q : List ℕ) (e n : ℕ) → n ≤ e → (e ≡ 0 → ⊥)
    → short_sequence count (entry_at table (index_of count (take 3 (take (e - (e - n)) (drop (e - n) q)))))
    ≡ named_witness count table q e n
unfolding named_witness
lent count table q e n h there =
    let z : e - (e - n) ≡ n = omega arith in rw (z, ne_eqb e 0 there) refl

-- of a query and a proposal that were passed
module _ (set : RuleSet) (query : Query) (q : Sequence) (passed : ProposalPassed set query q) where
  abbrev ready : Ready set query.reach (length query.table)
  ready = passed.0.0.0.0.0

  few-rules : set.count ≤ 31
  few-rules = ready.0.formed.count_limits.1

  start-length : length query.start ≤ 16
  start-length = omega (arith, passed.0.0.0.0.1.0, ready.0.formed.position_limits.1)

  goal-length : length query.goal ≤ 16
  goal-length = omega (arith, passed.0.0.0.1.0, ready.0.formed.position_limits.1)

  abbrev looked : Sequence → Bool
  looked = looked_up set.count query.reach query.table

  abbrev named : ℕ → ℕ → Sequence
  named end size = named_witness set.count query.table q end size

  -- the parts are those of the definition
  parts : (outcome : ℕ) (p : Sequence) (told : Told) (end size many : ℕ) (rules : List ℕ)
      → p ≡ plan_for set query
      → told ≡ reason_of set query q p
      → end ≡ soonest_end looked q
      → size ≡ soonest_length looked q
      → many ≡ length (named end size)
      → rules ≡ padded 3 0 (named end size)
      → assembled outcome told end size many rules ≡ explained_with set query q outcome (first_reason set query q)
  unfolding explained_with reason_of
  parts outcome p told end size many rules is_plan is_reason is_end is_length is_many is_rules =
      let near = ready.1.0.1 in
      let last = is_end ∙ same_end set query q near passed.1 in
      let long = is_length ∙ same_length set query q near passed.1 in
      let names = ap₂ (named_witness set.count query.table q) last long
      ∙ witness-named_by set ready.0.formed query near passed.0.1 q in
      let reason = is_reason ∙ ap (reason_of set query q) is_plan in
      rw (reason, last, long, is_many, is_rules, names) refl

  -- without a segment
  alone : (outcome : ℕ) (p : Sequence) (told : Told) → p ≡ plan_for set query → told ≡ reason_of set query q p
      → soonest_end looked q ≡ 0
      → assembled outcome told 0 0 0 (0 ∷ 0 ∷ 0 ∷ []) ≡ explained_with set query q outcome (first_reason set query q)
  unfolding named_witness
  alone outcome p told is_plan is_reason e =
      parts outcome p told 0 0 0 (0 ∷ 0 ∷ 0 ∷ []) is_plan is_reason (sym e)
      (omega (arith, e, (segment_limits looked q).0)) refl refl

pub reason_for-requires : goal.reason_for-requires
reason_for-requires c =
    let s = c.args in
    let query = query_of s.query in
    let q = s.moves.now in (
      numbered_wider s.set.count 31 q (few-rules s.set query q c.requires) c.requires.1,
      start-length s.set query q c.requires,
      goal-length s.set query q c.requires,
    )

pub with_reason-told-requires : goal.with_reason-told-requires
with_reason-told-requires c =
    let s = c.args in
    let query = query_of s.query in
    let q = s.moves.now in
    let told = ap (λ (r : Told). r.place) c.reason_for.ensures in
    omega (arith, told, place_limit s.set query q s.plan.now c.requires.0.0.1 (goal-length s.set query q c.requires))

pub returns-in_default : goal.returns-in_default
returns-in_default c is_plan =
    let s = c.args in
    let query = query_of s.query in
    c.with_reason-told.ensures
    ∙ alone s.set query s.moves.now c.requires s.outcome s.plan.now _ is_plan
    c.reason_for.ensures (segment_none _ _ c.in_default.ensures)

pub overflow_sub-from : goal.overflow_sub-from
overflow_sub-from c =
    let s = c.args in
    let segment = segment_is _ _ _ c.in-Some.ensures in
    let limits = segment_limits (looked_up s.set.count s.query.reach s.query.table.now) s.moves.now in
    omega (arith, segment.0, segment.1, limits.0)

pub slice_bounds-witness_of-end : goal.slice_bounds-witness_of-end
slice_bounds-witness_of-end c =
    let s = c.args in
    let segment = segment_is _ _ _ c.in-Some.ensures in
    let limits = segment_limits (looked_up s.set.count s.query.reach s.query.table.now) s.moves.now in
    let inside : c.in-Some.segment.end ≤ length s.moves.now = omega (arith, segment.0, limits.1) in
    search rules

pub returns : goal.returns
returns c is_plan =
    let s = c.args in
    let query = query_of s.query in
    let segment = segment_is _ _ _ c.in-Some.ensures in
    let limits = segment_limits (looked_up s.set.count s.query.reach s.query.table.now) s.moves.now in
    let names = lent s.set.count s.query.table.now s.moves.now c.in-Some.segment.end c.from.result
    (omega (arith, c.from.ensures, segment.0, segment.1, limits.0)) (λ z. segment.2 (sym segment.0 ∙ z))
    ∙ ap (named_witness s.set.count s.query.table.now s.moves.now c.in-Some.segment.end) c.from.ensures in
    ap (λ (x : Explanation). completed x c.in-Some.segment.end c.in-Some.segment.length
    c.witness_of-witness.result.length c.witness_of-witness.result.rules) c.with_reason-told.ensures
    ∙ parts s.set query s.moves.now c.requires s.outcome s.plan.now _ _ _ _ _ is_plan
    c.reason_for.ensures segment.0 segment.1
    (c.witness_of-witness.ensures.0 ∙ ap length names) (c.witness_of-witness.ensures.1 ∙ ap (padded 3 0) names)
