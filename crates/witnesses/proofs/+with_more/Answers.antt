-- `witnesses::with_more` meets its contract: what the search behind a rule finds is the first of all, or, where there is
-- none, nothing that begins with this rule.
use mathlib.Core.Path.{◌≡◌, sym, ◌∙◌}
use mathlib.Core.Option as Math
use Prim.Native.Nat.{ℕ, suc, ◌+◌, ◌-◌, ◌*◌, ◌≤◌, ◌<◌}
use native.Mathlib.Omega.{arith}
use Rattle.theory_spec.specs.Sequences.{level}
use Rattle.model_spec.specs.declared.RuleSet.{RuleSet}
use Rattle.macros_spec.specs.Composition.{Lines}
use Rattle.tables_spec.specs.Table.{sequence_count}
use Rattle.std.specs.Prelude.{Option}
use Rattle.tables_laws.specs.How.Witnesses.{serves}
use Rattle.tables_laws.specs.How.Searches.{find_behind, find_witness}
use Rattle.tables_spec.proofs.CountLaws.{count_bound, behind_bound}
use Rattle.tables_laws.proofs.WitnessLaws.{witness-searched}
use Rattle.tables_laws.proofs.WitnessLaws.{from_first, from_end, from_next, from_through, from_found}
use Rattle.witnesses.proofs.+with_more.Goals as goal
use Rattle.witnesses.proofs.+with_more.Goals.{then-goes_on+else-is_some, else-goes_on}

-- with one more rule, one less is to come
room : (m more index k : ℕ) → 1 ≤ more → more ≤ 3 → index < sequence_count m (3 - more) → k < m
    → index * m + (k + 1) < sequence_count m (3 - (more - 1))
room m more index k low high h l =
    let e : suc (3 - more) ≡ 3 - (more - 1) = omega arith in
    rw (← e) (behind_bound m (3 - more) index k h l)

-- and the index is small
room_bound : (m more index k : ℕ) → m ≤ 31 → 1 ≤ more → more ≤ 3 → index < sequence_count m (3 - more) → k < m
    → index * m + (k + 1) < 65536
room_bound m more index k few low high h l =
    omega (arith, room m more index k low high h l, count_bound m (3 - (more - 1)) few (omega arith))

-- where one rule is to come, `with_one_more` finds it
last_one : (set : RuleSet) (index : ℕ) (b : Math.Option Lines) (left more : ℕ) (found : Option ℕ) → set.count ≤ 31
    → more ≡ 1
    → found ≡ find_witness set index b left (level set.count 1)
    → found ≡ find_behind set.count index (serves set b left) (level set.count more)
last_one set index b left more found few one e =
    e ∙ witness-searched set index b left (level set.count 1) few ∙ rw one

pub returns-then-more-eq1 : goal.returns-then-more-eq1
returns-then-more-eq1 t c =
    let a = c.args in
    last_one a.set a.index _ a.left a.more _ c.requires.2 c.if-more-eq1.true c.with_one_more.ensures

pub loop-k-init : goal.loop-k-init
loop-k-init t c = from_first _ _ _ _ _ _ c.args.more (omega arith)

pub overflow_cast-behind : goal.overflow_cast-behind
overflow_cast-behind t c =
    let asked = c.requires in
    omega (arith, c.index_behind-behind.ensures, room_bound _ _ _ _ asked.2 asked.0 asked.1 asked.3 c.loop-k-test.true)

pub with_more-found-requires : goal.with_more-found-requires
with_more-found-requires t c =
    let asked = c.requires in
    let next = room _ _ _ _ asked.0 asked.1 asked.3 c.loop-k-test.true in
    (omega arith, (omega arith, omega arith, asked.2, rw c.index_behind-behind.ensures next))

pub returns-then-is_some : goal.returns-then-is_some
returns-then-is_some t c =
    from_found _ _ _ _ _ _ _ c.loop-k-test.true _
    (c.with_more-found.ensures ∙ rw (c.index_behind-behind.ensures, c.after-next.ensures))
    (sym c.goes_on.ensures ∙ c.if-goes_on.true)
    (sym c.is_some.ensures ∙ c.if-is_some.true)
    ∙ c.loop-k.invariant

pub loop-k-preserved : goal.loop-k-preserved
loop-k-preserved t c =
    elim c.if-goes_on.branch [
      | then-goes_on+else-is_some w ↦
          from_through _ _ _ _ _ _ _ c.loop-k-test.true _
          (w.with_more-found.ensures ∙ rw (w.index_behind-behind.ensures, w.after-next.ensures))
          (sym c.goes_on.ensures ∙ w.if-goes_on.true)
          (sym w.is_some.ensures ∙ w.if-is_some.false)
          ∙ c.loop-k.invariant
      | else-goes_on w ↦
          from_next _ _ _ _ _ _ _ c.loop-k-test.true (sym c.goes_on.ensures ∙ w.if-goes_on.false)
          ∙ c.loop-k.invariant
    ]

pub returns : goal.returns
returns t c = sym (from_end _ _ _ _ _ _ _ c.loop-k-test.false) ∙ c.loop-k.invariant
