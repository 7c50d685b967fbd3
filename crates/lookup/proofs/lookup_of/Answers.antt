-- `lookup::lookup_of` meets its contract. The invariant: the places before i hold what they should, the others still 0.
use mathlib.Core.Path.{◌≡◌, sym, ap, ◌∙◌, subst}
use mathlib.Core.Bool.{Bool, not, cond}
use Prim.Native.Nat.{ℕ, ◌/◌, ◌+◌, ◌≤◌, ◌<◌, min}
use native.Mathlib.Omega.{arith}
use lib.Dec.{eqb}
use lib.ListN.{length, get_or, set, length-set, length-replicate}
use borrow.Author.Tests.{eq-eqb, ne_eqb}
use Rattle.theory_spec.proofs.ListLaws.{zeros_at}
use Rattle.tables_spec.specs.Table.{sequence_count, kept, entry_at}
use Rattle.tables_spec.proofs.CountLaws.{count_bound}
use Rattle.search_laws.specs.How.Lookup.{LooksUp}
use Rattle.search_laws.proofs.LookupLaws.{LooksUpTo, BlankFrom, look_up-start, some-rule, look_up_more, blank_more}
use Rattle.search_laws.proofs.LookupLaws.{look_up-whole}
use Rattle.lookup.proofs.lookup_of.Goals as goal
use Rattle.lookup.proofs.lookup_of.Goals.{then-entry_at-eq-KEPT, else-entry_at-eq-KEPT}

pub loop-i-init : goal.loop-i-init
loop-i-init c =
    let table = c.args.table.now in (
      omega arith,
      length-replicate {A = ℕ} 30784 0,
      look_up-start c.min-rules.result table 30784,
      λ j h. zeros_at 30784 j,
    )

pub tail_index-tail-requires : goal.tail_index-tail-requires
tail_index-tail-requires c =
    let rules = c.min-rules.result in
    let i = c.loop-i.i in
    let within : i < sequence_count rules 3 =
    omega (arith, c.loop-i-test.true, c.min-end.ensures, c.sequence_count.ensures) in
    let few : rules ≤ 31 = omega (arith, c.min-rules.ensures) in
    let some = some-rule rules i (sequence_count rules 3) c.loop-i.invariant.0 within (omega arith) in
    (some, few, c.loop-i.invariant.0, within)

pub bounds-blocked-tail : goal.bounds-blocked-tail
bounds-blocked-tail c =
    let within = count_bound c.min-rules.result 3 (omega (arith, c.min-rules.ensures)) (omega arith) in
    omega (arith, within, c.tail_index-tail.ensures.1)

pub bounds-blocked-i : goal.bounds-blocked-i
bounds-blocked-i c =
    let rules = c.min-rules.result in
    let within = count_bound rules 3 (omega (arith, c.min-rules.ensures)) (omega arith) in
    omega (arith, within, c.loop-i-test.true, c.min-end.ensures, c.sequence_count.ensures)

pub loop-i-preserved : goal.loop-i-preserved
loop-i-preserved c =
    let table = c.args.table.now in
    let rules = c.min-rules.result in
    let blocked = c.loop-i.blocked in
    let i = c.loop-i.i in
    let tail = c.tail_index-tail in
    let entry = c.entry_at.ensures.0 in
    let within : i < sequence_count rules 3 =
    omega (arith, c.loop-i-test.true, c.min-end.ensures, c.sequence_count.ensures) in
    let few : rules ≤ 31 = omega (arith, c.min-rules.ensures) in
    let room : i < length blocked =
    omega (arith, within, count_bound rules 3 few (omega arith), c.loop-i.invariant.1) in
    let writes : Bool → ℕ = λ b. cond b 1 (get_or blocked tail.result 0) in
    -- what one turn keeps, whichever block it writes
    let turn : (block : ℕ) → block ≡ writes (not (eqb (entry_at table i) kept))
    → (1 ≤ i + 1) × (length (set blocked i block) ≡ 30784) × LooksUpTo rules table (set blocked i block) (i + 1)
    × BlankFrom (set blocked i block) (i + 1) c.min-end.result = λ block write. (
      omega (arith, c.loop-i.invariant.0),
      length-set blocked _ _ ∙ c.loop-i.invariant.1,
      look_up_more rules table blocked i tail.result block within c.loop-i.invariant.0 room
          c.loop-i.invariant.2 tail.ensures.0 tail.ensures.1 write,
      blank_more blocked i c.min-end.result block c.loop-i-test.true c.loop-i.invariant.3,
    ) in
    elim c.if-entry_at-eq-KEPT.branch [
      | then-entry_at-eq-KEPT w ↦ rw w.blocked-is (turn _ (ap (λ b. writes (not b))
          (sym (eq-eqb (entry_at table i) kept (sym entry ∙ w.if-entry_at-eq-KEPT.true)))))
      | else-entry_at-eq-KEPT w ↦ rw w.blocked-is (turn _ (ap (λ b. writes (not b))
          (sym (ne_eqb (entry_at table i) kept (λ k. w.if-entry_at-eq-KEPT.false (entry ∙ k))))))
    ]

pub returns : goal.returns
returns c =
    let table = c.args.table.now in
    let blocked = c.loop-i.blocked in
    let end = c.min-end.ensures ∙ ap (min (length table / 2)) c.sequence_count.ensures in
    subst (λ m. LooksUp m table blocked) c.min-rules.ensures
    (look_up-whole c.min-rules.result table blocked c.loop-i.i c.min-end.result end
    c.loop-i-test.false c.loop-i.invariant.2 c.loop-i.invariant.3)
