-- The bytes of an explanation: nineteen, from which it can be read back; and the buffer that holds them.
-- Assumes nothing.
use mathlib.Core.Path.{◌≡◌, refl, sym, ap, ◌∙◌}
use mathlib.Core.Logic.{⊎_elim}
use mathlib.Core.List.{List, ◌++◌}
use Prim.Native.Nat.{ℕ, zero, suc, ◌+◌, ◌-◌, ◌*◌, ◌/◌, ◌%◌, ◌≤◌, ◌<◌}
use native.Mathlib.Nat.{mod-add-div}
use native.Mathlib.Omega.{arith}
use lib.ListN.{length, replicate, replicate-append-replicate}
use lib.Seq.{take_at}
use borrow.Author.Tests.{le-leb, lt-leb}
use Rattle.theory_spec.specs.Lists.{padded}
use Rattle.theory_spec.proofs.TestLaws.{below?}
use Rattle.tables_spec.specs.Table.{entry_at}
use Rattle.explain_spec.specs.Explained.{bare}
use Rattle.explain_spec.specs.declared.Explanation.{Explanation}
use Rattle.planner_spec.specs.TextExplain.{number_bytes, number_of, explanation_bytes, explanation_size}
use Rattle.planner_spec.specs.TextExplain.{explanation_of, explanation_buffer}

-- a number is read back from its bytes
number_back : (n k : ℕ) → number_of (number_bytes n k) ≡ k
number_back zero k = omega arith
number_back (suc n) k = ap (λ rest. k % 256 + 256 * rest) (number_back n (k / 256)) ∙ mod-add-div k 256

module _ (answer : Explanation) (three : length answer.witness ≡ 3) where
  pub bytes_19 : length (explanation_bytes answer) ≡ 19
  unfolding explanation_bytes
  bytes_19 = rw three refl

  -- whatever stands behind them
  bytes_back : (rest : List ℕ) → explanation_of answer.outcome (explanation_bytes answer ++ rest) ≡ answer
  unfolding explanation_bytes explanation_of entry_at
  bytes_back rest =
      let cost = mod-add-div answer.cost 256 in
      let plan_cost = mod-add-div answer.plan_cost 256 in
      let end = number_back 7 answer.segment_end in
      let witness = take_at answer.witness rest 3 three in
      λ i. record {
        outcome = answer.outcome;
        reason = answer.reason;
        place = answer.place;
        cost = cost i;
        plan_cost = plan_cost i;
        segment_end = end i;
        segment_length = answer.segment_length;
        witness_length = answer.witness_length;
        witness = witness i;
      }

  pub buffer_back : (room : ℕ) → explanation_size ≤ room
      → explanation_of answer.outcome (explanation_buffer room answer) ≡ answer
  unfolding explanation_buffer
  buffer_back room fits =
      rw (le-leb explanation_size room fits) (bytes_back (replicate (room - length (explanation_bytes answer)) 0))

module _ (room : ℕ) (answer : Explanation) where
  pub buffer_filled : explanation_size ≤ room → padded room 0 (explanation_bytes answer) ≡ explanation_buffer room answer
  unfolding explanation_buffer
  buffer_filled fits = rw (le-leb explanation_size room fits) refl

  pub buffer-short : room < explanation_size → explanation_buffer room answer ≡ replicate room 0
  unfolding explanation_buffer
  buffer-short h = rw (lt-leb explanation_size room h) refl

-- the bytes of an outcome that stands alone are zeros
zero-bytes : (room outcome : ℕ) → explanation_size ≤ room
    → padded room 0 (explanation_bytes (bare outcome)) ≡ replicate room 0
unfolding explanation_bytes
zero-bytes room outcome fits =
    let whole : 19 + (room - 19) ≡ room = omega arith in
    replicate-append-replicate 19 (room - 19) 0 ∙ ap (λ n. replicate n 0) whole

pub buffer-bare : (room outcome : ℕ) → explanation_buffer room (bare outcome) ≡ replicate room 0
buffer-bare room outcome = ⊎_elim short whole (below? room explanation_size)
  where
    short : room < explanation_size → explanation_buffer room (bare outcome) ≡ replicate room 0
    short h = buffer-short room (bare outcome) h

    whole : explanation_size ≤ room → explanation_buffer room (bare outcome) ≡ replicate room 0
    whole fits =
        sym (buffer_filled room (bare outcome) fits) ∙ zero-bytes room outcome fits
