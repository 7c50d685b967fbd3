-- `text_explain::put_explanation` meets its contract: the bytes of the explanation, and the zeros behind them.
use mathlib.Core.Path.{◌≡◌, sym, ap, ap₂, ◌∙◌}
use mathlib.Core.List.{◌++◌}
use Prim.Native.Nat.{◌-◌}
use native.Mathlib.Omega.{arith}
use lib.ListN.{length, drop, replicate}
use Rattle.std.proofs.lemmas.List.{drop-replicate}
use Rattle.theory_spec.specs.Lists.{padded}
use Rattle.planner_spec.proofs.ExplanationBytesLaws.{buffer_filled, buffer-short}
use Rattle.text_explain.proofs.put_explanation.Goals as goal

pub returns-then-out-ge-EXPLANATION_SIZE : goal.returns-then-out-ge-EXPLANATION_SIZE
returns-then-out-ge-EXPLANATION_SIZE c =
    let room = length c.args.out.now in
    let bytes = c.explanation_bytes.result in
    let many : length bytes ≡ 19 = omega arith in
    let behind : drop 19 c.args.out.now ≡ replicate (room - length bytes) 0 =
    ap (drop 19) c.requires ∙ drop-replicate 19 room 0 ∙ ap (λ n. replicate (room - n) 0) (sym many) in
    ap₂ ◌++◌ c.copy_from_slice.ensures.after behind
    ∙ ap (padded room 0) c.explanation_bytes.ensures
    ∙ buffer_filled room c.args.answer (omega arith)

pub returns-else-out-ge-EXPLANATION_SIZE : goal.returns-else-out-ge-EXPLANATION_SIZE
returns-else-out-ge-EXPLANATION_SIZE c =
    c.requires ∙ sym (buffer-short (length c.args.out.now) c.args.answer (omega arith))
