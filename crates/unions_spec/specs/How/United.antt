-- The unions as the loops of the builder and of the check make them, mark by mark. No promise of a call needs this
-- file: the law `united_all` equates it with `table_touched`.
use Rattle.std.specs.Prelude.{Bool, cond, ℕ, zero, suc}
use Rattle.std.specs.Int.Bits.{bit_or}
use Rattle.model_spec.specs.declared.RuleSet.{RuleSet}
use Rattle.macros_spec.specs.Touched.{untouched}
use Rattle.macros_spec.specs.Answers.{touched_in}
use Rattle.macros_spec.specs.declared.Touched.{Touched}
use Rattle.tables_spec.specs.Table.{sequence_at}

-- what is in either
unfoldable pub united : Touched → Touched → Touched
united a b = record { reads = bit_or a.reads b.reads; writes = bit_or a.writes b.writes }

-- of the first n sequences what the marked ones touch
unfoldable pub united_to : RuleSet → ℕ → (ℕ → Bool) → ℕ → Touched
united_to set reach marks zero = untouched
united_to set reach marks (suc n) =
    let before = united_to set reach marks n in
    cond (marks n) (united before (touched_in set (sequence_at set reach n))) before
