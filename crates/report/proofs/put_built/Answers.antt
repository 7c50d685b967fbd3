-- `report::put_built` meets its contract: the table that is built gives the listing of its set.
use mathlib.Core.Path.{◌≡◌, sym, ap, ◌∙◌}
use mathlib.Core.List.{List}
use Prim.Native.Nat.{ℕ, ◌*◌}
use native.Mathlib.Omega.{arith}
use Rattle.model_spec.specs.Validity.{Valid}
use Rattle.model_spec.specs.declared.RuleSet.{RuleSet}
use Rattle.tables_spec.specs.Table.{table_entries, built_table}
use Rattle.tables_spec.specs.Answers.{built_buffer}
use Rattle.tables_spec.proofs.AnswerLaws.{build_ready_iff, built-whole}
use Rattle.report_spec.specs.Listing.{listing_of}
use Rattle.report_laws.specs.How.Marks.{table_text}
use Rattle.report_laws.proofs.TableTextLaws.{table-listing}
use Rattle.report_spec.proofs.LengthLaws.{marked_count}
use Rattle.report.proofs.put_built.Goals as goal

module _ (set : RuleSet) (valid : Valid set) where
  -- the table is built
  built : (size : ℕ) → size ≡ 2 * table_entries set 2 → built_buffer set 2 size ≡ built_table set 2
  built size e = built-whole set 2 size ((build_ready_iff set 2 size).1 (valid, ((omega arith, omega arith), e)))

  -- its listing is that of the set
  lists : (table : List ℕ) → table ≡ built_table set 2 → listing_of set ≡ table_text set table
  lists table e =
      let few = marked_count set valid.formed.count_limits.1 in
      sym (ap (table_text set) e ∙ table-listing set valid.formed (omega (arith, few)))

pub returns : goal.returns
returns c =
    let s = c.args in
    let whole = c.build_table.ensures.1 ∙ built s.set c.requires.0 _ c.requires.1 in
    rw (lists s.set c.requires.0 _ whole) c.put_table.ensures
