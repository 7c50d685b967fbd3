-- `builder::entry_for` meets its contract: what the search finds for the sequence's vectors and cost is its own index
-- or the witness.
use mathlib.Core.Path.{◌≡◌, sym, ap, ap₂, ◌∙◌}
use mathlib.Core.Bool.{cond}
use Prim.Native.Nat.{ℕ, ◌≤◌, ◌<◌}
use native.Mathlib.Omega.{arith}
use lib.Dec.{eqb}
use borrow.Author.Tests.{eq-eqb, ne_eqb}
use Rattle.theory_spec.specs.Sequences.{sequences}
use Rattle.model_spec.specs.Rules.{sequence_cost}
use Rattle.model_spec.specs.Validity.{WellFormed}
use Rattle.model_spec.specs.declared.RuleSet.{RuleSet}
use Rattle.macros_spec.specs.Composition.{composed, as_vectors, lines_of}
use Rattle.macros_spec.specs.declared.Vectors.{Vectors}
use Rattle.macros_spec.proofs.ExtensionLaws.{lines_vectors}
use Rattle.tables_spec.specs.Table.{table_entries, kept, built_entry}
use Rattle.tables_laws.specs.How.ShortSequences.{short_sequence}
use Rattle.tables_laws.specs.How.Witnesses.{first_behind, serves}
use Rattle.tables_laws.specs.How.Searches.{find_witness}
use Rattle.std.specs.Prelude.{Option, unwrap_or}
use Rattle.tables_spec.proofs.TableLaws.{entries_bound}
use Rattle.tables_laws.proofs.SequenceLoopLaws.{short_at}
use Rattle.tables_laws.proofs.WitnessLaws.{witness-searched, found-index}
use Rattle.tables_laws.proofs.EntryLaws.{built-found}
use Rattle.builder.proofs.entry_for.Goals as goal

module _ (set : RuleSet) (valid : WellFormed set) (i : ℕ) (h : i < table_entries set 3) (vectors : Vectors) (cost : ℕ)
    (v : vectors ≡ as_vectors (composed set (short_sequence set.count i)))
    (c : cost ≡ sequence_cost set (short_sequence set.count i))
    (w : Option ℕ) (e : w ≡ find_witness set 0 (lines_of vectors) cost (sequences set.count 3))
    (f : ℕ) (u : f ≡ unwrap_or w kept) where
  -- what is found
  found : (f ≤ i) × (built_entry set 3 i ≡ cond (eqb f i) kept f)
  found =
      built-found set valid i h f
      (u
      ∙ ap (λ o. unwrap_or o kept)
      (e ∙ witness-searched set 0 (lines_of vectors) cost (sequences set.count 3) valid.count_limits.1)
      ∙ found-index set.count 0 (serves set (lines_of vectors) cost) (sequences set.count 3)
      ∙ ap₂ (λ lines n. first_behind set.count 0 (serves set lines n) (sequences set.count 3))
      (ap lines_of v ∙ lines_vectors (composed set (short_sequence set.count i))) c
      ∙ ap (λ q. first_behind set.count 0 (serves set (composed set q) (sequence_cost set q))
      (sequences set.count 3)) (short_at set valid i h))

  own-index : f ≡ i → (kept ≡ built_entry set 3 i) × (kept < 65536)
  own-index same = (sym (found.1 ∙ rw (eq-eqb f i same)), omega arith)

  witness : (f ≡ i → ⊥) → (f ≡ built_entry set 3 i) × (f < 65536)
  witness other = (
    sym (found.1 ∙ rw (ne_eqb f i other)),
    omega
        (arith, found.0, entries_bound set 3 valid.count_limits.1 (omega arith)),
  )

pub returns-then-witness-index : goal.returns-then-witness-index
returns-then-witness-index c =
    let a = c.args in
    own-index a.set c.requires.0 a.index c.requires.1 a.own.vectors a.own.cost c.requires.2 c.requires.3
    c.smallest_witness.result c.smallest_witness.ensures c.unwrap_or-witness.result c.unwrap_or-witness.ensures
    c.if-witness-index.true

pub returns : goal.returns
returns c =
    let a = c.args in
    witness a.set c.requires.0 a.index c.requires.1 a.own.vectors a.own.cost c.requires.2 c.requires.3
    c.smallest_witness.result c.smallest_witness.ensures c.unwrap_or-witness.result c.unwrap_or-witness.ensures
    c.if-witness-index.false
