-- The positions that a sequence of a well-formed set's rules reads and writes are those of its macro, and none where no
-- state admits it.
-- Assumes nothing.
use mathlib.Core.Path.{◌≡◌, refl, sym, ap, ◌∙◌, subst}
use mathlib.Core.Logic.{◌↔◌}
use mathlib.Core.Bool.{true, false≢true}
use mathlib.Core.Option.{Option, some, none, none-ne-some}
use Prim.Native.Nat.{ℕ, ◌<◌}
use native.Mathlib.Omega.{arith}
use Rattle.theory_spec.specs.Sets.{has}
use Rattle.theory_spec.specs.Sequences.{Sequence, Numbered}
use Rattle.theory_spec.proofs.SetLaws.{has_none}
use Rattle.model_spec.specs.Rules.{sequence_cost}
use Rattle.model_spec.specs.Validity.{WellFormed}
use Rattle.model_spec.specs.declared.RuleSet.{RuleSet}
use Rattle.macros_spec.specs.Composition.{Lines, composed}
use Rattle.macros_spec.specs.Touched.{touched_by, untouched, touched_of, Reads, Writes}
use Rattle.macros_spec.specs.Answers.{touched_in, Means, SequenceReads, SequenceWrites, Denied}
use Rattle.macros_spec.specs.declared.Macro.{Macro}
use Rattle.macros_spec.specs.declared.Touched.{Touched}
use Rattle.macros_spec.proofs.MeaningLaws.{composed-means, denied_iff, means-admitted}
use Rattle.macros_spec.proofs.UniqueLaws.{means_unique}
use Rattle.macros_spec.proofs.TouchedLaws.{touched_meaning}

module _ (set : RuleSet) (formed : WellFormed set) (q : Sequence) (h : Numbered set.count q) where
  -- a sequence that no state admits reads and writes nothing
  pub denied-untouched : Denied set q → touched_in set q ≡ untouched
  unfolding touched_in
  denied-untouched d = ap (touched_of set) ((denied_iff set formed q h).1 d)

  -- and has no macro: neither `SequenceReads` nor `SequenceWrites` holds of it, and so a mark of it adds nothing
  pub denied_no_macro : Denied set q → (m : Macro) → Means set q m → ⊥
  denied_no_macro d m means =
      let w = means-admitted set formed q m means in
      none-ne-some w.1 (sym (d w.0 w.2) ∙ w.3)

  module _ (i : ℕ) (l : i < 16) where
    -- a set of a sequence tells of its macro what it tells of two vectors
    part_iff : (part : Touched → ℕ) (P : Macro → Type 0) → part untouched ≡ 0
        → ((m : Lines) (cost : ℕ) → (has (part (touched_by set m)) i ≡ true)
        ↔ P (record { condition = m.condition; effect = m.effect; cost = cost }))
        → (has (part (touched_in set q)) i ≡ true) ↔ ((m : Macro) × Means set q m × P m)
    unfolding touched_in
    part_iff part P empty tells = go (composed set q) refl
      where
        go : (o : Option Lines) → composed set q ≡ o
            → (has (part (touched_of set o)) i ≡ true) ↔ ((m : Macro) × Means set q m × P m)
        go none e = (
          λ t. absurd (false≢true (sym (ap (λ n. has n i) empty ∙ has_none i) ∙ t)),
          λ w. absurd (denied_no_macro ((denied_iff set formed q h).0 e) w.0 w.1),
        )
        go (some m) e =
            let means = composed-means set formed q h m e in
            let own = tells m (sequence_cost set q) in (
              λ t. (_, means, own.0 t),
              λ w. own.1 (subst P (means_unique set formed q w.0 _ w.1 means) w.2),
            )

    pub reads_iff : (has (touched_in set q).reads i ≡ true) ↔ SequenceReads set q i
    reads_iff =
        part_iff (λ t. t.reads) (λ m. Reads set m i) refl (λ m cost. (touched_meaning set m cost).reads i l)

    pub writes_iff : (has (touched_in set q).writes i ≡ true) ↔ SequenceWrites set q i
    writes_iff =
        part_iff (λ t. t.writes) (λ m. Writes set m i) refl (λ m cost. (touched_meaning set m cost).writes i l)

-- both are sets of sixteen digits
pub touched_bound : (set : RuleSet) (q : Sequence)
    → ((touched_in set q).reads < 65536) × ((touched_in set q).writes < 65536)
unfolding touched_in
touched_bound set q = go (composed set q)
  where
    go : (o : Option Lines) → ((touched_of set o).reads < 65536) × ((touched_of set o).writes < 65536)
    go none = (omega arith, omega arith)
    go (some m) = (touched_meaning set m 0).sixteen
