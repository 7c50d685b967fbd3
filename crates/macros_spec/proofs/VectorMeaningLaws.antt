-- The vectors of a sequence mean it, and vectors that mean it are its own. So those of the empty sequence mean the
-- empty sequence, and a rule after vectors means the longer one.
-- Assumes nothing.
use mathlib.Core.Path.{◌≡◌, refl, sym, ap, ◌∙◌, subst}
use mathlib.Core.Bool.{Bool, true, false, true≢false, false≢true}
use mathlib.Core.Option.{Option, some, none, none-ne-some}
use mathlib.Core.List.{[], ◌∷◌, ◌++◌}
use Prim.Native.Nat.{ℕ}
use Rattle.theory_spec.specs.Sequences.{Sequence, Numbered}
use Rattle.theory_spec.proofs.SequenceLaws.{numbered_left}
use Rattle.theory_spec.proofs.ListLaws.{not-both}
use Rattle.model_spec.specs.Validity.{WellFormed, Valid}
use Rattle.model_spec.specs.Rules.{rule_at, run_in, sequence_cost}
use Rattle.model_spec.specs.declared.Rule.{Rule}
use Rattle.model_spec.specs.declared.RuleSet.{RuleSet}
use Rattle.macros_spec.specs.Composition.{Lines, empty_lines, extended, composed_from, composed, as_vectors, lines_of}
use Rattle.macros_spec.specs.VectorMeaning.{VectorsMean, EmptyMeaning, ExtendedMeaning}
use Rattle.macros_spec.specs.declared.Macro.{Macro}
use Rattle.macros_spec.specs.declared.Vectors.{Vectors}
use Rattle.macros_spec.proofs.ExtensionLaws.{composed-extended}
use Rattle.macros_spec.proofs.MeaningLaws.{composed-means, denied_iff}
use Rattle.macros_spec.proofs.UniqueLaws.{means_unique}

module _ (set : RuleSet) (formed : WellFormed set) (q : Sequence) (h : Numbered set.count q) where
  -- a sequence's vectors mean it
  pub vectors_mean : VectorsMean set q (as_vectors (composed set q))
  vectors_mean = go (composed set q) refl
    where
      go : (o : Option Lines) → composed set q ≡ o → VectorsMean set q (as_vectors o)
      go none e = record {
        denied = (λ _. (denied_iff set formed q h).0 e, λ _. refl);
        means = λ f. absurd (false≢true f);
      }
      go (some m) e = record {
        denied = (
          λ f. absurd (true≢false f),
          λ d. absurd (none-ne-some m (sym ((denied_iff set formed q h).1 d) ∙ e)),
        );
        means = λ _. composed-means set formed q h m e;
      }

  -- vectors that mean it are its own
  pub mean_vectors : (v : Vectors) → VectorsMean set q v → lines_of v ≡ composed set q
  mean_vectors v w = go v.admitted refl (composed set q) refl
    where
      go : (b : Bool) → v.admitted ≡ b → (o : Option Lines) → composed set q ≡ o → lines_of v ≡ o
      go false e o k = rw e (sym ((denied_iff set formed q h).1 (w.denied.0 e)) ∙ k)
      go true e none k = absurd (not-both e (w.denied.1 ((denied_iff set formed q h).0 k)))
      go true e (some m) k =
          let one = means_unique set formed q _ _ (w.means e) (composed-means set formed q h m k) in
          rw e
          (ap {B = Option Lines} (λ (n : Macro). some (record { condition = n.condition; effect = n.effect })) one)

-- the empty sequence's vectors, for a valid set
pub empty_meaning : (set : RuleSet) → Valid set → EmptyMeaning set (as_vectors (some (empty_lines set)))
unfolding composed composed_from run_in
empty_meaning set valid =
    let mean = vectors_mean set valid.formed [] tt in
    record {
      admitted = refl;
      runs_everywhere = λ s d. ((mean.means refl).runs_where s d).1 (s, refl);
      leads_to_itself = λ s d. (mean.means refl).leads_to s s d refl;
      means = mean;
    }

-- a rule after vectors
pub extended_meaning : (v : Vectors) (rule : Rule) → ExtendedMeaning v rule (as_vectors (extended rule (lines_of v)))
extended_meaning v rule set q r valid h e w =
    let own = mean_vectors set valid.formed q (numbered_left set.count q (r ∷ []) h) v w in
    rw (e, own, ← composed-extended set q r) (vectors_mean set valid.formed (q ++ r ∷ []) h)
