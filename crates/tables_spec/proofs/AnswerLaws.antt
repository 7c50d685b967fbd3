-- What the builder and the check answer: which outcome each cause in turn has, and what it means; what a build leaves
-- in the table, and that the table keeps its length;
-- that a built table passes the check.
-- Assumes nothing.
use mathlib.Core.Path.{◌≡◌, refl, sym, ap, ◌∙◌}
use mathlib.Core.Logic.{◌↔◌, ◌≢◌, ⊎_elim}
use mathlib.Core.Bool.{Bool, true, false, not, cond}
use mathlib.Core.List.{List, [], ◌∷◌, ◌++◌}
use Prim.Native.Nat.{ℕ, ◌*◌, ◌<◌}
use native.Mathlib.Omega.{arith}
use lib.Dec.{eqb}
use lib.ListN.{length, replicate, length-replicate}
use borrow.Author.Tests.{eqb-true, eq-eqb, ne_eqb}
use Rattle.theory_spec.specs.Lists.{within}
use Rattle.theory_spec.specs.Sequences.{Sequence}
use Rattle.theory_spec.proofs.ListLaws.{not-both}
use Rattle.theory_spec.proofs.TestLaws.{equal?, within_iff}
use Rattle.model_spec.specs.Refusals.{Cause, first_refusal}
use Rattle.model_spec.specs.Validity.{valid, Valid}
use Rattle.model_spec.specs.declared.RuleSet.{RuleSet}
use Rattle.model_spec.proofs.RefusalLaws.{refusal-append, refusal-before}
use Rattle.model_spec.proofs.ValidityLaws.{valid_iff}
use Rattle.tables_spec.specs.declared.TableSize.{TableSize}
use Rattle.tables_spec.specs.Table.{table_entries, kept, entry_at, built_table, accepted, Marked, Prunable}
use Rattle.tables_spec.specs.Table.{LeastWitness, Accepted}
use Rattle.tables_spec.specs.Answers.{reach_causes, shape_causes, mark_causes, size_with, built_with, table_causes}
use Rattle.tables_spec.specs.Answers.{build_outcome, built_buffer, check_causes, check_outcome, ReachLimits, Ready}
use Rattle.tables_spec.specs.Answers.{BuildMeaning, CheckMeaning}
use Rattle.tables_spec.proofs.TableLaws.{accepted_iff, marked_iff, built-entry, built-length, built-least}
use Rattle.tables_spec.proofs.TableLaws.{built-marks_iff, built-accepted}

module _ (set : RuleSet) (reach size : ℕ) where
  -- ── The causes that all calls on a table share, and later ones ─────────────────────────────────

  module _ (later : List Cause) where
    outcome : ℕ
    outcome = first_refusal (table_causes set reach size ++ later)

    -- an outcome, and what it is the outcome of
    data Judged : ℕ → Type 0 where
      invalid : (Valid set → ⊥) → Judged 7
      unreached : Valid set → (ReachLimits reach → ⊥) → Judged 5
      misfit : Valid set → ReachLimits reach → size ≢ 2 * table_entries set reach → Judged 6
      ready : Ready set reach size → Judged (first_refusal later)

    judged : Judged outcome
    unfolding table_causes outcome
    judged = go (valid set) refl (within 1 3 reach) refl (eqb size (2 * table_entries set reach)) refl
      where
        go : (v : Bool) → valid set ≡ v → (r : Bool) → within 1 3 reach ≡ r → (s : Bool)
            → eqb size (2 * table_entries set reach) ≡ s
            → Judged (first_refusal ((7, not v) ∷ (5, not r) ∷ (6, not s) ∷ later))
        go false e r _ s _ = invalid (λ v. not-both ((valid_iff set).1 v) e)
        go true e false k s _ = unreached ((valid_iff set).0 e) (λ h. not-both ((within_iff 1 3 reach).1 h) k)
        go true e true k false n =
            misfit ((valid_iff set).0 e) ((within_iff 1 3 reach).0 k) (λ h. not-both (eq-eqb size _ h) n)
        go true e true k true n = ready ((valid_iff set).0 e, ((within_iff 1 3 reach).0 k, eqb-true size _ n))

    -- a number that no shared cause has is the outcome exactly if none of these holds, and it is the later causes'
    -- outcome
    later_iff : (k : ℕ) → k ≢ 7 → k ≢ 5 → k ≢ 6 → (outcome ≡ k) ↔ (Ready set reach size × (first_refusal later ≡ k))
    later_iff k h₇ h₅ h₆ = go judged
      where
        go : {n : ℕ} → Judged n → (n ≡ k) ↔ (Ready set reach size × (first_refusal later ≡ k))
        go (invalid n) = (λ e. absurd (h₇ (sym e)), λ w. absurd (n w.0.0))
        go (unreached v n) = (λ e. absurd (h₅ (sym e)), λ w. absurd (n w.0.1.0))
        go (misfit v r n) = (λ e. absurd (h₆ (sym e)), λ w. absurd (n w.0.1.1))
        go (ready w) = (λ e. (w, e), λ p. p.1)

    module _ (not_7 : first_refusal later ≢ 7) where
      invalid_iff : (outcome ≡ 7) ↔ (Valid set → ⊥)
      invalid_iff = go judged
        where
          go : {n : ℕ} → Judged n → (n ≡ 7) ↔ (Valid set → ⊥)
          go (invalid n) = (λ _. n, λ _. refl)
          go (unreached v n) = (λ e. absurd (omega arith), λ n. absurd (n v))
          go (misfit v r n) = (λ e. absurd (omega arith), λ n. absurd (n v))
          go (ready w) = (λ e. absurd (not_7 e), λ n. absurd (n w.0))

    module _ (not-5 : first_refusal later ≢ 5) where
      unreached_iff : (outcome ≡ 5) ↔ (Valid set × (ReachLimits reach → ⊥))
      unreached_iff = go judged
        where
          go : {n : ℕ} → Judged n → (n ≡ 5) ↔ (Valid set × (ReachLimits reach → ⊥))
          go (invalid n) = (λ e. absurd (omega arith), λ w. absurd (n w.0))
          go (unreached v n) = (λ _. (v, n), λ _. refl)
          go (misfit v r n) = (λ e. absurd (omega arith), λ w. absurd (w.1 r))
          go (ready w) = (λ e. absurd (not-5 e), λ p. absurd (p.1 w.1.0))

    module _ (not-6 : first_refusal later ≢ 6) where
      misfit_iff : (outcome ≡ 6) ↔ (Valid set × (ReachLimits reach × (size ≢ 2 * table_entries set reach)))
      misfit_iff = go judged
        where
          go : {n : ℕ} → Judged n → (n ≡ 6) ↔ (Valid set × (ReachLimits reach × (size ≢ 2 * table_entries set reach)))
          go (invalid n) = (λ e. absurd (omega arith), λ w. absurd (n w.0))
          go (unreached v n) = (λ e. absurd (omega arith), λ w. absurd (n w.1.0))
          go (misfit v r n) = (λ _. (v, (r, n)), λ _. refl)
          go (ready w) = (λ e. absurd (not-6 e), λ p. absurd (p.1.1 w.1.1))

  -- ── The builder ────────────────────────────────────────────────────────────────────────────────

  build-alone : build_outcome set reach size ≡ outcome []
  unfolding build_outcome outcome table_causes
  build-alone = refl

  pub build_ready_iff : (build_outcome set reach size ≡ 0) ↔ Ready set reach size
  build_ready_iff =
      let i = later_iff [] 0 (λ e. omega arith) (λ e. omega arith) (λ e. omega arith) in
      rw build-alone (λ e. (i.0 e).0, λ w. i.1 (w, refl))

  -- a build that is not refused leaves the built table
  pub built-whole : build_outcome set reach size ≡ 0 → built_buffer set reach size ≡ built_table set reach
  unfolding built_buffer
  built-whole e = rw (eq-eqb (build_outcome set reach size) 0 e)

  -- a refused build zeroes the table
  pub built-refused : build_outcome set reach size ≢ 0 → built_buffer set reach size ≡ replicate size 0
  unfolding built_buffer
  built-refused h = rw (ne_eqb (build_outcome set reach size) 0 h)

  -- the table keeps its length
  pub built_size : length (built_buffer set reach size) ≡ size
  built_size =
      ⊎_elim (λ e. ap length (built-whole e) ∙ built-length set reach ∙ sym (build_ready_iff.0 e).1.1)
      (λ h. ap length (built-refused h) ∙ length-replicate size 0)
      (equal? (build_outcome set reach size) 0)

  -- the marks of the table that a build leaves are exactly those of prunable sequences
  built-marks : build_outcome set reach size ≡ 0 → (q : Sequence) → Marked set reach (built_buffer set reach size) q
      ↔ Prunable set reach q
  built-marks e q =
      let w = build_ready_iff.0 e in
      let m = marked_iff set reach (built_table set reach) q in
      let b = built-marks_iff set reach w.0.formed.count_limits.1 w.1.0.1 q in
      rw (built-whole e) (λ k. b.0 (m.1 k), λ p. m.0 (b.1 p))

  -- and each names the smallest index that will do
  built-least-marks : build_outcome set reach size ≡ 0 → (i : ℕ) → i < table_entries set reach
      → entry_at (built_buffer set reach size) i ≢ kept
      → LeastWitness set reach i (entry_at (built_buffer set reach size) i)
  built-least-marks e i h = rw (built-whole e, built-entry set reach i h) (built-least set reach i h)

  -- what the builder gives and leaves has its meaning, for every set, reach and length
  pub build_meaning : BuildMeaning set reach size (build_outcome set reach size) (built_buffer set reach size)
  build_meaning = record {
    not_valid = rw build-alone (invalid_iff [] (λ e. omega arith));
    bad_reach = rw build-alone (unreached_iff [] (λ e. omega arith));
    bad_length = rw build-alone (misfit_iff [] (λ e. omega arith));
    built = build_ready_iff;
    marks = built-marks;
    least = built-least-marks;
    zeros = built-refused;
  }

  -- once the set is judged, what is left decides
  pub build-judged : valid set ≡ true → (build_outcome set reach size ≡ first_refusal (shape_causes set reach size))
      × (built_buffer set reach size ≡ built_with set reach size (first_refusal (shape_causes set reach size)))
  unfolding built_buffer build_outcome table_causes
  build-judged v = (rw v, rw v)

  pub shape_ready_iff : (first_refusal (shape_causes set reach size) ≡ 0)
      ↔ (ReachLimits reach × (size ≡ 2 * table_entries set reach))
  shape_ready_iff = go (within 1 3 reach) refl (eqb size (2 * table_entries set reach)) refl
    where
      go : (r : Bool) → within 1 3 reach ≡ r → (s : Bool) → eqb size (2 * table_entries set reach) ≡ s
          → (first_refusal ((5, not r) ∷ (6, not s) ∷ []) ≡ 0)
          ↔ (ReachLimits reach × (size ≡ 2 * table_entries set reach))
      go false k s _ = (λ e. absurd (omega arith), λ w. not-both ((within_iff 1 3 reach).1 w.0) k)
      go true k false n = (λ e. absurd (omega arith), λ w. not-both (eq-eqb size _ w.1) n)
      go true k true n = (λ _. ((within_iff 1 3 reach).0 k, eqb-true size _ n), λ _. refl)

  -- a table without a length is refused for the same cause
  pub shape-refused : first_refusal (reach_causes reach) ≢ 0
      → first_refusal (shape_causes set reach size) ≡ first_refusal (reach_causes reach)
  shape-refused h = refusal-before (reach_causes reach) ((6, not (eqb size (2 * table_entries set reach))) ∷ []) h

  -- else its length decides
  module _ (told : TableSize) (is : told ≡ size_with set reach (first_refusal (reach_causes reach)))
      (given : told.outcome ≡ 0) where
    reached : first_refusal (reach_causes reach) ≡ 0
    reached = sym (ap (λ (t : TableSize). t.outcome) is) ∙ given

    told-length : told.length ≡ 2 * table_entries set reach
    told-length = ap (λ (t : TableSize). t.length) is ∙ rw reached

    past-reach : first_refusal (shape_causes set reach size)
        ≡ first_refusal ((6, not (eqb size (2 * table_entries set reach))) ∷ [])
    past-reach =
        refusal-append (reach_causes reach) ((6, not (eqb size (2 * table_entries set reach))) ∷ [])
        (λ e. omega arith, tt) reached

    pub shape_misfit : size ≢ told.length → first_refusal (shape_causes set reach size) ≡ 6
    shape_misfit h = past-reach ∙ rw (ne_eqb size (2 * table_entries set reach) (λ e. h (e ∙ sym told-length)))

    pub shape-fits : size ≡ told.length → first_refusal (shape_causes set reach size) ≡ 0
    shape-fits h = past-reach ∙ rw (eq-eqb size (2 * table_entries set reach) (h ∙ told-length))

  -- what a build leaves
  pub with-built : first_refusal (shape_causes set reach size) ≡ 0
      → built_with set reach size (first_refusal (shape_causes set reach size)) ≡ built_table set reach
  with-built e = ap (built_with set reach size) e

  pub with-refused : first_refusal (shape_causes set reach size) ≢ 0
      → built_with set reach size (first_refusal (shape_causes set reach size)) ≡ replicate size 0
  with-refused h = rw (ne_eqb (first_refusal (shape_causes set reach size)) 0 h)

-- ── The check ────────────────────────────────────────────────────────────────────────────────────

module _ (set : RuleSet) (reach : ℕ) (table : List ℕ) where
  judgement : List Cause
  judgement = (14, not (accepted set reach table)) ∷ []

  check-outcome : check_outcome set reach table ≡ outcome set reach (length table) judgement
  unfolding check_outcome check_causes table_causes outcome judgement
  check-outcome = refl

  -- once the set is judged, the shape decides, and then the marks
  pub marks-refused : first_refusal (shape_causes set reach (length table)) ≢ 0
      → first_refusal (mark_causes set reach table) ≡ first_refusal (shape_causes set reach (length table))
  marks-refused h = refusal-before (shape_causes set reach (length table)) ((14, not (accepted set reach table)) ∷ []) h

  pub marks_decide : first_refusal (shape_causes set reach (length table)) ≡ 0 → (b : Bool) → accepted set reach table ≡ b
      → first_refusal (mark_causes set reach table) ≡ cond b 0 14
  marks_decide z b e =
      refusal-append (shape_causes set reach (length table)) ((14, not (accepted set reach table)) ∷ [])
      (λ e. omega arith, (λ e. omega arith, tt)) z ∙ go b e
    where
      go : (b : Bool) → accepted set reach table ≡ b
          → first_refusal ((14, not (accepted set reach table)) ∷ []) ≡ cond b 0 14
      go true e = rw e
      go false e = rw e

  pub check-judged : valid set ≡ true → check_outcome set reach table ≡ first_refusal (mark_causes set reach table)
  unfolding check_outcome check_causes
  check-judged v = rw v

  refused_iff : (first_refusal judgement ≡ 14) ↔ (Accepted set reach table → ⊥)
  unfolding judgement
  refused_iff = go (accepted set reach table) refl
    where
      go : (b : Bool) → accepted set reach table ≡ b → (first_refusal ((14, not b) ∷ []) ≡ 14)
          ↔ (Accepted set reach table → ⊥)
      go true e = (λ k. absurd (omega arith), λ n. absurd (n ((accepted_iff set reach table).0 e)))
      go false e = (λ _ a. not-both ((accepted_iff set reach table).1 a) e, λ _. refl)

  passed_iff : (first_refusal judgement ≡ 0) ↔ Accepted set reach table
  unfolding judgement
  passed_iff = go (accepted set reach table) refl
    where
      go : (b : Bool) → accepted set reach table ≡ b → (first_refusal ((14, not b) ∷ []) ≡ 0) ↔ Accepted set reach table
      go true e = (λ _. (accepted_iff set reach table).0 e, λ _. refl)
      go false e = (λ k. absurd (omega arith), λ a. not-both ((accepted_iff set reach table).1 a) e)

  -- the last cause has another number than the shared ones
  apart : (k : ℕ) → k ≢ 0 → k ≢ 14 → first_refusal judgement ≢ k
  unfolding judgement
  apart k h₀ h₁₄ = go (accepted set reach table)
    where
      go : (b : Bool) → first_refusal ((14, not b) ∷ []) ≢ k
      go true e = h₀ (sym e)
      go false e = h₁₄ (sym e)

  -- the check's outcome has its meaning, for every set, reach and table
  pub check_meaning : CheckMeaning set reach table (check_outcome set reach table)
  check_meaning =
      let no = later_iff set reach (length table) judgement 14 (λ e. omega arith) (λ e. omega arith)
      (λ e. omega arith) in
      let yes = later_iff set reach (length table) judgement 0 (λ e. omega arith) (λ e. omega arith)
      (λ e. omega arith) in
      rw check-outcome (record {
        not_valid = invalid_iff set reach (length table) judgement (apart 7 (λ e. omega arith) (λ e. omega arith));
        bad_reach = unreached_iff set reach (length table) judgement (apart 5 (λ e. omega arith) (λ e. omega arith));
        bad_length = misfit_iff set reach (length table) judgement (apart 6 (λ e. omega arith) (λ e. omega arith));
        not_accepted = (λ e. let w = no.0 e in (w.0, refused_iff.0 w.1), λ w. no.1 (w.0, refused_iff.1 w.1));
        accepts = (λ e. let w = yes.0 e in (w.0, passed_iff.0 w.1), λ w. yes.1 (w.0, passed_iff.1 w.1));
      })

-- a build that is not refused gives a table that the check passes
pub built_checks : (set : RuleSet) (reach size : ℕ) → build_outcome set reach size ≡ 0
    → check_outcome set reach (built_table set reach) ≡ 0
built_checks set reach size e =
    let w = (build_ready_iff set reach size).0 e in
    (check_meaning set reach (built_table set reach)).accepts.1 (
      (w.0, (w.1.0, built-length set reach)),
      (accepted_iff set reach (built_table set reach)).0 (built-accepted set reach),
    )
