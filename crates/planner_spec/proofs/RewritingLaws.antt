-- A rule file read and written again: what the answer and the buffer mean, and how large the numbers are.
-- Assumes nothing.
use mathlib.Core.Path.{◌≡◌, refl, sym, ap, subst, ◌∙◌}
use mathlib.Core.Logic.{◌↔◌, ◌≢◌, inl, inr, ⊎_elim}
use mathlib.Core.List.{List}
use Prim.Native.Nat.{ℕ, ◌/◌, ◌%◌, ◌≤◌, ◌<◌}
use native.Mathlib.Omega.{arith}
use lib.ListN.{length, replicate}
use Rattle.theory_spec.proofs.TestLaws.{below?, equal?}
use Rattle.model_spec.specs.declared.RuleSet.{RuleSet}
use Rattle.model_spec.proofs.ValidityLaws.{valid_iff}
use Rattle.files_spec.specs.File.{render}
use Rattle.files_spec.specs.Reading.{reading}
use Rattle.files_spec.specs.Writing.{written, written_buffer}
use Rattle.files_spec.specs.declared.Written.{Written}
use Rattle.files_spec.proofs.RoundTrip.{accepted_iff, read-written}
use Rattle.files_spec.proofs.WriterLaws.{writes_iff, invalid_iff, short_iff}
use Rattle.files_spec.proofs.AgainLaws.{file-again}
use Rattle.files_spec.proofs.RefusedLaws.{reading-other, reading_bound, written-refused}
use Rattle.files_spec.proofs.LengthLaws.{render_bound}
use Rattle.files_spec.proofs.ReadTextLaws.{read_as}
use Rattle.planner_spec.specs.PackedLength.{packed_length}
use Rattle.planner_spec.specs.How.LengthLimit.{length_limit}
use Rattle.planner_spec.specs.Rewriting.{rewritten, rewritten_buffer, packed_rewritten, RewriteMeaning}
use Rattle.planner_spec.proofs.OfTextLaws.{of-read, of-refused, Own, text-judged}
use Rattle.planner_spec.proofs.PackedLengthLaws.{packs, packs-outcome, packs-length}

module _ (text : List ℕ) (room : ℕ) where
  -- ── The two ways ───────────────────────────────────────────────────────────────────────────────

  -- what the definitions say
  abbrev pub Rewrites : Written → List ℕ → Type 0
  Rewrites answer buffer = (answer ≡ rewritten text room) × (buffer ≡ rewritten_buffer text room)

  pub not-read : (reading text).outcome ≢ 0
      → Rewrites (record { outcome = (reading text).outcome; length = 0 }) (replicate room 0)
  unfolding rewritten rewritten_buffer
  not-read n = (
    sym (of-refused text (λ set. written set room) (λ k. record { outcome = k; length = 0 }) n),
    sym (of-refused text (λ set. written_buffer set room) (λ k. replicate room 0) n),
  )

  pub was_read : (reading text).outcome ≡ 0
      → Rewrites (written (reading text).set room) (written_buffer (reading text).set room)
  unfolding rewritten rewritten_buffer
  was_read h = (
    sym (of-read text (λ set. written set room) (λ k. record { outcome = k; length = 0 }) h),
    sym (of-read text (λ set. written_buffer set room) (λ k. replicate room 0) h),
  )

  -- ── What they mean ─────────────────────────────────────────────────────────────────────────────

  not-read-means : (reading text).outcome ≢ 0
      → RewriteMeaning text room (record { outcome = (reading text).outcome; length = 0 }) (replicate room 0)
  not-read-means n =
      record {
        again = (λ e. absurd (n e), λ w. absurd (n ((accepted_iff text).1 w.0)));
        same_text = λ e. absurd (n e);
        too_long = (λ e. absurd (reading-other text 8 refl e), λ w. absurd (n ((accepted_iff text).1 w.0)));
        judged = text-judged text (reading text).outcome (λ _. refl) (λ e. inl e);
        as_read = λ k _ _. (λ e. e, λ e. e);
        no_text = λ _. (refl, refl);
        never7 = reading-other text 7 refl;
      }

  module _ (taken : (reading text).outcome ≡ 0) where
    abbrev set : RuleSet
    set = (reading text).set

    -- the file of the set is the text
    same_length : length (render set) ≡ length text
    same_length = ap length (read-written text set (read_as text taken)).1

    fits_iff : ((written set room).outcome ≡ 0) ↔ (length text ≤ room)
    fits_iff = (
      λ e. omega (arith, same_length, ((writes_iff set room).0 e).1),
      λ h. ap (λ (answer : Written). answer.outcome) (file-again text set room (read_as text taken) h).0,
    )

    long_iff : ((written set room).outcome ≡ 8) ↔ (room < length text)
    long_iff = (
      λ e. omega (arith, same_length, ((short_iff set room).0 e).1),
      λ h. (short_iff set room).1 ((read-written text set (read_as text taken)).0, omega (arith, same_length)),
    )

    -- the writer's outcome is none of the reader's
    own : Own (written set room).outcome
    own =
        ⊎_elim (λ s. inr (omega (arith, long_iff.1 s))) (λ s. inl (fits_iff.1 s)) (below? room (length text))

    not_readers : (k : ℕ) → 1 ≤ k → k ≤ 4 → (written set room).outcome ≢ k
    not_readers k l h e = ⊎_elim (λ o. omega (arith, e, o)) (λ o. omega (arith, e, o)) own

    was-read-means : RewriteMeaning text room (written set room) (written_buffer set room)
    was-read-means =
        record {
          again = (λ e. ((accepted_iff text).0 taken, fits_iff.0 e), λ w. fits_iff.1 w.1);
          same_text = λ e.
              let same = file-again text set room (read_as text taken) (fits_iff.0 e) in
              (ap (λ (answer : Written). answer.length) same.0, same.1);
          too_long = (λ e. ((accepted_iff text).0 taken, long_iff.0 e), λ w. long_iff.1 w.1);
          judged = text-judged text (written set room).outcome (λ n. absurd (n taken)) (λ _. own);
          as_read = λ k l h. (λ e. absurd (not_readers k l h e), λ e. absurd (omega (arith, e, taken)));
          no_text = written-refused set room;
          never7 = λ e. (invalid_iff set room).0 e (read-written text set (read_as text taken)).0;
        }

  -- what is left so has its meaning
  pub rewrites_mean : {answer : Written} {buffer : List ℕ} → Rewrites answer buffer
      → RewriteMeaning text room answer buffer
  rewrites_mean {answer} {buffer} w =
      ⊎_elim (λ h. moved (was_read h) (was-read-means h)) (λ n. moved (not-read n) (not-read-means n))
      (equal? (reading text).outcome 0)
    where
      moved : {a : Written} {b : List ℕ} → Rewrites a b → RewriteMeaning text room a b
          → RewriteMeaning text room answer buffer
      moved {a} {b} v m =
          subst (RewriteMeaning text room answer) (v.1 ∙ sym w.1)
          (subst (λ x. RewriteMeaning text room x b) (v.0 ∙ sym w.0) m)

  -- ── How large the numbers are ──────────────────────────────────────────────────────────────────

  module _ {answer : Written} {buffer : List ℕ} (means : RewriteMeaning text room answer buffer) where
    -- the outcome is at most 8
    pub rewrite-outcome : answer.outcome ≤ 8
    rewrite-outcome =
        ⊎_elim (λ h.
        let f = (accepted_iff text).0 h in
        ⊎_elim (λ s. omega (arith, means.too_long.1 (f, s))) (λ s. omega (arith, means.again.1 (f, s)))
        (below? room (length text)))
        (λ n.
        let same = (means.as_read (reading text).outcome (omega arith) (reading_bound text)).1 refl in
        omega (arith, reading_bound text, same))
        (equal? (reading text).outcome 0)

    -- the length is at most that of the longest file
    pub rewrite-length : answer.length ≤ 4292
    rewrite-length =
        ⊎_elim (λ e.
        let f = (means.again.0 e).0 in
        omega (arith, (means.same_text e).0, ap length f.2, render_bound f.0 ((valid_iff f.0).1 f.1)))
        (λ n. omega (arith, (means.no_text n).0))
        (equal? answer.outcome 0)

  -- packed, the answer can be taken apart
  pub rewrite-packed : (answer : Written) (buffer : List ℕ) → answer ≡ rewritten text room
      → RewriteMeaning text room answer buffer
      → (r : ℕ) → r ≡ packed_length answer.outcome (answer.length % length_limit)
      → (r ≡ packed_rewritten text room)
      × RewriteMeaning text room (record { outcome = r % 256; length = r / 256 }) buffer
  unfolding packed_rewritten
  rewrite-packed answer buffer e means r p =
      let byte : answer.outcome < 256 = omega (arith, rewrite-outcome means) in
      let short : answer.length < length_limit = omega (arith, rewrite-length means) in
      let low = packs-outcome answer.outcome answer.length r byte short p in
      let rest = packs-length answer.outcome answer.length r byte short p in (
        packs answer.outcome answer.length r byte short p
            ∙ ap (λ (x : Written). packed_length x.outcome x.length) e,
        subst (λ x. RewriteMeaning text room x buffer) (λ i. record { outcome = sym low i; length = sym rest i }) means,
      )
