-- What the entries on tables give of a text that is read and of one that is refused, and what it means; and that the
-- length that is told can be built, and what is built passes the check.
-- Assumes nothing.
use mathlib.Core.Path.{◌≡◌, sym, ap, subst, ◌∙◌}
use mathlib.Core.Logic.{◌≢◌, ⊎_elim}
use mathlib.Core.List.{List}
use Prim.Native.Nat.{ℕ, ◌/◌, ◌%◌, ◌≤◌, ◌<◌}
use native.Mathlib.Omega.{arith}
use lib.ListN.{length, replicate}
use Rattle.theory_spec.proofs.TestLaws.{equal?}
use Rattle.model_spec.specs.declared.RuleSet.{RuleSet}
use Rattle.model_spec.proofs.RefusalLaws.{refusal_at_most}
use Rattle.files_spec.specs.Reading.{reading}
use Rattle.files_spec.proofs.RefusedLaws.{reading_byte}
use Rattle.tables_spec.specs.declared.TableSize.{TableSize}
use Rattle.tables_spec.specs.Table.{built_table}
use Rattle.tables_spec.specs.Answers.{size_causes, table_size, table_causes, build_outcome, built_buffer}
use Rattle.tables_spec.specs.Answers.{check_causes, check_outcome}
use Rattle.tables_spec.proofs.AnswerLaws.{built-whole, built_checks, build_meaning, check_meaning}
use Rattle.tables_spec.proofs.SizeLaws.{size_meaning, size_builds_iff}
use Rattle.unions_spec.specs.Unions.{refused_table, answer_with, build_answer, check_answer, UnionMeaning}
use Rattle.unions_spec.specs.declared.TableAnswer.{TableAnswer}
use Rattle.unions_spec.proofs.UnionLaws.{build_unions, check_unions}
use Rattle.planner_spec.specs.PackedLength.{packed_length}
use Rattle.planner_spec.specs.How.LengthLimit.{length_limit}
use Rattle.planner_spec.specs.PackedTable.{packed_table, unpacked_table}
use Rattle.planner_spec.specs.TextTables.{text_table_size, packed_table_size, text_build_answer}
use Rattle.planner_spec.specs.TextTables.{text_built_buffer, text_check_answer}
use Rattle.planner_spec.specs.TextTables.{TextSizeMeaning, TextBuildMeaning, TextCheckMeaning}
use Rattle.planner_spec.proofs.OfTextLaws.{of-read, of-refused, Own, own_refusal, not_7, text-judged}
use Rattle.planner_spec.proofs.PackedLengthLaws.{packs, packs-outcome, packs-length}
use Rattle.planner_spec.proofs.PackedTableLaws.{TableFits, unpacked-table}

size-outcome : (set : RuleSet) (reach : ℕ) → (table_size set reach).outcome ≤ 7
unfolding table_size
size-outcome set reach = refusal_at_most 7 (size_causes set reach) (omega arith, (omega arith, tt))

build_byte : (set : RuleSet) (reach size : ℕ) → (build_answer set reach size).outcome < 256
unfolding build_answer build_outcome table_causes
build_byte set reach size =
    omega (arith, refusal_at_most 14 (table_causes set reach size) (omega arith, (omega arith, (omega arith, tt))))

check_byte : (set : RuleSet) (reach : ℕ) (table : List ℕ) → (check_answer set reach table).outcome < 256
unfolding check_answer check_outcome check_causes
check_byte set reach table =
    omega (
      arith,
      refusal_at_most 14 (check_causes set reach table) (omega arith, (omega arith, (omega arith, (omega arith, tt)))),
    )

-- the numbers of the calls on a set are none of the reader's
size_own : (set : RuleSet) (reach : ℕ) → Own (table_size set reach).outcome
unfolding table_size
size_own set reach = own_refusal (size_causes set reach) (omega arith, (omega arith, tt))

build_own : (set : RuleSet) (reach size : ℕ) → Own (build_outcome set reach size)
unfolding build_outcome table_causes
build_own set reach size = own_refusal (table_causes set reach size) (omega arith, (omega arith, (omega arith, tt)))

check_own : (set : RuleSet) (reach : ℕ) (table : List ℕ) → Own (check_outcome set reach table)
unfolding check_outcome check_causes
check_own set reach table =
    own_refusal (check_causes set reach table) (omega arith, (omega arith, (omega arith, (omega arith, tt))))

-- all that an answer with its unions packs fits, where its outcome does
table_fits : (set : RuleSet) (reach : ℕ) (table : List ℕ) (answer : TableAnswer)
    → UnionMeaning set reach table answer → answer.outcome < 256 → TableFits answer
table_fits set reach table answer means byte =
    record { outcome = byte; reads = means.sixteen.0; writes = means.sixteen.1 }

refused-fits : (text : List ℕ) → TableFits (refused_table (reading text).outcome)
refused-fits text = record { outcome = reading_byte text; reads = omega arith; writes = omega arith }

abbrev outcome_of : TableAnswer → ℕ
outcome_of answer = answer.outcome

-- ── The length ───────────────────────────────────────────────────────────────────────────────────

module _ (text : List ℕ) (reach : ℕ) where
  pub size-read : (reading text).outcome ≡ 0 → text_table_size text reach ≡ table_size (reading text).set reach
  unfolding text_table_size
  size-read = of-read text _ _

  pub size-refused : (reading text).outcome ≢ 0
      → text_table_size text reach ≡ record { outcome = (reading text).outcome; length = 0 }
  unfolding text_table_size
  size-refused = of-refused text _ _

  -- the outcome fits one byte
  pub size_byte : (text_table_size text reach).outcome < 256
  size_byte =
      let outcome : TableSize → ℕ = λ answer. answer.outcome in
      ⊎_elim (λ e. omega (arith, ap outcome (size-read e), size-outcome (reading text).set reach))
      (λ h. omega (arith, ap outcome (size-refused h), reading_byte text)) (equal? (reading text).outcome 0)

  pub text_size_meaning : TextSizeMeaning text reach (text_table_size text reach)
  text_size_meaning =
      let set = (reading text).set in
      let outcome : TableSize → ℕ = λ answer. answer.outcome in
      let refused : (reading text).outcome ≢ 0 → (text_table_size text reach).outcome ≡ (reading text).outcome =
      λ h. ap outcome (size-refused h) in
      record {
        judged = text-judged text (text_table_size text reach).outcome refused
            (λ e. subst Own (sym (ap outcome (size-read e))) (size_own set reach));
        refused_text = λ h. (refused h, ap (λ (answer : TableSize). answer.length) (size-refused h));
        read_text = λ e. rw (size-read e) (size_meaning set reach);
        never7 = not_7 text (text_table_size text reach).outcome refused
            (λ e z. (size_meaning set reach).not_valid.0 (sym (ap outcome (size-read e)) ∙ z));
      }

  -- no table is longer than 61,568 bytes
  size-short : (text_table_size text reach).length < length_limit
  size-short =
      ⊎_elim (λ e. omega (arith, (text_size_meaning.read_text e).bounded))
      (λ h. omega (arith, (text_size_meaning.refused_text h).1)) (equal? (reading text).outcome 0)

  -- packed, the answer can be taken apart
  pub size-packed : (answer : TableSize) → answer ≡ text_table_size text reach → (r : ℕ)
      → r ≡ packed_length answer.outcome (answer.length % length_limit)
      → (r ≡ packed_table_size text reach) × TextSizeMeaning text reach (record { outcome = r % 256; length = r / 256 })
  unfolding packed_table_size
  size-packed answer e r p =
      let t = text_table_size text reach in
      let same = p ∙ ap (λ (x : TableSize). packed_length x.outcome (x.length % length_limit)) e in
      let low = packs-outcome t.outcome t.length r size_byte size-short same in
      let rest = packs-length t.outcome t.length r size_byte size-short same in (
        packs t.outcome t.length r size_byte size-short same,
        subst (TextSizeMeaning text reach) (λ i. record { outcome = sym low i; length = sym rest i }) text_size_meaning,
      )

-- ── The builder ──────────────────────────────────────────────────────────────────────────────────

module _ (text : List ℕ) (reach size : ℕ) where
  pub build-read : (reading text).outcome ≡ 0
      → (text_build_answer text reach size ≡ build_answer (reading text).set reach size)
      × (text_built_buffer text reach size ≡ built_buffer (reading text).set reach size)
  unfolding text_build_answer text_built_buffer
  build-read e = (of-read text _ _ e, of-read text _ _ e)

  pub build-refused : (reading text).outcome ≢ 0
      → (text_build_answer text reach size ≡ refused_table (reading text).outcome)
      × (text_built_buffer text reach size ≡ replicate size 0)
  unfolding text_build_answer text_built_buffer
  build-refused h = (of-refused text _ _ h, of-refused text _ _ h)

  -- the outcome of a text that is read is the set's
  build-outcome : (reading text).outcome ≡ 0
      → (text_build_answer text reach size).outcome ≡ build_outcome (reading text).set reach size
  unfolding build_answer
  build-outcome e = ap outcome_of (build-read e).0

  build-fits : TableFits (text_build_answer text reach size)
  build-fits =
      let set = (reading text).set in
      ⊎_elim
      (λ e. subst TableFits (sym (build-read e).0)
      (table_fits set reach _ _ (build_unions set reach size) (build_byte set reach size)))
      (λ h. subst TableFits (sym (build-refused h).0) (refused-fits text))
      (equal? (reading text).outcome 0)

  pub text-build-meaning :
      TextBuildMeaning text reach size (text_build_answer text reach size) (text_built_buffer text reach size)
  text-build-meaning =
      let set = (reading text).set in
      let answer = text_build_answer text reach size in
      let refused : (reading text).outcome ≢ 0 → answer.outcome ≡ (reading text).outcome =
      λ h. ap outcome_of (build-refused h).0 in
      record {
        judged = text-judged text answer.outcome refused
            (λ e. subst Own (sym (build-outcome e)) (build_own set reach size));
        refused_text = build-refused;
        read_text = λ e.
            let w = build-read e in
            (rw (build-outcome e, w.1) (build_meaning set reach size), rw (w.0, w.1) (build_unions set reach size));
        never7 = not_7 text answer.outcome refused
            (λ e z. (build_meaning set reach size).not_valid.0 (sym (build-outcome e) ∙ z));
      }

  -- packed, the answer can be taken apart
  pub build-packed : (answer : TableAnswer) (table : List ℕ) → answer ≡ text_build_answer text reach size
      → TextBuildMeaning text reach size answer table
      → (r : ℕ) → r ≡ packed_table answer
      → (r ≡ packed_table (text_build_answer text reach size))
      × TextBuildMeaning text reach size (unpacked_table r) table
  build-packed answer table e means r p =
      let fits = subst TableFits (sym e) build-fits in
      let whole = ap unpacked_table p ∙ unpacked-table answer fits in
      let meaning : TableAnswer → Type 0 = λ a. TextBuildMeaning text reach size a table in
      (p ∙ ap packed_table e, subst meaning (sym whole) means)

-- ── The check ────────────────────────────────────────────────────────────────────────────────────

module _ (text : List ℕ) (reach : ℕ) (table : List ℕ) where
  pub check-read : (reading text).outcome ≡ 0
      → text_check_answer text reach table ≡ check_answer (reading text).set reach table
  unfolding text_check_answer
  check-read = of-read text _ _

  pub check-refused : (reading text).outcome ≢ 0
      → text_check_answer text reach table ≡ refused_table (reading text).outcome
  unfolding text_check_answer
  check-refused = of-refused text _ _

  -- the outcome of a text that is read is the set's
  check-outcome : (reading text).outcome ≡ 0
      → (text_check_answer text reach table).outcome ≡ check_outcome (reading text).set reach table
  unfolding check_answer
  check-outcome e = ap outcome_of (check-read e)

  check-fits : TableFits (text_check_answer text reach table)
  check-fits =
      let set = (reading text).set in
      ⊎_elim
      (λ e. subst TableFits (sym (check-read e))
      (table_fits set reach _ _ (check_unions set reach table) (check_byte set reach table)))
      (λ h. subst TableFits (sym (check-refused h)) (refused-fits text))
      (equal? (reading text).outcome 0)

  pub text_check_meaning : TextCheckMeaning text reach table (text_check_answer text reach table)
  text_check_meaning =
      let set = (reading text).set in
      let answer = text_check_answer text reach table in
      let refused : (reading text).outcome ≢ 0 → answer.outcome ≡ (reading text).outcome =
      λ h. ap outcome_of (check-refused h) in
      record {
        judged = text-judged text answer.outcome refused
            (λ e. subst Own (sym (check-outcome e)) (check_own set reach table));
        refused_text = check-refused;
        read_text = λ e. (
          rw (check-outcome e) (check_meaning set reach table),
          rw (check-read e) (check_unions set reach table),
        );
        never7 = not_7 text answer.outcome refused
            (λ e z. (check_meaning set reach table).not_valid.0 (sym (check-outcome e) ∙ z));
      }

  -- packed, the answer can be taken apart
  pub check-packed : (answer : TableAnswer) → answer ≡ text_check_answer text reach table
      → TextCheckMeaning text reach table answer
      → (r : ℕ) → r ≡ packed_table answer
      → (r ≡ packed_table (text_check_answer text reach table))
      × TextCheckMeaning text reach table (unpacked_table r)
  check-packed answer e means r p =
      let fits = subst TableFits (sym e) check-fits in
      let whole = ap unpacked_table p ∙ unpacked-table answer fits in
      (p ∙ ap packed_table e, subst (TextCheckMeaning text reach table) (sym whole) means)

-- ── The entries together ─────────────────────────────────────────────────────────────────────────

module _ (text : List ℕ) (reach : ℕ) where
  -- an outcome 0 comes of a text that is read
  is_read : (n : ℕ) → ((reading text).outcome ≢ 0 → n ≡ (reading text).outcome) → n ≡ 0 → (reading text).outcome ≡ 0
  is_read n refused z = ⊎_elim (λ e. e) (λ h. absurd (h (sym (refused h) ∙ z))) (equal? (reading text).outcome 0)

  -- a table of the length that is told can be built
  pub told_builds : (text_table_size text reach).outcome ≡ 0
      → (text_build_answer text reach (text_table_size text reach).length).outcome ≡ 0
  told_builds z =
      let told = text_table_size text reach in
      let e = is_read told.outcome (λ h. ((text_size_meaning text reach).refused_text h).0) z in
      build-outcome text reach told.length e
      ∙ (size_builds_iff (reading text).set reach told.length).1 (
        sym (ap (λ (a : TableSize). a.outcome) (size-read text reach e)) ∙ z,
        ap (λ (a : TableSize). a.length) (size-read text reach e),
      )

  -- and the check passes what a build leaves, and tells the same positions
  pub built_passes : (size : ℕ) → (text_build_answer text reach size).outcome ≡ 0
      → text_check_answer text reach (text_built_buffer text reach size) ≡ text_build_answer text reach size
  unfolding build_answer check_answer
  built_passes size z =
      let set = (reading text).set in
      let answer = text_build_answer text reach size in
      let e = is_read answer.outcome (λ h. ap outcome_of (build-refused text reach size h).0) z in
      let built = sym (build-outcome text reach size e) ∙ z in
      let whole = (build-read text reach size e).1 ∙ built-whole set reach size built in
      check-read text reach (text_built_buffer text reach size) e
      ∙ ap (check_answer set reach) whole
      ∙ ap (answer_with set reach (built_table set reach)) (built_checks set reach size built ∙ sym built)
      ∙ sym (build-read text reach size e).0
