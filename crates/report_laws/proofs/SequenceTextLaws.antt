-- The text of a sequence by its index: no rule, one, or two with a comma between them; and that it is the text of the
-- sequence at that place of the table.
-- Assumes nothing.
use mathlib.Core.Path.{◌≡◌, refl, ap, ◌∙◌}
use mathlib.Core.List.{[], ◌∷◌, ◌++◌, map}
use Prim.Native.Nat.{ℕ, zero, suc, ◌+◌, ◌-◌, ◌/◌, ◌%◌, ◌≤◌, ◌<◌, max}
use native.Mathlib.Nat.{div-eq_of_lt, mod-eq_of_lt, mod-lt, div-lt_iff_lt-mul}
use native.Mathlib.Numerals.{add-one}
use native.Mathlib.Omega.{arith}
use Rattle.theory_spec.specs.How.Indices.{sequence_of}
use Rattle.theory_spec.proofs.IndexLaws.{sequence_at_lem}
use Rattle.model_spec.specs.declared.RuleSet.{RuleSet}
use Rattle.files_spec.specs.Text.{comma, numeral, comma_list}
use Rattle.tables_spec.specs.Table.{table_entries, sequence_at}
use Rattle.tables_spec.proofs.CountLaws.{count-sequences}
use Rattle.report_spec.specs.Listing.{sequence_items}
use Rattle.report_laws.specs.How.Marks.{sequence_text}

-- index 0
pub text_none : (m i : ℕ) → i < 1 → sequence_text m i ≡ []
unfolding sequence_text
text_none m zero h = refl
text_none m (suc i) h = absurd (omega arith)

module _ (m many : ℕ) (e : many ≡ max m 1) where
  -- the text, by the number of rules that counts
  by-many : (i : ℕ) → sequence_text m i ≡ comma_list (map numeral (sequence_of many 2 i))
  unfolding sequence_text
  by-many i = rw e

  -- an index up to the number of rules
  pub text_one : (i : ℕ) → 1 ≤ i → i ≤ many → sequence_text m i ≡ numeral i
  text_one zero h k = absurd (omega arith)
  text_one (suc i) h k =
      let l : i < many = omega arith in
      let q : i / many ≡ 0 = div-eq_of_lt l in
      let r : i % many ≡ i = mod-eq_of_lt l in
      by-many (suc i) ∙ rw (q, r, add-one i)

  -- a remainder and 1 is a rule's number
  pub rule-number : (n : ℕ) → n % many + 1 ≤ many
  rule-number n = let some : 1 ≤ many = omega arith in omega (arith, mod-lt n {m = many} some)

  module _ (i : ℕ) (h : many < i) where
    -- there is a rule before the last
    pub rule-before : 1 ≤ (i - 1) / many
    rule-before = low ((i - 1) / many) refl
      where
        some : 1 ≤ many
        some = omega arith

        low : (q : ℕ) → (i - 1) / many ≡ q → 1 ≤ q
        low zero f = absurd (omega (arith, (div-lt_iff_lt-mul {k = many} {x = i - 1} {y = 1} some).0 (omega arith)))
        low (suc q) f = omega arith

    -- an index above the number of rules
    pub text_two : sequence_text m i
        ≡ numeral (((i - 1) / many - 1) % many + 1) ++ (comma ∷ numeral ((i - 1) % many + 1))
    text_two =
        let f : i ≡ suc (i - 1) = omega arith in
        by-many i ∙ ap (λ n. comma_list (map numeral (sequence_of many 2 n))) f
        ∙ ap (λ q. comma_list (map numeral (q ++ (((i - 1) % many + 1) ∷ [])))) (first ((i - 1) / many) rule-before)
      where
        -- the sequence of one rule
        first : (q : ℕ) → 1 ≤ q → sequence_of many 1 q ≡ ((q - 1) % many + 1) ∷ []
        first zero some = absurd (omega arith)
        first (suc q) some = let g : suc q - 1 ≡ q = omega arith in rw g

-- it is the text of the sequence at that place
pub text_at : (set : RuleSet) → 1 ≤ set.count → (i : ℕ) → i < table_entries set 2
    → sequence_text set.count i ≡ comma_list (sequence_items (sequence_at set 2 i))
unfolding sequence_text table_entries sequence_at
text_at set some i h =
    let e : max set.count 1 ≡ set.count = omega arith in
    rw e
    (ap (λ q. comma_list (map numeral q))
    (sequence_at_lem set.count 2 2 i (omega arith) (omega (arith, count-sequences set.count 2))))
