-- What the builder's search finds, and the entry that it gives: the first index that serves is at most the sequence's
-- own, and is the witness where it is smaller.
-- Assumes nothing.
use mathlib.Core.Path.{◌≡◌, refl, sym, ap₂, ◌∙◌, subst}
use mathlib.Core.Bool.{Bool, true, false, cond}
use mathlib.Core.List.Memᴰ
use mathlib.Core.List.{List, [], ◌∷◌, map}
use Prim.Native.Nat.{ℕ, zero, suc, ◌+◌, ◌≤◌, ◌<◌}
use native.Mathlib.Nat.{zero-add}
use native.Mathlib.Omega.{arith}
use lib.Dec.{eqb}
use lib.ListN.{length, get_or, take}
use borrow.Author.Tests.{eq-eqb, ne_eqb}
use Rattle.theory_spec.specs.Lists.{◌∈◌, numbers_from}
use Rattle.theory_spec.specs.Sequences.{Sequence, Numbered, sequences}
use Rattle.theory_spec.specs.How.Indices.{index_of, level_start}
use Rattle.theory_spec.proofs.ListLaws.{here}
use Rattle.theory_spec.proofs.SequenceLaws.{of-sequences}
use Rattle.theory_spec.proofs.IndexLaws.{sequences_all}
use Rattle.model_spec.specs.Rules.{sequence_cost, redundant}
use Rattle.model_spec.specs.Validity.{WellFormed}
use Rattle.model_spec.specs.declared.RuleSet.{RuleSet}
use Rattle.model_spec.proofs.RedundancyLaws.{redundant_iff}
use Rattle.macros_spec.specs.Composition.{composed}
use Rattle.macros_spec.specs.Redundancy.{redundant_by_lines}
use Rattle.macros_spec.proofs.CoverLaws.{numbered_passes, redundant_by-lines}
use Rattle.tables_spec.specs.Table.{table_entries, sequence_at, kept, first_index, built_entry}
use Rattle.tables_spec.proofs.CountLaws.{count-sequences}
use Rattle.tables_spec.proofs.TableLaws.{index_sequence}
use Rattle.tables_laws.specs.How.Witnesses.{first_behind, serves}

-- ── The first index that passes ──────────────────────────────────────────────────────────────────

-- in a list whose sequences have the indices i, i + 1 and so on, the first that passes has the first index
behind-index : (m : ℕ) (test : Sequence → Bool) (i k : ℕ) (l : List Sequence) → map (index_of m) l ≡ numbers_from i k
    → first_behind m 0 test l ≡ first_index test i l
behind-index m test i k [] e = refl
behind-index m test i zero (q ∷ later) e = absurd (let z : ◌≡◌ {A = ℕ} 0 1 = cc in omega arith)
behind-index m test i (suc k) (q ∷ later) e =
    let h : index_of m q ≡ i = cc in
    let t : map (index_of m) later ≡ numbers_from (suc i) k = cc in
    ap₂ (cond (test q)) h (behind-index m test (suc i) k later t)

-- two tests that agree on the list
first-same : (p test : Sequence → Bool) (i : ℕ) (l : List Sequence) → ((a : Sequence) → a ∈ l → p a ≡ test a)
    → first_index p i l ≡ first_index test i l
first-same p test i [] h = refl
first-same p test i (a ∷ later) h =
    ap₂ (λ b n. cond b i n) (h a (here a later)) (first-same p test (suc i) later (λ q d. h q (Memᴰ.tail d)))

-- where the sequence at i passes, whose index from j on is n, the first index is n or that of an earlier one
first-earlier : (test : Sequence → Bool) (j i n : ℕ) (l : List Sequence) → n ≡ j + i → i < length l
    → test (get_or l i []) ≡ true
    → (first_index test j l ≤ n) × (first_index test j (take i l)
    ≡ cond (eqb (first_index test j l) n) kept (first_index test j l))
first-earlier test j i n [] p h e = absurd (omega arith)
first-earlier test j zero n (q ∷ later) p h e = rw e (omega arith, sym (rw (eq-eqb j n (omega arith))))
first-earlier test j (suc i) n (q ∷ later) p h e =
    go (test q) (first-earlier test (suc j) i n later (omega arith) (omega arith) e)
  where
    all : ℕ
    all = first_index test (suc j) later

    go : (b : Bool) → (all ≤ n) × (first_index test (suc j) (take i later) ≡ cond (eqb all n) kept all)
        → (cond b j all ≤ n) × (cond b j (first_index test (suc j) (take i later))
        ≡ cond (eqb (cond b j all) n) kept (cond b j all))
    go true w = (omega arith, sym (rw (ne_eqb j n (λ same. omega arith))))
    go false w = w

-- ── The search for a witness ─────────────────────────────────────────────────────────────────────

-- the search's test is redundancy
serves-redundant : (set : RuleSet) → WellFormed set → (b a : Sequence) → Numbered set.count b
    → Numbered set.count a
    → serves set (composed set b) (sequence_cost set b) a ≡ redundant set b a
unfolding serves redundant_by_lines
serves-redundant set valid b a nb na =
    sym (rw (numbered_passes set valid a na)) ∙ redundant_by-lines set valid b a nb na

-- a sequence is redundant with itself
redundant-itself : (set : RuleSet) (b : Sequence) → redundant set b b ≡ true
redundant-itself set b = (redundant_iff set b b).1 (omega arith, λ s t d e. e)

-- what the search finds for sequence i is at most i; the entry is 65535 where it is i, and else what is found
pub built-found : (set : RuleSet) → WellFormed set → (i : ℕ) → i < table_entries set 3
    → (f : ℕ) → f ≡ first_behind set.count 0
    (serves set (composed set (sequence_at set 3 i)) (sequence_cost set (sequence_at set 3 i)))
    (sequences set.count 3)
    → (f ≤ i) × (built_entry set 3 i ≡ cond (eqb f i) kept f)
unfolding table_entries sequence_at built_entry
built-found set valid i h f e =
    subst (λ n. (n ≤ i) × (built_entry set 3 i ≡ cond (eqb n i) kept n)) (sym (e ∙ found))
    (first-earlier (redundant set b) 0 i i all (sym (zero-add i)) (omega (arith, count-sequences set.count 3))
    (redundant-itself set b))
  where
    all : List Sequence
    all = sequences set.count 3

    b : Sequence
    b = get_or all i []

    test : Sequence → Bool
    test = serves set (composed set b) (sequence_cost set b)

    found : first_behind set.count 0 test all ≡ first_index (redundant set b) 0 all
    found =
        behind-index set.count test 0 (level_start set.count 4) all (sequences_all set.count 3)
        ∙ first-same test (redundant set b) 0 all
        (λ a d. serves-redundant set valid b a (index_sequence set 3 i h).1 (of-sequences set.count 3 d).1)
