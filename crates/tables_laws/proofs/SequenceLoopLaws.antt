-- The sequence of an index, as the code writes it: the turns of the loop from its last rule to its first, what the
-- sequence is, and the part of the array that is then lent. In the loop, what is left is the sequence of `rest`, of at
-- most `start` rules, and the rules of the array from `start` on stand behind it.
-- Assumes nothing.
use mathlib.Core.Path.{◌≡◌, refl, sym, ap, ◌∙◌}
use mathlib.Core.List.{List, [], ◌∷◌, ◌++◌}
use Prim.Native.Nat.{ℕ, zero, suc, min, max, ◌+◌, ◌-◌, ◌/◌, ◌%◌, ◌≤◌, ◌<◌}
use native.Mathlib.Nat.{mod-lt}
use native.Mathlib.Omega.{arith}
use lib.ListN.{length, set, take, drop, length-append, length-drop}
use lib.Seq.{length-take-le, take_all, append_snoc, set_split, drop_at}
use Rattle.theory_spec.specs.Sequences.{Sequence, Numbered}
use Rattle.theory_spec.specs.How.Indices.{sequence_of}
use Rattle.theory_spec.proofs.SequenceLaws.{numbered-append}
use Rattle.theory_spec.proofs.IndexLaws.{sequence_at_lem}
use Rattle.model_spec.specs.Validity.{WellFormed}
use Rattle.model_spec.specs.declared.RuleSet.{RuleSet}
use Rattle.model_spec.proofs.MoveLaws.{numbered_wider}
use Rattle.tables_spec.specs.Table.{table_entries, sequence_at}
use Rattle.tables_spec.proofs.CountLaws.{count-sequences}
use Rattle.tables_laws.specs.How.ShortSequences.{short_sequence}

-- ── The loop ─────────────────────────────────────────────────────────────────────────────────────

-- that rule goes in front of the others
pub sequence_go : (m start rest : ℕ) (rules : List ℕ) → 0 < start → 0 < rest → start ≤ length rules
    → sequence_of m start rest ++ drop start rules
    ≡ sequence_of m (start - 1) ((rest - 1) / m) ++ drop (start - 1) (set rules (start - 1) ((rest - 1) % m + 1))
sequence_go m zero rest rules some more l = absurd (omega arith)
sequence_go m (suc start) zero rules some more l = absurd (omega arith)
sequence_go m (suc start) (suc rest) rules some more l =
    let e : suc start - 1 ≡ start = omega arith in
    let e' : suc rest - 1 ≡ rest = omega arith in
    rw (e, e') (append_snoc front last (drop (suc start) rules) ∙ ap (λ q. front ++ q) (sym written))
  where
    front : Sequence
    front = sequence_of m start (rest / m)

    last : ℕ
    last = rest % m + 1

    written : drop start (set rules start last) ≡ last ∷ drop (suc start) rules
    written =
        ap (drop start) (set_split rules start last l)
        ∙ drop_at (take start rules) (last ∷ drop (suc start) rules) start (length-take-le start rules (omega arith))

-- no rule is left
pub sequence-end : (m start rest : ℕ) → rest ≡ 0 → sequence_of m start rest ≡ []
sequence-end m zero rest h = refl
sequence-end m (suc start) zero h = refl
sequence-end m (suc start) (suc rest) h = absurd (omega arith)

-- no place is left
pub sequence_full : (m start rest : ℕ) → start ≤ 0 → sequence_of m start rest ≡ []
sequence_full m zero rest h = refl
sequence_full m (suc start) rest h = absurd (omega arith)

-- ── What the sequence of an index is ─────────────────────────────────────────────────────────────

sequence-length : (m n i : ℕ) → length (sequence_of m n i) ≤ n
sequence-length m zero i = omega arith
sequence-length m (suc n) zero = omega arith
sequence-length m (suc n) (suc k) =
    omega (arith, length-append (sequence_of m n (k / m)) ((k % m + 1) ∷ []), sequence-length m n (k / m))

sequence_numbered : (m n i : ℕ) → 1 ≤ m → Numbered m (sequence_of m n i)
sequence_numbered m zero i h = tt
sequence_numbered m (suc n) zero h = tt
sequence_numbered m (suc n) (suc k) h =
    numbered-append m (sequence_of m n (k / m)) ((k % m + 1) ∷ []) (sequence_numbered m n (k / m) h)
    (omega arith, omega (arith, mod-lt k {m = m} h), tt)

-- it has at most three rules, with numbers from 1 to 31
pub short_numbered : (m i : ℕ) → Numbered 31 (short_sequence m i) × (length (short_sequence m i) ≤ 3)
unfolding short_sequence
short_numbered m i =
    let few = max 1 (min m 31) in
    let q = sequence_numbered few 3 i (omega arith) in
    (numbered_wider few 31 (sequence_of few 3 i) (omega arith) q, sequence-length few 3 i)

-- in a table it is the one at the index
pub near_at : (set : RuleSet) → WellFormed set → (reach : ℕ) → reach ≤ 3 → (i : ℕ) → i < table_entries set reach
    → short_sequence set.count i ≡ sequence_at set reach i
unfolding short_sequence table_entries sequence_at
near_at set valid reach near i h =
    let e : max 1 (min set.count 31) ≡ set.count = omega (arith, valid.count_limits) in
    rw e (sequence_at_lem set.count reach 3 i near (omega (arith, count-sequences set.count reach)))

pub short_at : (set : RuleSet) → WellFormed set → (i : ℕ) → i < table_entries set 3
    → short_sequence set.count i ≡ sequence_at set 3 i
short_at set valid i h = near_at set valid 3 (omega arith) i h

-- ── The part of the array that is lent ───────────────────────────────────────────────────────────

-- from a place to the end
pub part_rest : (start : ℕ) (rules : List ℕ) → take (length rules - start) (drop start rules) ≡ drop start rules
part_rest start rules = take_all (length rules - start) (drop start rules) (omega (arith, length-drop start rules))

-- from a place to the end of three
pub part_three : (start : ℕ) (rules : List ℕ) → length rules ≡ 3
    → take (3 - start) (drop start rules) ≡ drop start rules
part_three start rules size = take_all (3 - start) (drop start rules) (omega (arith, length-drop start rules))
