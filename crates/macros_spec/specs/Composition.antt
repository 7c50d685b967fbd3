-- Composition of macros: the condition and the effect of a sequence, as two vectors in the form of a rule's lines.
-- This is source document 003 with two faults mended: its case 2(b), and its reading of effects as they stood before a
-- replacement (docs/DECISIONS.md).
use Rattle.std.specs.Prelude.{Bool, true, false, not, cond, ◌&&◌, List, [], ◌∷◌, map, ℕ, suc, ◌+◌, min, max, eqb}
use Rattle.std.specs.Prelude.{get_or, replicate}
use Rattle.std.proofs.Math.Option.{Option, some, none}
use Rattle.theory_spec.specs.Sequences.{Sequence}
use Rattle.model_spec.specs.Limits.{place_count, first_variable}
use Rattle.model_spec.specs.States.{places, is_constant, value_of, values_of, many_valued}
use Rattle.model_spec.specs.Rules.{rule_at}
use Rattle.model_spec.specs.declared.Rule.{Rule}
use Rattle.model_spec.specs.declared.RuleSet.{RuleSet}
use Rattle.macros_spec.specs.declared.Vectors.{Vectors}

-- the two vectors of a macro
pub record Lines : Type 0 where
  pub condition : List ℕ
  pub effect : List ℕ

-- each position's variable in its own place; 0 at a position with a single value (document 02), and beyond the
-- positions
unfoldable pub own_variables : ℕ → List ℕ → List ℕ
own_variables positions sizes = map (λ i. cond (many_valued positions sizes i) (first_variable + i) 0) places

-- the empty sequence's vectors
unfoldable pub empty_lines : RuleSet → Lines
empty_lines set = record {
  condition = own_variables set.positions set.sizes;
  effect = own_variables set.positions set.sizes;
}

-- `to` in the place of every `from`
unfoldable pub replaced : ℕ → ℕ → List ℕ → List ℕ
replaced from to entries = map (λ e. cond (eqb e from) to e) entries

-- two entries that no state makes equal: constants that differ
unfoldable pub clash : ℕ → ℕ → Bool
clash x y = is_constant x && (is_constant y && not (eqb x y))

-- two entries made equal throughout a vector: the larger is replaced by the smaller, so a variable gives way to a
-- constant and a higher variable to a lower
unfoldable pub equated : ℕ → ℕ → List ℕ → List ℕ
equated x y entries = replaced (max x y) (min x y) entries

-- from place i on, what the effect holds is made equal to what the next rule's condition asks, both read in the effect
-- as it now stands; none where two constants clash
unfoldable pub unified : List ℕ → ℕ → Lines → Option Lines
unified [] i m = some m
unified (e ∷ asked) i m =
    let have = get_or m.effect i 0 in
    let want = value_of e m.effect in
    let condition = equated have want m.condition in
    let effect = equated have want m.effect in
    cond (clash have want) none (unified asked (suc i) (record { condition = condition; effect = effect }))

-- the next rule's effect follows
unfoldable pub followed : Rule → Option Lines → Option Lines
followed rule none = none
followed rule (some m) = some (record { condition = m.condition; effect = values_of rule.effect m.effect })

-- a rule after a macro; where there is none, none
unfoldable pub extended : Rule → Option Lines → Option Lines
extended rule none = none
extended rule (some m) = followed rule (unified rule.condition 0 m)

-- the rules of a sequence after a macro
unfoldable pub composed_from : RuleSet → Sequence → Option Lines → Option Lines
composed_from set [] m = m
composed_from set (r ∷ q) m = composed_from set q (extended (rule_at set r) m)

-- the vectors of a sequence; none where two constants clash
unfoldable pub composed : RuleSet → Sequence → Option Lines
composed set q = composed_from set q (some (empty_lines set))

-- ── The vectors as the code keeps them ───────────────────────────────────────────────────────────

-- zeros where there are none
abbrev pub as_vectors : Option Lines → Vectors
as_vectors none = record { admitted = false; condition = replicate place_count 0; effect = replicate place_count 0 }
as_vectors (some m) = record { admitted = true; condition = m.condition; effect = m.effect }

-- and back; none where the code's mark says that there are none
abbrev pub lines_of : Vectors → Option Lines
lines_of v = cond v.admitted (some (record { condition = v.condition; effect = v.effect })) none
