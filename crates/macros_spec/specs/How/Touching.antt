-- The two sets of a sequence as the code makes them, among positions that it is told. No promise of a call needs this
-- file: the law `touched-within` equates it with `touched_of`.
use Rattle.std.specs.Prelude.{◌&&◌, ℕ}
use Rattle.std.proofs.Math.Option.{Option, some, none}
use Rattle.theory_spec.specs.Sets.{has, set_of}
use Rattle.model_spec.specs.Limits.{place_count}
use Rattle.model_spec.specs.States.{many_valued}
use Rattle.model_spec.specs.declared.RuleSet.{RuleSet}
use Rattle.macros_spec.specs.Composition.{Lines}
use Rattle.macros_spec.specs.Touched.{read_at, written_at, untouched}
use Rattle.macros_spec.specs.declared.Touched.{Touched}

-- the positions with two values or more
unfoldable pub wide_positions : RuleSet → ℕ
wide_positions set = set_of (many_valued set.positions set.sizes) place_count

-- what vectors read and write among the positions of `wide`; nothing where there are none
unfoldable pub touched_within : ℕ → Option Lines → Touched
touched_within wide none = untouched
touched_within wide (some m) = record {
  reads = set_of (λ i. has wide i && read_at m i) place_count;
  writes = set_of (λ i. has wide i && written_at m i) place_count;
}
