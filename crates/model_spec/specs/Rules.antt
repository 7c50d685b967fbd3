-- A rule set as a transition system: its rules by number, their steps and costs, and redundancy over all its states.
use Rattle.std.specs.Prelude.{Bool, true, false, ◌&&◌, List, [], ℕ, ◌-◌, leb, get_or, replicate}
use Rattle.std.proofs.Math.Option.{Option, some, none}
use Rattle.theory_spec.specs.Lists.{every, only_if, is_some, same, any}
use Rattle.theory_spec.specs.Sequences.{Sequence, run, cost_of}
use Rattle.theory_spec.specs.Pruning.{Redundant}
use Rattle.model_spec.specs.Limits.{place_count, max_rules}
use Rattle.model_spec.specs.States.{State, applicable, successor, IsState, states}
use Rattle.model_spec.specs.declared.Rule.{Rule}
use Rattle.model_spec.specs.declared.RuleSet.{RuleSet}

-- what the logic reads past the end of an array of rules
abbrev pub no_rule : Rule
no_rule = record { cost = 0; condition = []; effect = [] }

-- an unused rule: zero throughout
abbrev pub blank_rule : Rule
blank_rule = record { cost = 0; condition = replicate place_count 0; effect = replicate place_count 0 }

-- the set with 0 positions and 0 rules, zero throughout
abbrev pub empty_set : RuleSet
empty_set = record { positions = 0; sizes = replicate place_count 0; count = 0; rules = replicate max_rules blank_rule }

-- the rule of a number from 1 to the number of rules. No answer depends on what it gives of another number: such a move
-- is refused first
unfoldable pub rule_at : RuleSet → ℕ → Rule
rule_at set r = get_or set.rules (r - 1) no_rule

-- the state that rule r leads to from s; none where it does not run
unfoldable pub step_of : RuleSet → ℕ → State → Option State
step_of set r s = only_if (applicable (rule_at set r).condition s) (successor (rule_at set r).effect s)

-- what rule r costs
unfoldable pub rule_cost : RuleSet → ℕ → ℕ
rule_cost set r = (rule_at set r).cost

-- a state of the set's sizes
abbrev pub StateOf : RuleSet → State → Type 0
StateOf set s = IsState set.positions set.sizes s

-- all of them
unfoldable pub states_of : RuleSet → List State
states_of set = states set.positions set.sizes

-- the state that a sequence leads to from s; none where it cannot be run
unfoldable pub run_in : RuleSet → Sequence → State → Option State
run_in set q s = run (step_of set) q s

-- what a sequence costs
unfoldable pub sequence_cost : RuleSet → Sequence → ℕ
sequence_cost set q = cost_of (rule_cost set) q

-- some state admits the sequence
unfoldable pub admitted : RuleSet → Sequence → Bool
admitted set q = any (λ s. is_some (run_in set q s)) (states_of set)

-- b is redundant with a, over all states of the sizes (source document 000, Definition 1)
abbrev pub RedundantIn : RuleSet → Sequence → Sequence → Type 0
RedundantIn set b a = Redundant (step_of set) (rule_cost set) (StateOf set) b a

-- where b ends, if it runs, there a ends
abbrev pub same_end : Option State → Option State → Bool
same_end none e = true
same_end (some t) none = false
same_end (some t) (some u) = same t u

-- redundancy as a test
unfoldable pub redundant : RuleSet → Sequence → Sequence → Bool
redundant set b a =
    leb (sequence_cost set a) (sequence_cost set b)
    && every (λ s. same_end (run_in set b s) (run_in set a s)) (states_of set)
