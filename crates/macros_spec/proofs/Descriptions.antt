-- What a macro's vectors say: from which states they lead, and where to; and that they describe a relation between
-- states.
-- Assumes nothing.
use mathlib.Core.Path.{◌≡◌}
use mathlib.Core.Logic.{◌↔◌}
use mathlib.Core.Option.{Option, some, none}
use mathlib.Core.List.{List}
use Prim.Native.Nat.{ℕ}
use Rattle.model_spec.specs.States.{State, values_of}
use Rattle.macros_spec.specs.Composition.{Lines}
use Rattle.macros_spec.proofs.CanonicalForm.{Canonical}

-- from s, which meets the condition, the effect leads to t; where there are no vectors, nothing leads anywhere
abbrev pub Leads : Option Lines → State → State → Type 0
Leads none s t = ⊥
Leads (some m) s t = (values_of m.condition s ≡ s) × (values_of m.effect s ≡ t)

-- vectors, where there are any, are canonical
abbrev pub Form : ℕ → List ℕ → Option Lines → Type 0
Form positions sizes none = Unit {0}
Form positions sizes (some m) = Canonical positions sizes m.condition m.effect

-- canonical vectors that lead from s to t exactly where R holds; none where it never holds
pub record Describes (positions : ℕ) (sizes : List ℕ) (R : State → State → Type 0) (o : Option Lines) : Type 0 where
  pub form : Form positions sizes o
  pub leads : (s t : State) → Leads o s t ↔ R s t

-- the same of another relation that holds exactly where R does
pub describes_as : {positions : ℕ} {sizes : List ℕ} {R Q : State → State → Type 0} {o : Option Lines}
    → Describes positions sizes R o → ((s t : State) → R s t ↔ Q s t)
    → Describes positions sizes Q o
describes_as d i =
    record { form = d.form; leads = λ s t. (λ h. (i s t).0 ((d.leads s t).0 h), λ h. (d.leads s t).1 ((i s t).1 h)) }
