-- What a verdict says of a program and a property.
use Rattle.tv_program.specs.Steps.{State, Steps, IsInitial}
use Rattle.tv_program.specs.Systems.{System}
use Rattle.tv_formula.specs.Properties.{Property}
use Rattle.tv_meaning.specs.Meaning.{Holds, HoldsInitially}
use Rattle.tv_cert.specs.declared.node.Verdict.{Verdict}
use Rattle.tv_cert.specs.declared.node.Verdict.TheVariants.{Proved, Disproved}

-- the state is an initial one, and the property fails there
pub record FailsAt (p : System) (f : Property) (s : State) : Type 0 where
  pub initial : IsInitial p s
  pub fails : Holds (Steps p) f s → ⊥

-- the property holds at every initial state, or it fails at the one with these values
abbrev pub IsSettled : System → Property → Verdict → Type 0
IsSettled p f (Proved start) = HoldsInitially p f
IsSettled p f (Disproved piece values) = FailsAt p f (record { location = p.start; values = values.items })
