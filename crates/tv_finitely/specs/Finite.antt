-- States from which every run comes only finitely often to a state of some kind.
use Rattle.std.specs.Prelude.{List, ◌∷◌}
use Rattle.tv_program.specs.Runs.{IsRun, last_of}
use Rattle.tv_program.specs.Steps.{State, Steps, IsInitial}
use Rattle.tv_program.specs.Systems.{System}
use Rattle.tv_formula.specs.Properties.{Property}
use Rattle.tv_meaning.specs.Meaning.{Holds}

-- The least such set: a state is in it as soon as each state is that some run of at least one step leads to and that is visited.
pub data Finite {S : Type 0} (step : S → S → Type 0) (visited : S → Type 0) : S → Type 0 where
  all_visits : {s : S} → ((t : S) (ts : List S) → IsRun step s (t ∷ ts) → visited (last_of t ts) → Finite step visited (last_of t ts)) → Finite step visited s

-- from each initial state the property holds only finitely often
abbrev pub HoldsFinitely : System → Property → Type 0
HoldsFinitely p f = (s : State) → IsInitial p s → Finite (Steps p) (Holds (Steps p) f) s
