-- Rows that every run keeps to, and a location that they keep it from.
use Rattle.std.specs.Prelude.{ℕ, List, ℤ}
use Rattle.tv_linear.specs.Linear.{Linear}
use Rattle.tv_linear.specs.declared.region.Piece.{Piece}
use Rattle.tv_cases.specs.LinearCases.{CaseSystem}
use Rattle.tv_farkas.specs.Paths.{IsWholePoint}
use Rattle.tv_lexrank.specs.Closing.{LeadsOut}

-- no case leads from a state that meets the known rows to one that does not
abbrev pub AreKept : CaseSystem → List Piece → Type 0
AreKept about known = (taken : ℕ) (values : List ℤ) → LeadsOut about known taken values → ⊥

-- no integer point meets the rows
abbrev pub HaveNoPoint : ℕ → List Linear → Type 0
HaveNoPoint n rows = (xs : List ℤ) → IsWholePoint n rows xs → ⊥
