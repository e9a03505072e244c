use Rattle.std.specs.Prelude.{List, ℤ}
use Rattle.std.specs.List.{Contains}
use Rattle.tv_linear.specs.Linear.{Linear, IsMet}

-- one of the points does not meet the row
abbrev pub FailsAt : List (List ℤ) → Linear → Type 0
FailsAt points row = (xs : List ℤ) × Contains points xs × (IsMet xs row → ⊥)
