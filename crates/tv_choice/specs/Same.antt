use Rattle.std.specs.Prelude.{ℕ, List}
use Rattle.tv_linear.specs.Linear.{Linear}
use Rattle.tv_linear.specs.Known.{Known, as_given}
use Rattle.tv_linear.specs.Same.{AreSame}

-- the known rows have the numbers of these rows, over any columns
abbrev pub AreKnown : List Linear → List Known → Type 0
AreKnown rows known = (w : ℕ) → AreSame w (as_given rows) known
