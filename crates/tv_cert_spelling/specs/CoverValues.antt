-- Covers, apart from where they lie in memory.
use Rattle.std.specs.Prelude.{ℕ, ℤ, List, map}
use Rattle.tv_linear.specs.Linear.{Linear}
use Rattle.tv_linear.specs.declared.cover.CoverTree.{CoverTree}
use Rattle.tv_linear.specs.declared.cover.CoverTree as cover

pub data CoverValue : Type 0 where
  -- a cover where the row is met, and one where it is not
  split : Linear → CoverValue → CoverValue → CoverValue
  -- multipliers of the rows of the place
  empty : List ℤ → CoverValue
  -- a target, a fall, and multipliers for each row to be shown
  into : ℕ → ℕ → List (List ℤ) → CoverValue

abbrev pub cover_value : CoverTree → CoverValue
cover_value (cover.Split' r p a q b) = split r (cover_value a) (cover_value b)
cover_value (cover.Empty ms) = empty ms.items
cover_value (cover.Into k j lists) = into k j (map (λ l. l.items) lists.items)
