use Rattle.std.specs.Prelude.{ℕ, List, ℤ, map, All, Bool, true, false}
use Rattle.tv_linear.specs.Linear.{Linear, IsMet}
use Rattle.tv_farkas.specs.Paths.{IsWholePoint}
use Rattle.tv_cover.specs.declared.covered.Covered.{Covered}
use Rattle.tv_cover.specs.declared.covered.Covered.TheVariants.{Tree, Hole}
use Rattle.tv_invariant.specs.declared.seen.Seen.{Seen}

-- what is seen holds of the rows over n columns: the points are integer points of them, and each integer point meets the rows that are shown
pub record IsSeen (n : ℕ) (rows : List Linear) (seen : Seen) : Type 0 where
  pub points : All (IsWholePoint n rows) (map (λ p. p.items) seen.points.items)
  pub shown : (xs : List ℤ) → IsWholePoint n rows xs → All (IsMet xs) seen.shown.items

-- each integer point of the rows meets the row, or one does not
abbrev pub IsSettled : ℕ → List Linear → Linear → Bool → Type 0
IsSettled n rows r true = (xs : List ℤ) → IsWholePoint n rows xs → IsMet xs r
IsSettled n rows r false = (xs : List ℤ) × IsWholePoint n rows xs × (IsMet xs r → ⊥)

-- each integer point of the rows meets the row, or this one does not
abbrev pub IsAsked : ℕ → List Linear → Linear → Covered → Type 0
IsAsked n rows r (Tree cover) = (xs : List ℤ) → IsWholePoint n rows xs → IsMet xs r
IsAsked n rows r (Hole point) = IsWholePoint n rows point.items × (IsMet point.items r → ⊥)
