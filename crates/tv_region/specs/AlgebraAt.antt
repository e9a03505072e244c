-- The lists of rows of an intersection, a union and a complement at a location.
use Rattle.std.specs.Prelude.{◌≡◌, ℕ, ◌+◌, ◌*◌, ◌≤◌, List, ℤ, Bool, true, false, ◌&&◌, ◌||◌, not}
use Rattle.tv_linear.specs.Linear.{Linear}
use Rattle.tv_linear.specs.declared.region.Region.{Region}
use Rattle.tv_region.specs.Met.{some_met}
use Rattle.tv_region.specs.Regions.{lists_at, count_at, IsAt}
use Rattle.tv_region.specs.Algebra.{OfEither, OfRest, denied_count}

-- whether the point meets a piece at the location
abbrev pub has_state : Region → ℕ → List ℤ → Bool
has_state region l xs = some_met xs (lists_at l region.pieces.items)

abbrev pub InBoth : Region → Region → ℕ → List ℤ → Type 0
InBoth a b l xs = (has_state a l xs && has_state b l xs) ≡ true

abbrev pub OutOfBoth : Region → Region → ℕ → List ℤ → Type 0
OutOfBoth a b l xs = (has_state a l xs && has_state b l xs) ≡ false

abbrev pub InEither : Region → Region → ℕ → List ℤ → Type 0
InEither a b l xs = (has_state a l xs || has_state b l xs) ≡ true

abbrev pub OutOfEither : Region → Region → ℕ → List ℤ → Type 0
OutOfEither a b l xs = (has_state a l xs || has_state b l xs) ≡ false

abbrev pub InRest : Region → ℕ → List ℤ → Type 0
InRest a l xs = not (has_state a l xs) ≡ true

abbrev pub OutOfRest : Region → ℕ → List ℤ → Type 0
OutOfRest a l xs = not (has_state a l xs) ≡ false

abbrev pub IsBothAt : Region → Region → ℕ → List (List Linear) → Type 0
IsBothAt a b l lists = IsAt a.variables (InBoth a b l) (OutOfBoth a b l) (OfEither a b l) (λ k. k ≤ count_at l a * count_at l b) lists

abbrev pub IsEitherAt : Region → Region → ℕ → List (List Linear) → Type 0
IsEitherAt a b l lists = IsAt a.variables (InEither a b l) (OutOfEither a b l) (OfEither a b l) (λ k. k ≤ count_at l a + count_at l b) lists

abbrev pub IsRestAt : Region → ℕ → List (List Linear) → Type 0
IsRestAt a l lists = IsAt a.variables (InRest a l) (OutOfRest a l) (OfRest a l) (λ k. k ≤ denied_count a l) lists
