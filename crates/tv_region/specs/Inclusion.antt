-- Rows inside of others, at integer points over n columns.
use Rattle.std.specs.Prelude.{◌≡◌, ℕ, ◌≤◌, List, length, ℤ, true}
use Rattle.tv_linear.specs.Linear.{Linear}
use Rattle.tv_region.specs.Met.{meets, all_met, some_met, Has, AreApart}
use Rattle.tv_region.specs.Adding.{IsUnder}

-- each point that meets the rows meets this one
abbrev pub IsShown : ℕ → List Linear → Linear → Type 0
IsShown n rows r = (xs : List ℤ) → length xs ≡ n → all_met xs rows ≡ true → meets xs r ≡ true

-- it meets each of the outer ones
abbrev pub LiesInside : ℕ → List Linear → List Linear → Type 0
LiesInside n rows outer = (xs : List ℤ) → length xs ≡ n → all_met xs rows ≡ true → all_met xs outer ≡ true

-- it meets one of the lists
abbrev pub LiesInSome : ℕ → List Linear → List (List Linear) → Type 0
LiesInSome n rows lists = (xs : List ℤ) → length xs ≡ n → all_met xs rows ≡ true → some_met xs lists ≡ true

-- of the lists some are kept, and each point that meets one of the lists meets one of these
pub record IsPruned (n : ℕ) (old new : List (List Linear)) : Type 0 where
  pub met : (xs : List ℤ) → length xs ≡ n → some_met xs new ≡ some_met xs old
  pub among : (list : List Linear) → Has new list → Has old list
  pub apart : AreApart IsUnder old → AreApart IsUnder new
  pub bounded : length new ≤ length old
