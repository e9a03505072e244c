use Rattle.std.specs.Prelude.{◌≡◌, ℕ, List, length, All, ℤ}
use Rattle.tv_linear.specs.Linear.{Linear, IsMet}

-- each list of n numbers that meets the rows meets the row too
abbrev pub Follows : ℕ → List Linear → Linear → Type 0
Follows n rows r = (xs : List ℤ) → length xs ≡ n → All (IsMet xs) rows → IsMet xs r
