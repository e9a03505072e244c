-- The multipliers of a case, as the rounds give them.
use Rattle.std.specs.Prelude.{ℕ, zero, suc, ◌+◌, ◌-◌, ◌<◌, ◌≤◌, List, [], ◌∷◌, ◌++◌, length, ℤ, pos}
use Rattle.tv_linear.specs.Arithmetic.{zeros}
use Rattle.tv_lexrank.specs.declared.falling.Fall.{Fall}
use Rattle.tv_lexrank.specs.declared.round.Round.{Round}
use Rattle.tv_lexrank.specs.Rounds.{lines_of, falls_in}
use Rattle.tv_lexrank.specs.Steps.{IsFall}

-- `zero_lines met n`: n times the multiplier 0 for each row that is met, and 1 for the denial of what is shown
abbrev pub zero_lines : ℕ → ℕ → List (List ℤ)
zero_lines met zero = []
zero_lines met (suc n) = zero_lines met n ++ (zeros met ++ pos 1 ∷ []) ∷ []

-- the multipliers for the number of the component, and then those of the rounds
abbrev pub round_lines : List Round → ℕ → ℕ → List (List ℤ)
round_lines rounds k met = (zeros met ++ pos 1 ∷ []) ∷ lines_of k rounds

-- the fall of a case inside a component: at the term of the round that takes it out; where none does, no rank grows of `count`
pub record IsInsideFall (rounds : List Round) (k met count : ℕ) (fall : Fall) : Type 0 where
  pub falls : falls_in k rounds < length rounds → IsFall (falls_in k rounds + 2) (round_lines rounds k met) fall
  pub keeps : length rounds ≤ falls_in k rounds → IsFall 0 (round_lines rounds k met ++ zero_lines met (count - 1 - length rounds)) fall
