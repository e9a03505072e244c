use Rattle.std.specs.Prelude.{◌≡◌, ℕ, List, get_or, Bool, true, false}
use Rattle.tv_cases.specs.declared.case.Case.{Case}

-- what is closed then was so before, and no case from the location
abbrev pub IsReopened : List Case → ℕ → List Bool → List Bool → Type 0
IsReopened list location before after = (k : ℕ) → get_or after k true ≡ false → (get_or before k true ≡ false) × ((case : Case) → (get_or list k case).from ≡ location → ⊥)
