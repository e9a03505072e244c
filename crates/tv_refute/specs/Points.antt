use Rattle.std.specs.Prelude.{◌≡◌, ℕ, ℤ, List, length, All, Option, Some}
use Rattle.tv_linear.specs.Known.{Known, IsKnownMet}

-- no point of n columns meets all rows
abbrev pub ShareNoPoint : ℕ → List Known → Type 0
ShareNoPoint n rows = (xs : List ℤ) → length xs ≡ n → All (IsKnownMet xs) rows → ⊥

-- each point of n columns that meets the known rows meets this row too
abbrev pub Imply : ℕ → List Known → Known → Type 0
Imply n known row = (xs : List ℤ) → length xs ≡ n → All (IsKnownMet xs) known → IsKnownMet xs row

-- a target and a fall, and the rows that they owe are met at the point
pub record Enters (owed : ℕ → ℕ → Option (List Known)) (xs : List ℤ) : Type 0 where
  pub target : ℕ
  pub fall : ℕ
  pub rows : List Known
  pub owing : owed target fall ≡ Some rows
  pub met : All (IsKnownMet xs) rows

-- each point of n columns that meets the known rows enters some target by some fall
abbrev pub AllEnter : ℕ → List Known → (ℕ → ℕ → Option (List Known)) → Type 0
AllEnter n known owed = (xs : List ℤ) → length xs ≡ n → All (IsKnownMet xs) known → Enters owed xs
