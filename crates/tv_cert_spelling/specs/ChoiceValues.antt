-- Choices, apart from where they lie in memory.
use Rattle.std.specs.Prelude.{ℕ, ℤ, List, map}
use Rattle.tv_linear.specs.Linear.{Linear}
use Rattle.tv_linear.specs.declared.choice.ChoiceTree.{ChoiceTree}
use Rattle.tv_linear.specs.declared.choice.ChoiceTree as choice
use Rattle.tv_cert_spelling.specs.CoverValues.{CoverValue, cover_value}

pub data ChoiceValue : Type 0 where
  -- a choice where the row is met, and one where it is not
  split : Linear → ChoiceValue → ChoiceValue → ChoiceValue
  -- multipliers of the rows of the place
  empty : List ℤ → ChoiceValue
  -- a cover for each case
  no_step : List CoverValue → ChoiceValue
  -- a case, a target, a fall, terms for the draws, and multipliers for each row to be shown
  take : ℕ → ℕ → ℕ → List Linear → List (List ℤ) → ChoiceValue

abbrev pub choice_value : ChoiceTree → ChoiceValue
choice_value (choice.Split' r p a q b) = split r (choice_value a) (choice_value b)
choice_value (choice.Empty ms) = empty ms.items
choice_value (choice.NoStep covers) = no_step (map cover_value covers.items)
choice_value (choice.Take c k j draws lists) = take c k j draws.items (map (λ l. l.items) lists.items)
