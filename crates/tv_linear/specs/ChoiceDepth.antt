use Rattle.std.specs.Prelude.{ℕ, ◌+◌, max, List, [], ◌∷◌}
use Rattle.tv_linear.specs.Depth.{splits}
use Rattle.tv_linear.specs.declared.cover.CoverTree.{CoverTree}
use Rattle.tv_linear.specs.declared.choice.ChoiceTree.{ChoiceTree, Split', Empty, NoStep, Take}

-- the greatest number of splits on a path of the covers
abbrev pub most_splits : List CoverTree → ℕ
most_splits [] = 0
most_splits (cover ∷ covers) = max (splits cover) (most_splits covers)

-- the greatest number of splits on a path, counting into the covers
abbrev pub choice_splits : ChoiceTree → ℕ
choice_splits (Split' row p holds q fails) = 1 + max (choice_splits holds) (choice_splits fails)
choice_splits (Empty multipliers) = 0
choice_splits (NoStep covers) = most_splits covers.items
choice_splits (Take taken target fall draws refutations) = 0
