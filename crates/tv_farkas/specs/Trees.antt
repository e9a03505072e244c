use Rattle.std.specs.Prelude.{List, map, All, ℤ}
use Rattle.tv_linear.specs.Linear.{Linear}
use Rattle.tv_linear.specs.declared.cover.CoverTree.{CoverTree, Split', Empty, Into}

-- the row of each split of a tree has the property
abbrev pub TreeRows : (Linear → Type 0) → CoverTree → Type 0
TreeRows P (Split' r p holds q fails) = P r × TreeRows P holds × TreeRows P fails
TreeRows P (Empty multipliers) = Unit {0}
TreeRows P (Into target fall lists) = Unit {0}

-- each list of multipliers of a tree has the property
abbrev pub TreeNumbers : (List ℤ → Type 0) → CoverTree → Type 0
TreeNumbers P (Split' r p holds q fails) = TreeNumbers P holds × TreeNumbers P fails
TreeNumbers P (Empty multipliers) = P multipliers.items
TreeNumbers P (Into target fall lists) = All P (map (λ l. l.items) lists.items)
