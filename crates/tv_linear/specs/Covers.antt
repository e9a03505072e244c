use Rattle.std.specs.Prelude.{ℕ, List, [], ◌∷◌, ◌++◌, map, ℤ, Option, None, Some}
use Rattle.tv_linear.specs.Known.{Known, given, denied}
use Rattle.tv_linear.specs.Refutation.{Refutes}
use Rattle.tv_linear.specs.declared.cover.CoverTree.{CoverTree, Split', Empty, Into}

-- each row owed has a list of multipliers that refute its denial beside the known rows
abbrev pub Shown : ℕ → List Known → List Known → List (List ℤ) → Type 0
Shown n known [] [] = Unit {0}
Shown n known (r ∷ owed) (ms ∷ lists) = Refutes n (known ++ denied r ∷ []) ms × Shown n known owed lists
Shown n known [] (ms ∷ lists) = ⊥
Shown n known (r ∷ owed) [] = ⊥

-- there is such a target and fall, and the rows that they owe are shown
abbrev pub ShownAt : ℕ → List Known → Option (List Known) → List (List ℤ) → Type 0
ShownAt n known None lists = ⊥
ShownAt n known (Some owed) lists = Shown n known owed lists

-- the cover is met at the known rows, which have n columns; owed gives the rows to be shown on entering a
-- target by a fall
abbrev pub IsMetCover : ℕ → (ℕ → ℕ → Option (List Known)) → List Known → CoverTree → Type 0
IsMetCover n owed known (Split' r p holds q fails) =
    IsMetCover n owed (known ++ given r ∷ []) holds × IsMetCover n owed (known ++ denied (given r) ∷ []) fails
IsMetCover n owed known (Empty ms) = Refutes n known ms.items
IsMetCover n owed known (Into target fall lists) = ShownAt n known (owed target fall) (map (λ l. l.items) lists.items)

-- there is no target
abbrev pub no_target : ℕ → ℕ → Option (List Known)
no_target k j = None
