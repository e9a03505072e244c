-- Covers of some of the rows.
use Rattle.std.specs.Prelude.{◌≡◌, ◌⊎◌, ◌↔◌, ℕ, ◌<◌, List, [], ◌∷◌, map, length, get_or, slice_get, IsTrue, Some, ℤ, pos, Bool, true, false}
use Rattle.tv_linear.specs.Linear.{Linear}
use Rattle.tv_linear.specs.Known.{as_given}
use Rattle.tv_linear.specs.Covers.{IsMetCover}
use Rattle.tv_linear.specs.declared.cover.CoverTree.{CoverTree, Split', Empty, Into}
use Rattle.tv_cover.specs.Targets.{owed_lists}

-- the list has a number other than 0 at the place
abbrev pub IsMultiplied : List ℤ → ℕ → Type 0
IsMultiplied ms i = (m : ℤ) × (slice_get ms i ≡ Some m) × (m ≡ pos 0 → ⊥)

-- some of the lists has
abbrev pub SomeIsMultiplied : List (List ℤ) → ℕ → Type 0
SomeIsMultiplied [] i = ⊥
SomeIsMultiplied (ms ∷ lists) i = IsMultiplied ms i ⊎ SomeIsMultiplied lists i

-- the tree multiplies the row at the place somewhere
abbrev pub Uses : CoverTree → ℕ → Type 0
Uses (Split' row p holds q fails) i = Uses holds i ⊎ Uses fails i
Uses (Empty ms) i = IsMultiplied ms.items i
Uses (Into target fall lists) i = SomeIsMultiplied (map (λ l. l.items) lists.items) i

-- the places that the tree uses are marked
pub record AreMarks (tree : CoverTree) (count : ℕ) (marks : List Bool) : Type 0 where
  pub each : length marks ≡ count
  pub used : (i : ℕ) → i < count → IsTrue (get_or marks i false) ↔ Uses tree i

-- the marked items, and those after the marks
abbrev pub picked : {A : Type 0} → List Bool → List A → List A
picked [] xs = xs
picked (mark ∷ marks) [] = []
picked (true ∷ marks) (x ∷ xs) = x ∷ picked marks xs
picked (false ∷ marks) (x ∷ xs) = picked marks xs

-- the same tree, with the multipliers of the marked rows and of the splits on the way alone
abbrev pub IsThinned : List Bool → CoverTree → CoverTree → Type 0
IsThinned marks (Split' row p holds q fails) (Split' r p' h q' f) = (r ≡ row) × IsThinned marks holds h × IsThinned marks fails f
IsThinned marks (Empty ms) (Empty ns) = ns.items ≡ picked marks ms.items
IsThinned marks (Into target fall lists) (Into t f ls) =
    (t ≡ target) × (f ≡ fall) × (map (λ l. l.items) ls.items ≡ map (λ l. picked marks l.items) lists.items)
IsThinned marks tree thin = ⊥

-- the tree is a cover of the rows by the row alone
abbrev pub Shows : ℕ → List Linear → Linear → CoverTree → Type 0
Shows n rows row tree = IsMetCover n (owed_lists ((row ∷ []) ∷ [])) (as_given rows) tree
