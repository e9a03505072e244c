use Rattle.std.specs.Prelude.{◌≡◌, ℕ, ◌<◌, List, [], ◌∷◌, length, map, get_or, Bool, true, false, ℤ, pos, ◌+ℤ◌, ◌*ℤ◌, ◌<ℤ◌, ◌≤ℤ◌, Option, None, Some}
use Rattle.tv_linear.specs.Linear.{Linear}
use Rattle.tv_linear.specs.declared.cover.CoverTree.{CoverTree, Split', Empty, Into}
use Rattle.tv_linear.specs.Known.{Known, number, known_number, KnownHeld}
use Rattle.tv_simplex.specs.Outcomes.{IsShort}
use Rattle.tv_farkas.specs.declared.branch.Branch.{Branch}
use Rattle.tv_farkas.specs.Paths.{IsWholeAt}

-- the kept rows are those that are not marked as repeated
abbrev pub IsTakenBy : List Bool → List Linear → List Linear → Type 0
IsTakenBy [] [] kept = kept ≡ []
IsTakenBy [] (r ∷ rows) kept = ⊥
IsTakenBy (b ∷ marks) [] kept = ⊥
IsTakenBy (true ∷ marks) (r ∷ rows) kept = IsTakenBy marks rows kept
IsTakenBy (false ∷ marks) (r ∷ rows) [] = ⊥
IsTakenBy (false ∷ marks) (r ∷ rows) (k ∷ kept) = (k ≡ r) × IsTakenBy marks rows kept

-- the multipliers with 0 at each repeated row; those that are left stand after them
abbrev pub stretched : List Bool → List ℤ → List ℤ
stretched [] ms = ms
stretched (true ∷ marks) ms = pos 0 ∷ stretched marks ms
stretched (false ∷ marks) [] = stretched marks []
stretched (false ∷ marks) (m ∷ ms) = m ∷ stretched marks ms

-- k is the greatest integer at most x / z
pub record IsFloor (x z k : ℤ) : Type 0 where
  pub below : (k *ℤ z) ≤ℤ x
  pub above : x <ℤ ((k +ℤ pos 1) *ℤ z)

-- each number over the scale is whole
abbrev pub AreWhole : List ℤ → ℤ → Type 0
AreWhole values scale = (j : ℕ) → j < length values → IsWholeAt values scale j

-- the coordinate is the first one that is not whole
abbrev pub IsFirstOpen : List ℤ → ℤ → ℕ → Type 0
IsFirstOpen values scale j =
    (j < length values) × ((i : ℕ) → i < j → IsWholeAt values scale i) × (IsWholeAt values scale j → ⊥)

-- the first n numbers divided by the scale; they are short
pub record AreDivided (n : ℕ) (values : List ℤ) (scale : ℤ) (xs : List ℤ) : Type 0 where
  pub size : length xs ≡ n
  pub same : (j : ℕ) → j < n → get_or values j (pos 0) ≡ get_or xs j (pos 0) *ℤ scale
  pub short : (j : ℕ) → j < n → IsShort (get_or xs j (pos 0))

-- the row as it is known in a cover has the same numbers, which can be computed
pub record IsSide (n : ℕ) (r : Linear) (k : Known) : Type 0 where
  pub inner : (j : ℕ) → j < n → known_number k (Some j) ≡ number (Some j) r
  pub constant : known_number k None ≡ r.constant
  pub held : (column : Option ℕ) → KnownHeld k column

abbrev pub AreSides : ℕ → List Linear → List Known → Type 0
AreSides n [] [] = Unit {0}
AreSides n [] (k ∷ known) = ⊥
AreSides n (r ∷ rows) [] = ⊥
AreSides n (r ∷ rows) (k ∷ known) = IsSide n r k × AreSides n rows known

-- the rows of a path
abbrev pub rows_of : List Branch → List Linear
rows_of path = map (λ b. b.row) path

-- the tree is a split at the row into the two trees
abbrev pub IsSplitOf : Linear → CoverTree → CoverTree → CoverTree → Type 0
IsSplitOf row holds fails (Split' r p h q f) = (r ≡ row) × (h ≡ holds) × (f ≡ fails)
IsSplitOf row holds fails (Empty ms) = ⊥
IsSplitOf row holds fails (Into target fall lists) = ⊥
