-- Covers that split at one row after the other.
use Rattle.std.specs.Prelude.{◌≡◌, ℕ, zero, suc, ◌+◌, ◌≤◌, List, [], ◌∷◌, ◌++◌, length, map, All, Option, Some}
use Rattle.tv_linear.specs.Linear.{Linear, columns}
use Rattle.tv_linear.specs.Arithmetic.{denial}
use Rattle.tv_linear.specs.Known.{Known, given, denied}
use Rattle.tv_linear.specs.Covers.{Shown, IsMetCover}
use Rattle.tv_linear.specs.Depth.{splits}
use Rattle.tv_linear.specs.Same.{SameNumbers}
use Rattle.tv_linear.specs.declared.cover.CoverTree.{CoverTree}
use Rattle.tv_linear.specs.declared.cover.CoverTree as cover
use Rattle.tv_farkas.specs.Trees.{TreeRows}
use Rattle.tv_shape.specs.Narrow.{CoverNarrow}
use Rattle.tv_rank.specs.Given.{lists}
use Rattle.tv_lexrank.specs.Falling.{spread, AllHeld, AreNarrowLines}
use Rattle.tv_lexrank.specs.declared.falling.Fall.{Fall}
use Rattle.tv_nested.specs.Lines.{own_lines}
use Rattle.tv_nested.specs.Signs.{sign_rows}

-- the rows to split at have the numbers of the signs after a change, and their denials those of the denied signs
abbrev pub AreChanged : ℕ → (Linear → Known) → List Linear → List Linear → Type 0
AreChanged n change [] [] = Unit {0}
AreChanged n change [] (b ∷ rows) = ⊥
AreChanged n change (r ∷ signs) [] = ⊥
AreChanged n change (r ∷ signs) (b ∷ rows) =
    SameNumbers n (given b) (change r) × SameNumbers n (denied (given b)) (change (denial r)) × AreChanged n change signs rows

-- the rows of the splits above the place where the first rows are denied, and the next is met
abbrev pub split_rows : List Linear → ℕ → List Known
split_rows [] q = []
split_rows (b ∷ rows) zero = given b ∷ []
split_rows (b ∷ rows) (suc q) = denied (given b) ∷ split_rows rows q

-- the rows of the splits where the first rows are denied
abbrev pub passed_rows : List Linear → ℕ → List Known
passed_rows rows zero = []
passed_rows [] (suc p) = []
passed_rows (b ∷ rows) (suc p) = denied (given b) ∷ passed_rows rows p

-- What leads into a target, beside `before` known rows and under `above` splits: a line for each of these splits, and then the lines of the
-- fall.
abbrev pub IsEntry : ℕ → ℕ → ℕ → Fall → CoverTree → Type 0
IsEntry target before above fall (cover.Split' r p a q b) = ⊥
IsEntry target before above fall (cover.Empty ms) = ⊥
IsEntry target before above fall (cover.Into t j ls) =
    (t ≡ target) × (j ≡ fall.number)
    × (lists ls.items ≡ own_lines (before + above) before above ++ map (spread above) (lists fall.lines.items))

-- Where the lines show the rows of a fall beside the known ones, the cover leads into the pieces by the signs, each by that fall. The first
-- rows are denied above it.
abbrev pub LeadsFrom : List Linear → ℕ → ℕ → Fall → CoverTree → Type 0
LeadsFrom rows p before fall tree =
    (n : ℕ) (known falls : List Known) (change : Linear → Known) (signs : List Linear) (wanted : ℕ → ℕ → Option (List Known)) →
    length known ≡ before → AllHeld n known → AreChanged n change signs rows → Shown n known falls (lists fall.lines.items) →
    ((q : ℕ) → q ≤ length signs → wanted q fall.number ≡ Some (map change (sign_rows signs q) ++ falls)) →
    IsMetCover n wanted (known ++ passed_rows rows p) tree

-- a cover that splits at the rows from place p on, one after the other, beside `before` known rows, with a fall into each target
pub record IsSplitFrom (rows : List Linear) (p before : ℕ) (fall : Fall) (tree : CoverTree) : Type 0 where
  pub leads : LeadsFrom rows p before fall tree
  pub deep : splits tree + p ≤ length rows
  pub even : (n : ℕ) → All (λ r. columns r ≡ n) rows → TreeRows (λ r. columns r ≡ n) tree
  pub narrow : AreNarrowLines (lists fall.lines.items) → CoverNarrow tree

-- from the first row on
abbrev pub IsSplitTree : List Linear → ℕ → Fall → CoverTree → Type 0
IsSplitTree rows before fall tree = IsSplitFrom rows 0 before fall tree
