-- The paths of a choice: which rows it splits at, and which questions it asks at the end of a path.
use Rattle.std.specs.Prelude.{◌≡◌, ◌⊎◌, ℕ, ◌+◌, ◌<◌, List, [], ◌∷◌, ◌++◌, length, map, take, drop, get_or, All, ℤ, pos, neg_ℤ, Option, None, Some, Vec, IsTrue}
use Rattle.std.specs.List.{Contains}
use Rattle.tv_linear.specs.Linear.{Linear, columns, value, IsMet}
use Rattle.tv_linear.specs.Arithmetic.{unit, opposite, denial, constant_row, padded_row}
use Rattle.tv_linear.specs.declared.region.Piece.{Piece}
use Rattle.tv_farkas.specs.declared.branch.Branch.{Branch}
use Rattle.tv_farkas.specs.Paths.{IsWholePoint, IsPointSplit, IsPath}
use Rattle.tv_farkas.specs.EmptyPaths.{IsWholePointOf}
use Rattle.tv_cases.specs.LinearCases.{LinearCase}
use Rattle.tv_cover.specs.Targets.{HasPoint, IsNarrowRow}
use Rattle.tv_cover.specs.CoverPaths.{IsLeftOpen, IsShut}
use Rattle.tv_choice.specs.Rows.{fixes, case_rows, put_rows}
use Rattle.tv_choice.specs.Leading.{Query, IsServed, IsEntry, piece_rows}
use Rattle.tv_choice.specs.Targets.{front, draw_choices, targets}

-- the rows above over the variables and the draws of a case, and its guards
abbrev pub starting_rows : List Linear → LinearCase → List Linear
starting_rows above c = map (padded_row c.draws) above ++ c.guards

-- the values fixed over the variables and the draws of a case, and the rows that are met where it is taken into a piece
abbrev pub stepping_rows : ℕ → List ℤ → LinearCase → Piece → List Linear
stepping_rows n xs c p = fixes (n + c.draws) 0 xs ++ case_rows c (piece_rows p)

-- Whole values that a choice takes at the rows above: their point. Where a state without a step may stop, it is the point of these rows
-- and the guards of a case, and its values for the variables are taken.
pub data IsPointHere (n : ℕ) (q : Query) (above : List Linear) : List ℤ → Type 0 where
  own : (xs : List ℤ) → IsWholePointOf n above xs → IsPointHere n q above xs
  start : (c : LinearCase) (zs : List ℤ) → IsTrue q.stop → Contains q.system.cases c → c.from ≡ q.location → IsWholePointOf (n + c.draws) (starting_rows above c) zs → IsPointHere n q above (take n zs)

-- the term that a row over n variables and d draws gives for draw j, at which it has 1 or -1, where it has 0 at the others
abbrev pub GivesAlone : ℕ → ℕ → Linear → ℕ → Linear → Type 0
GivesAlone n d r j t =
    ((drop n r.coefficients ≡ unit d j) × (t ≡ opposite (front n r)))
    ⊎ ((drop n r.coefficients ≡ map neg_ℤ (unit d j)) × (t ≡ front n r))

-- a term for draw j at an integer point of the variables and d draws: its number there, or the term that a row gives whose value there is 0
pub data IsTermAt (n d : ℕ) (rows : List Linear) (zs : List ℤ) (j : ℕ) : Linear → Type 0 where
  number : IsTermAt n d rows zs j (constant_row n (get_or zs (n + j) (pos 0)))
  tight : (r t : Linear) → Contains rows r → GivesAlone n d r j t → value r zs ≡ pos 0 → IsTermAt n d rows zs j t

-- a term for each draw
pub record AreTermsAt (n d : ℕ) (rows : List Linear) (zs : List ℤ) (draws : List Linear) : Type 0 where
  pub many : length draws ≡ d
  pub each : (j : ℕ) (other : Linear) → j < d → IsTermAt n d rows zs j (get_or draws j other)

-- Terms for the draws of a case that is taken into a piece: those that its rows give, or terms at an integer point from which the case leads
-- there; the values of the variables were taken at these rows or at some before them.
pub data AreDrawTerms (n : ℕ) (q : Query) (above : List Linear) (c : LinearCase) (p : Piece) : List Linear → Type 0 where
  by_rows : (draws : List Linear) → Contains (draw_choices c.draws n (case_rows c (piece_rows p))) draws → AreDrawTerms n q above c p draws
  at_point : (draws earlier later : List Linear) (xs zs : List ℤ) → above ≡ earlier ++ later → IsPointHere n q earlier xs → IsWholePointOf (n + c.draws) (stepping_rows n xs c p) zs → AreTermsAt n c.draws (case_rows c (piece_rows p)) zs draws → AreDrawTerms n q above c p draws

-- The case is from the location, and the piece stands at its end. The rows of the case, and those of the piece read before it, have a
-- column for each variable and each draw, and they are narrow.
pub record IsWayIn (n : ℕ) (q : Query) (c : LinearCase) (p : Piece) : Type 0 where
  pub entry : IsEntry q c p
  pub even : All (λ r. columns r ≡ n + c.draws) (case_rows c (piece_rows p))
  pub narrow : All IsNarrowRow (case_rows c (piece_rows p))

-- a way to step at the rows above: the rows, which are narrow, that are met where a case is taken into a piece, with terms for its draws
pub record IsWayRows (n : ℕ) (q : Query) (above rows : List Linear) : Type 0 where
  pub case : LinearCase
  pub piece : Piece
  pub way_in : IsWayIn n q case piece
  pub draws : List Linear
  pub terms : AreDrawTerms n q above case piece draws
  pub same : rows ≡ put_rows n draws (case_rows case (piece_rows piece))
  pub narrow : All IsNarrowRow rows

-- The split is at a row of a way. Each row of the way is met by some scaled point of the rows above. Some point does not meet the row
-- `at`, and its denial is narrow. The side where the row is denied is settled first: where the row is on the path, each integer point of the
-- rows above that meets the denial is no hole.
pub record IsRowSplit (n : ℕ) (q : Query) (above : List Linear) (row : Linear) : Type 0 where
  pub rows : List Linear
  pub way : IsWayRows n q above rows
  pub entered : All (λ r. HasPoint n (above ++ r ∷ [])) rows
  pub at : Linear
  pub among : Contains rows at
  pub narrow : IsNarrowRow (denial at)
  pub denied : HasPoint n (above ++ denial at ∷ [])
  pub side :
      (row ≡ denial at)
      ⊎ ((row ≡ at)
      × ((xs : List ℤ) → IsWholePoint n above xs → IsMet xs (denial at) → IsServed q xs))

-- The split is at a coordinate of the kept point, and each target has a row that no scaled point of the rows above meets.
pub record IsCoordinateSplit (n : ℕ) (q : Query) (above : List Linear) (row : Linear) (values : List ℤ) (scale : ℤ) : Type 0 where
  pub split : IsPointSplit n (IsServed q) above row values scale
  pub shut : All (IsShut n above) (targets n q)

-- the split is at a coordinate where a point is kept beside it, and else at a row of a way
abbrev pub SplitsBy : ℕ → Query → List Linear → Linear → {A : Type 0} → Option (Vec ℤ A × ℤ) → Type 0
SplitsBy n q above row None = IsRowSplit n q above row
SplitsBy n q above row (Some (values, scale)) = IsCoordinateSplit n q above row values.items scale

-- the rule of a split row: the rows above it have a scaled point, and each target has a row that some of their points do not meet
pub record IsSplit (n : ℕ) (q : Query) (above : List Linear) (branch : Branch) : Type 0 where
  pub point : HasPoint n above
  pub left_open : All (IsLeftOpen n above) (targets n q)
  pub splits : SplitsBy n q above branch.row branch.point

-- a path each of whose splits keeps the rule, at the rows and the splits above it
abbrev pub IsChoicePath : ℕ → Query → List Linear → List Branch → Type 0
IsChoicePath n q rows path = IsPath (IsSplit n q) rows path

-- The lists over the columns of a case that are asked about at the rows above. The question is whether they have an integer point: whether
-- some state there starts the case, and whether from whole values the case leads into a piece.
pub data IsInner (n : ℕ) (q : Query) (above : List Linear) : ℕ → List Linear → Type 0 where
  starting : (c : LinearCase) → IsTrue q.stop → Contains q.system.cases c → c.from ≡ q.location → IsInner n q above (n + c.draws) (starting_rows above c)
  stepping : (c : LinearCase) (p : Piece) (xs : List ℤ) → IsWayIn n q c p → IsPointHere n q above xs → IsInner n q above (n + c.draws) (stepping_rows n xs c p)
