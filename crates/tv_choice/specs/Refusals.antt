-- What a refusal of a choice shows.
use Rattle.std.specs.Prelude.{◌≡◌, ◌⊎◌, ℕ, List, [], ◌∷◌, ◌++◌, length}
use Rattle.std.specs.List.{Contains}
use Rattle.tv_linear.specs.Linear.{Linear}
use Rattle.tv_linear.specs.Arithmetic.{denial}
use Rattle.tv_linear.specs.declared.region.Piece.{Piece}
use Rattle.tv_simplex.specs.declared.fault.SolveFault.{SolveFault}
use Rattle.tv_farkas.specs.declared.branch.Branch.{Branch}
use Rattle.tv_farkas.specs.declared.fault.CoverFault.{CoverFault}
use Rattle.tv_farkas.specs.declared.fault.CoverFault.TheVariants.{Splits, Solve, Wide, Memory}
use Rattle.tv_farkas.specs.Refuting.{IsSystemFault}
use Rattle.tv_farkas.specs.Paths.{TakenOnce, rows_after}
use Rattle.tv_farkas.specs.EmptyPaths.{IsEmptyPath, IsUnsolved as IsEmptyUnsolved}
use Rattle.tv_cases.specs.LinearCases.{LinearCase}
use Rattle.tv_cover.specs.Targets.{IsNarrowRow}
use Rattle.tv_cover.specs.Trying.{IsWideIn}
use Rattle.tv_choice.specs.Targets.{IsWideTarget}
use Rattle.tv_choice.specs.Rows.{case_rows, put_terms, IsWideBefore, IsWidePut}
use Rattle.tv_choice.specs.Leading.{Query, IsEntry, piece_rows}
use Rattle.tv_choice.specs.ChoicePaths.{IsWayIn, AreDrawTerms, IsWayRows, IsChoicePath, IsInner}

-- ---- at the rows above

-- a path of `empty` over the columns of a case
pub record IsInnerPath (n : ℕ) (q : Query) (above : List Linear) (path : List Branch) : Type 0 where
  pub width : ℕ
  pub rows : List Linear
  pub inner : IsInner n q above width rows
  pub is_path : IsEmptyPath width rows path

-- a row of a way, or the denial of one, which is narrow
pub record IsTried (n : ℕ) (q : Query) (above : List Linear) (row : Linear) : Type 0 where
  pub rows : List Linear
  pub way : IsWayRows n q above rows
  pub at : Linear
  pub among : Contains rows at
  pub is : (row ≡ at) ⊎ ((row ≡ denial at) × IsNarrowRow (denial at))

-- The refutation system of the kept rows has the fault. They are the rows above, each taken once, perhaps with a row that is tried after
-- them; or those at the end of a path of `empty` over the columns of a case.
pub data IsUnsolvedHere (n : ℕ) (q : Query) (above kept : List Linear) (pivots : ℕ) (fault : SolveFault) : Type 0 where
  place : TakenOnce above kept → IsSystemFault n kept pivots fault → IsUnsolvedHere n q above kept pivots fault
  tried : (r : Linear) → IsTried n q above r → TakenOnce (above ++ r ∷ []) kept → IsSystemFault n kept pivots fault → IsUnsolvedHere n q above kept pivots fault
  inner : (w : ℕ) (asked : List Linear) → IsInner n q above w asked → IsEmptyUnsolved w asked kept (λ k. IsSystemFault w k pivots fault) → IsUnsolvedHere n q above kept pivots fault

-- A row is 2^62 or more in magnitude at the column, or a number on the way to it is 2^127 or more: a row of a piece read before a case,
-- a row of a case with terms put in for its draws, or the denial of a row of a way. It is the first such row of its list; for a denial each
-- row before it is shown.
pub data IsWideHere (n : ℕ) (q : Query) (above : List Linear) (column : ℕ) : Type 0 where
  entering : (c : LinearCase) (p : Piece) → IsEntry q c p → IsWideBefore c (piece_rows p) column → IsWideHere n q above column
  drawing : (c : LinearCase) (p : Piece) (draws : List Linear) → IsWayIn n q c p → AreDrawTerms n q above c p draws → IsWidePut (put_terms n draws) (case_rows c (piece_rows p)) column → IsWideHere n q above column
  denying : (rows : List Linear) → IsWayRows n q above rows → IsWideIn n above rows column → IsWideHere n q above column

-- what a refusal shows at the rows above, where `left` splits are left and none is made there
abbrev pub IsFaultHere : ℕ → Query → List Linear → ℕ → ℕ → CoverFault → Type 0
IsFaultHere n q above pivots left (Splits path) = ((path.items ≡ []) ⊎ IsInnerPath n q above path.items) × (length path.items ≡ left)
IsFaultHere n q above pivots left (Solve kept fault) = IsUnsolvedHere n q above kept.items pivots fault
IsFaultHere n q above pivots left (Wide column) = IsWideHere n q above column
IsFaultHere n q above pivots left Memory = Unit {0}

-- ---- after a path

-- the splits of the choice, and after them perhaps those of `empty` over the columns of a case
pub record IsJoinedPath (n : ℕ) (q : Query) (rows : List Linear) (path : List Branch) : Type 0 where
  pub own : List Branch
  pub behind : List Branch
  pub parts : path ≡ own ++ behind
  pub is_path : IsChoicePath n q rows own
  pub inner : (behind ≡ []) ⊎ IsInnerPath n q (rows_after rows own) behind

-- at the end of a path of the choice the refutation system of the kept rows has the fault
pub record IsUnsolved (n : ℕ) (q : Query) (rows kept : List Linear) (pivots : ℕ) (fault : SolveFault) : Type 0 where
  pub own : List Branch
  pub is_path : IsChoicePath n q rows own
  pub here : IsUnsolvedHere n q (rows_after rows own) kept pivots fault

-- a row of a target is too wide, or a row that is made at the end of a path of the choice
pub data IsWideChoice (n : ℕ) (q : Query) (rows : List Linear) (column : ℕ) : Type 0 where
  target : IsWideTarget n q column → IsWideChoice n q rows column
  behind : (own : List Branch) → IsChoicePath n q rows own → IsWideHere n q (rows_after rows own) column → IsWideChoice n q rows column

-- what a refusal shows, for `pivots` pivots and `most` splits
abbrev pub IsChoiceFault : ℕ → Query → List Linear → ℕ → ℕ → CoverFault → Type 0
IsChoiceFault n q rows pivots most (Splits path) = IsJoinedPath n q rows path.items × (length path.items ≡ most)
IsChoiceFault n q rows pivots most (Solve kept fault) = IsUnsolved n q rows kept.items pivots fault
IsChoiceFault n q rows pivots most (Wide column) = IsWideChoice n q rows column
IsChoiceFault n q rows pivots most Memory = Unit {0}
