use Rattle.std.specs.Prelude.{◌≡◌, ℕ, ◌+◌, ◌≤◌, List, ◌++◌, length, map, All, slice_get, Some, Contains}
use Rattle.tv_linear.specs.Linear.{Linear, columns}
use Rattle.tv_linear.specs.Arithmetic.{composed}
use Rattle.tv_linear.specs.Fits.{FitsComposed}
use Rattle.tv_linear.specs.Known.{as_given}
use Rattle.tv_linear.specs.declared.region.Piece.{Piece}
use Rattle.tv_linear.specs.Same.{AreSame}
use Rattle.tv_cases.specs.LinearCases.{LinearCase, IsCase}
use Rattle.tv_cases.specs.Views.{case_view}
use Rattle.tv_cert.specs.Choices.{drawn_change, drawn_guards}
use Rattle.tv_cert.specs.Obligations.{case_change}
use Rattle.tv_farkas.specs.declared.fault.CoverFault.{CoverFault}
use Rattle.tv_farkas.specs.declared.fault.CoverFault.TheVariants.{Splits, Solve, Wide, Memory}
use Rattle.tv_cover.specs.Targets.{IsNarrowRow}
use Rattle.tv_choice.specs.declared.ways.Way.{Way}
use Rattle.tv_choice.specs.declared.ways.Entry.{Entry}
use Rattle.tv_choice.specs.Rows.{case_rows, put_terms, put_rows}
use Rattle.tv_choice.specs.Leading.{Query, pieces_at, piece_rows}
use Rattle.tv_choice.specs.Targets.{targets}
use Rattle.tv_choice.specs.ChoicePaths.{AreDrawTerms, IsWayIn}

abbrev pub way_rows : Way → List Linear
way_rows w = w.rows.items

-- the case is from the location and has its number, and the piece stands at its place at the end of the case
pub record IsEntered (q : Query) (e : Entry) : Type 0 where
  pub taken : slice_get q.system.cases e.taken ≡ Some (case_view e.case.now)
  pub case : IsCase q.system.variables q.system.locations (case_view e.case.now)
  pub from : e.case.now.from ≡ q.location
  pub target : slice_get (pieces_at q.pieces e.case.now.to) e.target ≡ Some e.piece.now

-- the guards of a case and then the rows of a piece at its end, over the n variables and the draws
pub record AreCaseRows (n : ℕ) (c : LinearCase) (owed rows : List Linear) : Type 0 where
  pub exact : rows ≡ case_rows c owed
  pub even : All (λ r. columns r ≡ n + c.draws) rows
  pub narrow : All IsNarrowRow rows
  pub seen : AreSame (n + c.draws) (as_given rows) (as_given c.guards ++ map (case_change n c) owed)

-- each row with terms put in, where it fits
pub record AreComposed (rows terms all : List Linear) : Type 0 where
  pub exact : all ≡ map (λ r. composed r terms) rows
  pub fits : All (λ r. (column : ℕ) → column ≤ columns (composed r terms) → FitsComposed r terms column) rows

-- the way of these rows of a case, with these terms put in for its draws
pub record IsWayOf (n taken target : ℕ) (rows draws : List Linear) (w : Way) : Type 0 where
  pub taken_is : w.taken ≡ taken
  pub target_is : w.target ≡ target
  pub draws_are : w.draws.items ≡ draws
  pub made : AreComposed rows (put_terms n draws) w.rows.items

-- a way by a case from the location into a piece at its end, with terms for its draws
pub record IsWay (n : ℕ) (q : Query) (above : List Linear) (w : Way) : Type 0 where
  pub case : LinearCase
  pub found : slice_get q.system.cases w.taken ≡ Some case
  pub leaves : case.from ≡ q.location
  pub piece : Piece
  pub enters : slice_get (pieces_at q.pieces case.to) w.target ≡ Some piece
  pub is_case : IsCase q.system.variables q.system.locations case
  pub way_in : IsWayIn n q case piece
  pub owed : All (λ r. columns r ≡ n) (piece_rows piece)
  pub drawn : length w.draws.items ≡ case.draws
  pub terms : All (λ r. columns r ≡ n) w.draws.items
  pub origin : AreDrawTerms n q above case piece w.draws.items
  pub exact : way_rows w ≡ put_rows n w.draws.items (case_rows case (piece_rows piece))
  pub even : All (λ r. columns r ≡ n) (way_rows w)
  pub narrow : All IsNarrowRow (way_rows w)
  pub seen : AreSame n (as_given (way_rows w)) (drawn_guards n case w.draws.items ++ map (drawn_change n case w.draws.items) (piece_rows piece))

-- the rows of the ways
abbrev pub lists_of : List Way → List (List Linear)
lists_of ways = map way_rows ways

-- ways that are of the list, where each of the list has the same rows as one of them
pub record AreDifferentOf (ways kept : List Way) : Type 0 where
  pub among : (w : Way) → Contains kept w → Contains ways w
  pub rows : (rows : List Linear) → Contains (lists_of ways) rows → Contains (lists_of kept) rows

-- ways at the rows above, among them one for each target
pub record AreWays (n : ℕ) (q : Query) (above : List Linear) (ways : List Way) : Type 0 where
  pub each : All (IsWay n q above) ways
  pub targets_there : (rows : List Linear) → Contains (targets n q) rows → Contains (lists_of ways) rows

-- a row was not made: it is too wide at the column, or there is no memory
abbrev pub IsUnmade : (ℕ → Type 0) → CoverFault → Type 0
IsUnmade wide (Splits path) = ⊥
IsUnmade wide (Solve kept fault) = ⊥
IsUnmade wide (Wide column) = wide column
IsUnmade wide Memory = Unit {0}
