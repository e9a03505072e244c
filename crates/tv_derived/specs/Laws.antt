-- What is proved of derived rows.
use Rattle.std.specs.Prelude.{◌≡◌, ◌⊎◌, ℕ, suc, ◌+◌, ◌<◌, ◌≤◌, List, [], ◌∷◌, ◌++◌, length, get_or, All, Contains, slice_get, Some, Result, MatchResult, ℤ, pos, neg_ℤ, ◌<ℤ◌}
use Rattle.tv_linear.specs.Linear.{Linear, linear, columns}
use Rattle.tv_linear.specs.Arithmetic.{zeros, denial, plus, scaled, composed}
use Rattle.tv_linear.specs.Tight.{tight}
use Rattle.tv_linear.specs.Fits.{GivesRow, GivesComposed}
use Rattle.tv_linear.specs.declared.fault.RowFault.{RowFault}
use Rattle.tv_linear.specs.declared.region.Piece.{Piece}
use Rattle.tv_cases.specs.LinearCases.{LinearCase, CaseSystem, IsCase}
use Rattle.tv_cases.specs.EdgeCases.{columns_from}
use Rattle.tv_cases.specs.Before.{GivesBefore}
use Rattle.tv_farkas.specs.declared.branch.Branch.{Branch}
use Rattle.tv_farkas.specs.declared.fault.CoverFault.{CoverFault}
use Rattle.tv_farkas.specs.Paths.{TakenOnce, rows_after}
use Rattle.tv_farkas.specs.EmptyPaths.{IsEmptyPath, IsEmptyFault}
use Rattle.tv_derived.specs.Scopes.{Scope, at_location, over_case, IsShortPath, draws_of, width_at, with_more, Placed}
use Rattle.tv_derived.specs.Derived.{IsDerived, IsMade, IsDrawTerm, IsUnsplit, AreUnsplit, AreListed, IsDerivedList, AllNarrow, AreLeast, false_row, coefficient}
use Rattle.tv_derived.specs.Regions.{placed_rows, ArePiecesDerived}
use Rattle.tv_derived.specs.Faults.{IsWideStep, IsStepFault, IsRefusalOf}
use Rattle.tv_derived.specs.Questions.{IsSpentOnRows}

-- the cases are those of a program, and the rows handed in have a column for each variable
pub record IsWellHanded (about : CaseSystem) (base : List Placed) : Type 0 where
  pub cases : All (IsCase about.variables about.locations) about.cases
  pub rows : (p : Placed) → Contains base p → columns p.row ≡ about.variables

-- each derived row has a column for each variable and each draw of its scope
abbrev pub AreEven : CaseSystem → List Placed → Type 0
AreEven about base = (f : Scope) (h : ℕ) (r : Linear) → IsDerived about base f h r → columns r ≡ width_at about f

-- the cases that are taken are a path from the location, with at most one case more than those on the way
pub record IsPathScope (about : CaseSystem) (h : ℕ) (f : Scope) : Type 0 where
  pub path : IsShortPath about h f.location f.taken
  pub draws : f.draws ≤ draws_of f.taken

abbrev pub ScopesArePaths : CaseSystem → List Placed → Type 0
ScopesArePaths about base = (f : Scope) (h : ℕ) (r : Linear) → IsDerived about base f h r → IsPathScope about h f

-- a step that is too wide is so at a column of the variables, of the draws of such a path or of the constant after them
pub record IsColumnOfPath (about : CaseSystem) (h column : ℕ) : Type 0 where
  pub location : ℕ
  pub taken : List LinearCase
  pub path : IsShortPath about h location taken
  pub within : column ≤ about.variables + draws_of taken

abbrev pub ColumnsAreOfPaths : CaseSystem → List Placed → Type 0
ColumnsAreOfPaths about base = (h column : ℕ) → IsWideStep about base h column → IsColumnOfPath about h column

-- the guards, and the rows handed in, are below 2^62 in magnitude
pub record AreNarrowlyHanded (about : CaseSystem) (base : List Placed) : Type 0 where
  pub guards : (c : LinearCase) (r : Linear) → Contains about.cases c → Contains c.guards r → AllNarrow r
  pub rows : (p : Placed) → Contains base p → AllNarrow p.row

-- each derived row is
abbrev pub AreNarrow : CaseSystem → List Placed → Type 0
AreNarrow about base = (f : Scope) (h : ℕ) (r : Linear) → IsDerived about base f h r → AllNarrow r

-- each row of the list old is derived from base with k cases on the way
abbrev pub AreAllDerived : CaseSystem → List Placed → List Placed → ℕ → Type 0
AreAllDerived about old base k = (p : Placed) → Contains old p → IsDerived about base (at_location p.location) k p.row

-- what is derived from such rows with h cases on the way is derived from base with h + k; with the same base and k = 0 it says that what is
-- derived with h is derived with more
pub record Carries (about : CaseSystem) (old base : List Placed) (k : ℕ) : Type 0 where
  pub rows : (f : Scope) (h m : ℕ) (r : Linear) → h + k ≤ m → IsDerived about old f h r → IsDerived about base f m r
  pub steps : (f : Scope) (h m : ℕ) (r : Linear) → h + k ≤ m → IsMade about old f h r → IsMade about base f m r
  pub lists : (f : Scope) (h m : ℕ) (rows : List Linear) → h + k ≤ m → IsDerivedList about old f h rows → IsDerivedList about base f m rows
  pub unsplit : (f : Scope) (h m : ℕ) (r : Linear) → h + k ≤ m → IsUnsplit about old f h r → IsUnsplit about base f m r
  pub pieces : (h m : ℕ) (ps : List Piece) → h + k ≤ m → ArePiecesDerived about old h ps → ArePiecesDerived about base m ps
  pub refusals : (h m pivots splits : ℕ) (fault : CoverFault) → h + k ≤ m → IsRefusalOf about old h pivots (IsSpentOnRows about old h splits) fault → IsRefusalOf about base m pivots (IsSpentOnRows about base m splits) fault
  pub wide : (h m column : ℕ) → h + k ≤ m → IsWideStep about old h column → IsWideStep about base m column

-- the rows of pieces that are handed in, whose rows are derived
abbrev pub PiecesAreAllDerived : CaseSystem → List Placed → ℕ → List Piece → Type 0
PiecesAreAllDerived about base k ps = ArePiecesDerived about base k ps → AreAllDerived about (placed_rows ps) base k

-- a row of a location is one over a case from there
abbrev pub IsDerivedOver : CaseSystem → List Placed → LinearCase → ℕ → Type 0
IsDerivedOver about base c h =
    (r : Linear) → Contains about.cases c → IsDerived about base (at_location c.from) h r → IsUnsplit about base (over_case c) h (with_more r (zeros c.draws))

-- a row that one step is to make is derived, where its numbers are below 2^62 in magnitude, and else the step is too wide
abbrev pub Steps : CaseSystem → List Placed → Scope → ℕ → Type 0
Steps about base f h = (meant : Linear) (result : Result Linear RowFault) → IsMade about base f h meant → GivesRow meant result → MatchResult result (IsDerived about base f h) (IsStepFault about base h)

abbrev pub Denies : CaseSystem → List Placed → Scope → ℕ → Type 0
Denies about base f h = (r : Linear) (result : Result Linear RowFault) → IsDerived about base f h r → GivesRow (denial r) result → MatchResult result (IsDerived about base f h) (IsStepFault about base h)

abbrev pub Tightens : CaseSystem → List Placed → Scope → ℕ → Type 0
Tightens about base f h = (r row : Linear) → IsDerived about base f h r → row ≡ tight r → AllNarrow row → IsDerived about base f h row

abbrev pub GoesBefore : CaseSystem → List Placed → LinearCase → ℕ → Type 0
GoesBefore about base c h =
    (r : Linear) (result : Result Linear RowFault) → Contains about.cases c → columns r ≡ about.variables → IsDerived about base (at_location c.to) h r → GivesBefore r c result
    → MatchResult result (IsDerived about base (over_case c) (suc h)) (IsStepFault about base (suc h))

abbrev pub PutsTerms : CaseSystem → List Placed → Scope → ℕ → Type 0
PutsTerms about base f h =
    (r : Linear) (terms : List Linear) (result : Result Linear RowFault) → IsDerived about base f h r → length terms ≡ f.draws
    → ((j : ℕ) → j < f.draws → IsDrawTerm about base f h j (get_or terms j (false_row 0)))
    → GivesComposed r (columns_from about.variables 0 about.variables ++ terms) result
    → MatchResult result (IsDerived about base (at_location f.location) h) (IsStepFault about base h)

-- a list goes on with a path of splits at coordinates, as `empty` has it; then each row is taken once
abbrev pub GoesOn : CaseSystem → List Placed → Scope → ℕ → Type 0
GoesOn about base f h =
    (rows kept : List Linear) (path : List Branch) → AreListed about base f h rows → IsEmptyPath (width_at about f) rows path
    → TakenOnce (rows_after rows path) kept → IsDerivedList about base f h kept

-- so a refusal of `empty` is one of a layer that asks of these rows
abbrev pub EmptyRefuses : CaseSystem → List Placed → Scope → ℕ → Type 0
EmptyRefuses about base f h =
    (rows : List Linear) (pivots splits : ℕ) (fault : CoverFault) → AreUnsplit about base f h rows
    → IsEmptyFault (width_at about f) rows pivots splits fault → IsRefusalOf about base h pivots (IsSpentOnRows about base h splits) fault

-- the row is one of a target, or the denial of one
abbrev pub IsTargetSplit : CaseSystem → List Placed → Scope → ℕ → Linear → Type 0
IsTargetSplit about base f h row = (q : Linear) × IsDerived about base f h q × ((row ≡ q) ⊎ ((row ≡ denial q) × AllNarrow (denial q)))

-- the multiples that cancel a number above 0 and one below, as the tightened row of the two tells them
abbrev pub AreMultiples : ℤ → ℤ → Linear → Type 0
AreMultiples x y t = (p : ℕ) × (q : ℕ) × (t.coefficients ≡ pos p ∷ pos q ∷ []) × AreLeast x y p q

-- the least of them are those of the tightened row of the other's magnitude and of this one
abbrev pub CancelsByLeast : ℤ → ℤ → Linear → Type 0
CancelsByLeast x y t = pos 0 <ℤ x → y <ℤ pos 0 → t ≡ tight (linear (neg_ℤ y ∷ x ∷ []) (pos 0)) → AreMultiples x y t

-- and the sum of the multiples of two rows, as composing tells it
abbrev pub IsSumOf : ℕ → ℕ → Linear → Linear → Type 0
IsSumOf p q a b = composed (linear (pos p ∷ pos q ∷ []) (pos 0)) (a ∷ b ∷ []) ≡ plus (scaled (pos p) a) (scaled (pos q) b)

-- ---- lists

-- the same row stands at no two places
abbrev pub AreDifferent : List Linear → Type 0
AreDifferent rows = (i j : ℕ) (r : Linear) → slice_get rows i ≡ Some r → slice_get rows j ≡ Some r → i ≡ j

abbrev pub ListsAreDifferent : CaseSystem → List Placed → Scope → ℕ → Type 0
ListsAreDifferent about base f h = (rows : List Linear) → IsDerivedList about base f h rows → AreDifferent rows

-- ---- cases on the way

-- nothing is known at the location by itself: no row is handed in there, no case from there has a guard, and no program starts there
pub record IsBlank (about : CaseSystem) (base : List Placed) (l : ℕ) : Type 0 where
  pub none_handed : (p : Placed) → Contains base p → p.location ≡ l → ⊥
  pub no_guards : (c : LinearCase) → Contains about.cases c → c.from ≡ l → c.guards ≡ []
  pub not_start : about.start ≡ l → ⊥

-- with no case on the way, a row that is derived there says nothing: each coefficient is 0
abbrev pub NothingComes : CaseSystem → List Placed → Scope → Type 0
NothingComes about base f =
    IsBlank about base f.location → (r : Linear) (column : ℕ) → IsDerived about base f 0 r → coefficient r column ≡ pos 0
