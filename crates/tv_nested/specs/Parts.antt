-- Components whose cases rounds take out, but for a set over which terms are nested.
use Rattle.std.specs.Prelude.{◌≡◌, ℕ, suc, ◌<◌, ◌≤◌, List, [], ◌∷◌, ◌++◌, length, ℤ}
use Rattle.tv_linear.specs.Linear.{Linear}
use Rattle.tv_linear.specs.declared.region.Piece.{Piece}
use Rattle.tv_cases.specs.LinearCases.{CaseSystem}
use Rattle.tv_rank.specs.Sets.{PointsOf}
use Rattle.tv_rank.specs.Ways.{way_at, case_at}
use Rattle.tv_rank.specs.declared.found.LocalTerm.{LocalTerm}
use Rattle.tv_lexrank.specs.Greedy.{Lead, AreBarriers}
use Rattle.tv_lexrank.specs.More.{way_with}
use Rattle.tv_lexrank.specs.Parts.{AreTakenOut}
use Rattle.tv_lexrank.specs.Rounds.{ranks_at}
use Rattle.tv_lexrank.specs.Shown.{IsShownBy}
use Rattle.tv_lexrank.specs.Sorting.{IsSorted}
use Rattle.tv_lexrank.specs.declared.round.Round.{Round}
use Rattle.tv_lexrank.specs.declared.shown.CaseShown.{CaseShown}
use Rattle.tv_nested.specs.declared.nesting.Family.{Family}
use Rattle.tv_nested.specs.declared.part.Part.{Part}
use Rattle.tv_nested.specs.Families.{IsNestedFamily}
use Rattle.tv_nested.specs.Reading.{tuple_of, lines_of_cases}
use Rattle.tv_nested.specs.Signs.{terms_there, signs_there, sign_rows}

-- the terms of a component that are nested, from the first to the last
abbrev pub tuple_in : Part → List (List LocalTerm)
tuple_in p = tuple_of p.family.terms.items

-- the family has terms that are nested over a set of cases
abbrev pub IsFamilyOf : CaseSystem → List Piece → List ℕ → Family → Type 0
IsFamilyOf about known set family =
    IsNestedFamily about.variables about.locations (length set) (length family.terms.items) (way_at about.cases known set)
    (tuple_of family.terms.items) family.scale (lines_of_cases family.lines.items)

-- The cases inside a component are sorted, and rounds take out those with a rational point but for the set that is left. Over that set 2 to
-- 4 terms are nested, or it is empty, and there are none.
pub record IsNestedPart (about : CaseSystem) (known : List Piece) (numbers : List ℕ) (component : ℕ) (p : Part) : Type 0 where
  pub sorted : IsSorted about known numbers component (length about.cases) p.sorted
  pub lead : Lead about known p.sorted.set.items p.rounds.items p.left.items
  pub family : IsFamilyOf about known p.left.items p.family
  pub deep : 0 < length p.left.items → 2 ≤ length p.family.terms.items
  pub none : p.left.items ≡ [] → p.family.terms.items ≡ []
  pub shallow : length p.family.terms.items ≤ 4

-- the parts are those of the components from one on
abbrev pub PartsFrom : CaseSystem → List Piece → List ℕ → ℕ → List Part → Type 0
PartsFrom about known numbers c [] = Unit {0}
PartsFrom about known numbers c (p ∷ ps) = IsNestedPart about known numbers c p × PartsFrom about known numbers (suc c) ps

-- the components with lesser numbers have terms
abbrev pub AreNestedBefore : CaseSystem → List Piece → List ℕ → ℕ → Type 0
AreNestedBefore about known numbers component = (parts : List Part) × (length parts ≡ component) × PartsFrom about known numbers 0 parts

-- what the rounds leave of the cases inside a component with a rational point: some, which are stuck
pub record IsLeft (about : CaseSystem) (known : List Piece) (numbers : List ℕ) (component : ℕ) (left : List ℕ) : Type 0 where
  pub set : List ℕ
  pub taken : AreTakenOut about known numbers component set
  pub rounds : List Round
  pub lead : Lead about known set rounds left
  pub some : 0 < length left
  pub points : PointsOf about known left
  pub barriers : List (List ℤ)
  pub barred : AreBarriers about known left barriers

-- ---- the ranks and the pieces of a component
-- the ranks at a location: the number of the component, the terms of its rounds, and those that are nested
abbrev pub nested_ranks : ℕ → ℕ → Part → ℕ → List Linear
nested_ranks v component p l = ranks_at v component p.rounds.items l ++ terms_there v (tuple_in p) l

-- the signs of the nested terms at a location
abbrev pub signs_in : ℕ → Part → ℕ → List Linear
signs_in v p l = signs_there v (tuple_in p) l

-- what shows a case inside the component from a piece of its location
abbrev pub ShowsFrom : CaseSystem → ℕ → Part → ℕ → ℕ → CaseShown → Type 0
ShowsFrom about component p k piece shown =
    let v = about.variables in
    let c = case_at about.cases k in
    IsShownBy v (way_with c (sign_rows (signs_in v p c.from) piece)) (nested_ranks v component p c.from) (nested_ranks v component p c.to) shown
