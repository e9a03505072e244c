-- What shows the cases inside a component that stand in no set over which terms are nested.
use Rattle.std.specs.Prelude.{ℕ, ◌<◌, List, [], length}
use Rattle.tv_linear.specs.declared.region.Piece.{Piece}
use Rattle.tv_cases.specs.LinearCases.{CaseSystem}
use Rattle.tv_rank.specs.Ways.{case_at}
use Rattle.tv_lexrank.specs.Known.{AreBare}
use Rattle.tv_lexrank.specs.More.{way_with}
use Rattle.tv_lexrank.specs.Rounds.{ranks_at, place_in}
use Rattle.tv_lexrank.specs.Shown.{IsShownBy}
use Rattle.tv_lexrank.specs.Sorting.{LeadsInside}
use Rattle.tv_lexrank.specs.declared.shown.CaseShown.{CaseShown}
use Rattle.tv_nested.specs.declared.part.Part.{Part}
use Rattle.tv_nested.specs.Parts.{IsNestedPart}

-- the case lies inside the component, and the rounds do not leave it
pub record IsApart (about : CaseSystem) (component : ℕ) (p : Part) (k : ℕ) : Type 0 where
  pub known : List Piece
  pub numbers : List ℕ
  pub bare : AreBare known
  pub is_part : IsNestedPart about known numbers component p
  pub within : k < length about.cases
  pub inside : LeadsInside numbers component (case_at about.cases k)
  pub out : place_in p.left.items k < length p.left.items → ⊥

-- what shows such a case by the number of the component and the terms of its rounds, where no rows are known
abbrev pub ShowsBare : CaseSystem → ℕ → Part → ℕ → CaseShown → Type 0
ShowsBare about component p k shown =
    let v = about.variables in
    let c = case_at about.cases k in
    IsShownBy v (way_with c []) (ranks_at v component p.rounds.items c.from) (ranks_at v component p.rounds.items c.to) shown
