-- The ranks of the locations, and what shows the cases by them.
use Rattle.std.specs.Prelude.{ℕ, ◌-◌, ◌≤◌, List, ◌++◌, length, get_or}
use Rattle.tv_linear.specs.Linear.{Linear}
use Rattle.tv_linear.specs.declared.cover.CoverTree.{CoverTree}
use Rattle.tv_linear.specs.declared.region.Piece.{Piece}
use Rattle.tv_cases.specs.LinearCases.{LinearCase, CaseSystem}
use Rattle.tv_cases.specs.Systems.{cases_of}
use Rattle.tv_farkas.specs.declared.fault.CoverFault.{CoverFault}
use Rattle.tv_rank.specs.Ways.{Way, case_at}
use Rattle.tv_rank.specs.declared.found.LocalTerm.{LocalTerm}
use Rattle.tv_lexrank.specs.First.{AreComponents}
use Rattle.tv_lexrank.specs.Known.{AreBare}
use Rattle.tv_lexrank.specs.More.{way_with}
use Rattle.tv_lexrank.specs.Pieces.{zero_ranks}
use Rattle.tv_lexrank.specs.Rounds.{ranks_at}
use Rattle.tv_lexrank.specs.Shown.{IsShownBy}
use Rattle.tv_lexrank.specs.declared.shown.CaseShown.{CaseShown}
use Rattle.tv_nested.specs.declared.fault.NestFault.{NestFault}
use Rattle.tv_nested.specs.declared.fault.NestFault.TheVariants as fault
use Rattle.tv_nested.specs.declared.part.Part.{Part}
use Rattle.tv_nested.specs.declared.ranking.Ranking.{Ranking}
use Rattle.tv_nested.specs.Amounts.{rounds_in, tuple_at, amount_in}
use Rattle.tv_nested.specs.Nested.{IsWideSign}
use Rattle.tv_nested.specs.Parts.{PartsFrom, IsNestedPart}
use Rattle.tv_nested.specs.Signs.{terms_there, signs_there, sign_rows}
use Rattle.tv_nested.specs.Steps.{IsSignStep}

-- the numbers are those of the components, and the parts their terms, where no rows are known
abbrev pub AreNested : CaseSystem → List ℕ → List Part → Type 0
AreNested about numbers parts = AreComponents about numbers × ((known : List Piece) × AreBare known × PartsFrom about known numbers 0 parts)

-- the components have terms
abbrev pub AreRanked : Ranking → Type 0
AreRanked r = AreNested (cases_of r.about.now) r.numbers.now r.parts.now

-- the number of the component of a location
abbrev pub component_of : Ranking → ℕ → ℕ
component_of r l = get_or r.numbers.now l 0

-- the terms of the component of a location that are nested
abbrev pub tuple_of_place : Ranking → ℕ → List (List LocalTerm)
tuple_of_place r l = tuple_at r.parts.now (component_of r l)

-- The ranks of a location: the number of its component, the terms of the rounds, and those that are nested.
abbrev pub ranks_of : Ranking → ℕ → List Linear
ranks_of r l =
    let v = (cases_of r.about.now).variables in
    ranks_at v (component_of r l) (rounds_in r.parts.now (component_of r l)) l ++ terms_there v (tuple_of_place r l) l

-- the same, with terms that are 0 after them up to `count` ranks
abbrev pub all_ranks : Ranking → ℕ → List Linear
all_ranks r l = ranks_of r l ++ zero_ranks (cases_of r.about.now).variables (r.count - 1 - amount_in r.parts.now (component_of r l))

-- the signs of the nested terms at a location
abbrev pub signs_at : Ranking → ℕ → List Linear
signs_at r l = signs_there (cases_of r.about.now).variables (tuple_of_place r l) l

-- ---- cases
-- a case, from a piece of its location
abbrev pub way_from : Ranking → LinearCase → ℕ → Way
way_from r c piece = way_with c (sign_rows (signs_at r c.from) piece)

-- what shows the case with a number, from a piece of its location
abbrev pub ShowsCase : Ranking → ℕ → ℕ → CaseShown → Type 0
ShowsCase r k piece shown =
    let c = case_at (cases_of r.about.now).cases k in
    IsShownBy (cases_of r.about.now).variables (way_from r c piece) (ranks_of r c.from) (ranks_of r c.to) shown

-- the cover shows what is owed of a step over the case from a piece of its location
abbrev pub ShowsStep : Ranking → ℕ → ℕ → CoverTree → Type 0
ShowsStep r k piece tree =
    let c = case_at (cases_of r.about.now).cases k in
    IsSignStep (cases_of r.about.now).variables (way_from r c piece) (signs_at r c.to) (ranks_of r c.from) (ranks_of r c.to) tree

-- the case has a piece with this number where it starts
abbrev pub HasPiece : Ranking → ℕ → ℕ → Type 0
HasPiece r k piece = piece ≤ length (signs_at r (case_at (cases_of r.about.now).cases k).from)

-- ---- refusals
-- a sign of a nested term of a component is too wide when it is denied, or composed with a case
pub record IsWideAmong (r : Ranking) (known : List Piece) (f : CoverFault) : Type 0 where
  pub component : ℕ
  pub part : Part
  pub is_part : IsNestedPart (cases_of r.about.now) known r.numbers.now component part
  pub wide : IsWideSign (cases_of r.about.now) r.numbers.now component part f

abbrev pub RefusesRanking : Ranking → NestFault → Type 0
RefusesRanking r (fault.Solve system e) = ⊥
RefusesRanking r (fault.Cover f) = (known : List Piece) × AreBare known × IsWideAmong r known f
RefusesRanking r fault.Memory = Unit {0}
