-- What is said of a candidate after a case.
use Rattle.std.specs.Prelude.{◌≡◌, ◌⊎◌, List, [], ◌∷◌, true, false, Ok}
use Rattle.std.specs.List.{Contains}
use Rattle.tv_linear.specs.Linear.{Linear}
use Rattle.tv_cases.specs.Before.{before, GivesBefore}
use Rattle.tv_cases.specs.Views.{case_view}
use Rattle.tv_farkas.specs.declared.fault.CoverFault.{CoverFault}
use Rattle.tv_farkas.specs.declared.fault.CoverFault.TheVariants.{Memory}
use Rattle.tv_cover.specs.Covering.{IsCoverFault}
use Rattle.tv_candidates.specs.declared.candidate.Candidate.{Candidate}
use Rattle.tv_invariant.specs.declared.judge.Judge.{Judge}
use Rattle.tv_invariant.specs.Seen.{IsSettled}
use Rattle.tv_invariant.specs.Falling.{IsUnmade}

-- the row before the case
abbrev pub row_before : Judge → Linear → Linear
row_before j r = before r (case_view j.case.now)

-- the case does not lead to its location, or each integer point over the case meets the row before it
abbrev pub Stays : Judge → Candidate → Type 0
Stays j c = c.location ≡ j.case.now.to → IsSettled j.ambient.now.columns j.ambient.now.rows.items (row_before j c.row) true

-- the case leads to its location, and some integer point over the case does not meet the row before it
abbrev pub Falls : Judge → Candidate → Type 0
Falls j c = (c.location ≡ j.case.now.to) × IsSettled j.ambient.now.columns j.ambient.now.rows.items (row_before j c.row) false

-- the cover of what holds over the case by the row before it is refused
abbrev pub RefusesCover : Judge → Linear → CoverFault → Type 0
RefusesCover j r fault =
    (row : Linear)
    × GivesBefore r (case_view j.case.now) (Ok row)
    × IsCoverFault j.ambient.now.columns ((row ∷ []) ∷ []) j.ambient.now.rows.items j.budget.now.pivots j.budget.now.splits fault

-- the row before the case was not made, or its cover is refused
abbrev pub RefusesRow : Judge → Linear → CoverFault → Type 0
RefusesRow j r fault = IsUnmade r (case_view j.case.now) fault ⊎ RefusesCover j r fault

-- the case leads to its location, and the row before it was not made or its cover is refused
abbrev pub Refuses : Judge → Candidate → CoverFault → Type 0
Refuses j c fault = (c.location ≡ j.case.now.to) × RefusesRow j c.row fault

-- want of memory, or a candidate of the list is refused
abbrev pub RefusesSome : Judge → List Candidate → CoverFault → Type 0
RefusesSome j now fault = (fault ≡ Memory) ⊎ ((c : Candidate) × Contains now c × Refuses j c fault)
