-- What is found under known rows.
use Rattle.std.specs.Prelude.{◌⊎◌, ℕ, ◌<◌, List, [], ◌∷◌, length}
use Rattle.tv_linear.specs.declared.region.Piece.{Piece}
use Rattle.tv_cases.specs.LinearCases.{CaseSystem}
use Rattle.tv_farkas.specs.declared.budget.Budget.{Budget}
use Rattle.tv_farkas.specs.declared.fault.CoverFault.{CoverFault}
use Rattle.tv_cover.specs.Covering.{IsCoverFault}
use Rattle.tv_cert.specs.Obligations.{AllMet}
use Rattle.tv_rank.specs.Given.{lists}
use Rattle.tv_rank.specs.Ways.{rows_at}
use Rattle.tv_lexrank.specs.declared.fault.RankFault.{RankFault}
use Rattle.tv_lexrank.specs.declared.fault.RankFault.TheVariants as fault
use Rattle.tv_lexrank.specs.Closing.{RefusesClosed}
use Rattle.tv_lexrank.specs.First.{AreComponents}
use Rattle.tv_finitely.specs.declared.under.Found.{Found}
use Rattle.tv_finitely.specs.declared.under.Found.TheVariants as found
use Rattle.tv_finitely.specs.declared.visits.Visits.{Visits}
use Rattle.tv_finitely.specs.Obligations.{visits_of, visit_entries}
use Rattle.tv_finitely.specs.Parts.{IsStuck, RefusesAttempt}
use Rattle.tv_finitely.specs.Shapes.{VisitShape}
use Rattle.tv_finitely.specs.Splits.{SplitSystem}

-- the visits have their shape, and all their obligations are met
pub record AreVisits (s : SplitSystem) (v : Visits) : Type 0 where
  pub shape : VisitShape s (visits_of v)
  pub met : AllMet (visit_entries s (visits_of v))

-- visits, or a set of cases that is stuck under the known rows
abbrev pub IsFound : SplitSystem → List Piece → Found → Type 0
IsFound s known (found.Visits v) = AreVisits s v
IsFound s known (found.Stuck set barriers) = IsStuck s known set.items (lists barriers.items)

-- ---- refusals
-- some rows are known at the start, and the cover of it by these has the fault
pub record IsUnbegun (about : CaseSystem) (known : List Piece) (budget : Budget) (f : CoverFault) : Type 0 where
  pub some : 0 < length (rows_at known about.start)
  pub fault : IsCoverFault about.variables (rows_at known about.start ∷ []) [] budget.pivots budget.splits f

-- it is not settled whether all values at the start meet the rows that are known there
abbrev pub RefusesBegun : CaseSystem → List Piece → Budget → RankFault → Type 0
RefusesBegun about known budget (fault.Solve system e) = ⊥
RefusesBegun about known budget (fault.Open taken values) = ⊥
RefusesBegun about known budget (fault.Cover f) = IsUnbegun about known budget f
RefusesBegun about known budget fault.Memory = Unit {0}

-- the same, or a case leads out of the known rows, or it is not settled whether it does
abbrev pub RefusesShown : CaseSystem → List Piece → Budget → RankFault → Type 0
RefusesShown about known budget (fault.Solve system e) = ⊥
RefusesShown about known budget (fault.Open taken values) = RefusesClosed about known budget (fault.Open taken values)
RefusesShown about known budget (fault.Cover f) = RefusesClosed about known budget (fault.Cover f) ⊎ IsUnbegun about known budget f
RefusesShown about known budget fault.Memory = Unit {0}

-- the same, or the system that it names is not settled, for numbers of the components
abbrev pub RefusesUnder : SplitSystem → List Piece → Budget → RankFault → Type 0
RefusesUnder s known budget (fault.Solve system e) =
    (numbers : List ℕ) × AreComponents s.system numbers × RefusesAttempt s known numbers budget.pivots (fault.Solve system e)
RefusesUnder s known budget (fault.Open taken values) = RefusesShown s.system known budget (fault.Open taken values)
RefusesUnder s known budget (fault.Cover f) = RefusesShown s.system known budget (fault.Cover f)
RefusesUnder s known budget fault.Memory = Unit {0}
