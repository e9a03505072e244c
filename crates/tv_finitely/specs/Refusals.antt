-- Why there are no visits.
use Rattle.std.specs.Prelude.{◌⊎◌, ℕ, ℤ, List, Option, None, Some}
use Rattle.tv_linear.specs.declared.region.Piece.{Piece}
use Rattle.tv_linear.specs.declared.region.Region.{Region}
use Rattle.tv_cases.specs.LinearCases.{CaseSystem}
use Rattle.tv_simplex.specs.declared.fault.SolveFault.{SolveFault}
use Rattle.tv_farkas.specs.declared.budget.Budget.{Budget}
use Rattle.tv_farkas.specs.declared.fault.CoverFault.{CoverFault}
use Rattle.tv_farkas.specs.declared.fault.CoverFault.TheVariants as covers
use Rattle.tv_candidates.specs.declared.candidate.Candidate.{Candidate}
use Rattle.tv_candidates.specs.Inductive.{IsInductive}
use Rattle.tv_invariant.specs.Asking.{IsStrengthened, HasFalseParts, RefusesStrengthening}
use Rattle.tv_invariant.specs.Pieces.{ArePiecesOf}
use Rattle.tv_rank.specs.declared.name.Name.{Name}
use Rattle.tv_rank.specs.Given.{lists}
use Rattle.tv_lexrank.specs.declared.fault.RankFault.{RankFault}
use Rattle.tv_lexrank.specs.declared.fault.RankFault.TheVariants as ranking
use Rattle.tv_lexrank.specs.Closing.{LeadsOut}
use Rattle.tv_lexrank.specs.Known.{AreBare}
use Rattle.tv_finitely.specs.declared.fault.VisitFault.{VisitFault}
use Rattle.tv_finitely.specs.declared.fault.VisitFault.TheVariants.{Rank, Solve, Cover, Memory}
use Rattle.tv_finitely.specs.declared.visits.Visits.{Visits}
use Rattle.tv_finitely.specs.Found.{AreVisits, RefusesUnder}
use Rattle.tv_finitely.specs.Parts.{IsStuck}
use Rattle.tv_finitely.specs.Splits.{SplitSystem}

-- ---- where no rows are known
-- some set of cases of which one enters is stuck, where no rows are known
pub record IsStuckAlone (s : SplitSystem) : Type 0 where
  pub known : List Piece
  pub bare : AreBare known
  pub set : List ℕ
  pub barriers : List (List ℤ)
  pub stuck : IsStuck s known set barriers

abbrev pub IsFirstFound : SplitSystem → Option Visits → Type 0
IsFirstFound s None = IsStuckAlone s
IsFirstFound s (Some v) = AreVisits s v

-- the named system is not settled, where no rows are known
abbrev pub IsUnsettled : SplitSystem → Budget → Name → SolveFault → Type 0
IsUnsettled s budget system e = (known : List Piece) × AreBare known × RefusesUnder s known budget (ranking.Solve system e)

abbrev pub RefusesFirst : SplitSystem → Budget → VisitFault → Type 0
RefusesFirst s budget (Rank set barriers) = ⊥
RefusesFirst s budget (Solve system e) = IsUnsettled s budget system e
RefusesFirst s budget (Cover f) = ⊥
RefusesFirst s budget Memory = Unit {0}

-- ---- under the rows of a list
-- the rows of the list, as pieces
abbrev pub UnderRows : CaseSystem → List Candidate → (Region → Type 0) → Type 0
UnderRows about list Holds = (known : Region) × ArePiecesOf about list known × Holds known

abbrev pub RefusesRows : SplitSystem → List Candidate → Budget → VisitFault → Type 0
RefusesRows s list budget (Rank set barriers) = UnderRows s.system list (λ known. IsStuck s known.pieces.items set.items (lists barriers.items))
RefusesRows s list budget (Solve system e) = UnderRows s.system list (λ known. RefusesUnder s known.pieces.items budget (ranking.Solve system e))
RefusesRows s list budget (Cover f) = UnderRows s.system list (λ known. RefusesUnder s known.pieces.items budget (ranking.Cover f))
RefusesRows s list budget Memory = Unit {0}

-- a question that was not settled, as it is handed on
abbrev pub handed_on : CoverFault → VisitFault
handed_on (covers.Splits path) = Cover (covers.Splits path)
handed_on (covers.Solve rows fault) = Cover (covers.Solve rows fault)
handed_on (covers.Wide column) = Cover (covers.Wide column)
handed_on covers.Memory = Memory

-- no case is found to lead out of the known rows
abbrev pub IsClosed : RankFault → Type 0
IsClosed (ranking.Open taken values) = ⊥
IsClosed (ranking.Cover f) = Unit {0}
IsClosed (ranking.Solve system e) = Unit {0}
IsClosed ranking.Memory = Unit {0}

-- a refusal under known rows, as it is handed on
abbrev pub unranked : RankFault → VisitFault
unranked (ranking.Open taken values) = Memory
unranked (ranking.Cover f) = handed_on f
unranked (ranking.Solve system e) = Solve system e
unranked ranking.Memory = Memory

-- no case leads from a state that meets the known rows to one that does not
abbrev pub AreKept : CaseSystem → List Piece → Type 0
AreKept about known = (taken : ℕ) (values : List ℤ) → LeadsOut about known taken values → ⊥

-- ---- under the rows that are found
-- the rows that are found: the greatest inductive part of what was offered
pub record AreFound (about : CaseSystem) (Given : List (List Candidate) → Type 0) (list : List Candidate) : Type 0 where
  pub strengthened : IsStrengthened about Given list
  pub inductive : IsInductive about list
  pub least : HasFalseParts about list

abbrev pub RefusesThere : SplitSystem → (List (List Candidate) → Type 0) → Budget → VisitFault → Type 0
RefusesThere s Given budget e = (list : List Candidate) × AreFound s.system Given list × RefusesRows s list budget e

-- Why there are no visits, where the proposers give what `Given` says. `Rank` is of a set that is stuck under the rows that are found, `Solve`
-- of a named system of one of the two attempts, and `Cover` of the search for the rows, or of what shows that they hold on every run.
abbrev pub RefusesFinitely : SplitSystem → (List (List Candidate) → Type 0) → Budget → VisitFault → Type 0
RefusesFinitely s Given budget (Rank set barriers) = RefusesThere s Given budget (Rank set barriers)
RefusesFinitely s Given budget (Solve system e) = IsUnsettled s budget system e ⊎ RefusesThere s Given budget (Solve system e)
RefusesFinitely s Given budget (Cover f) = RefusesStrengthening s.system Given budget.pivots budget.splits f ⊎ RefusesThere s Given budget (Cover f)
RefusesFinitely s Given budget Memory = Unit {0}

-- a set of cases is stuck
abbrev pub IsRank : VisitFault → Type 0
IsRank (Rank set barriers) = Unit {0}
IsRank (Solve system e) = ⊥
IsRank (Cover f) = ⊥
IsRank Memory = ⊥
