-- Why it is not known whether every run ends.
use Rattle.std.specs.Prelude.{◌⊎◌, ℕ, ℤ, List, [], ◌∷◌, Option, None, Some}
use Rattle.tv_linear.specs.declared.region.Region.{Region}
use Rattle.tv_cases.specs.LinearCases.{CaseSystem}
use Rattle.tv_farkas.specs.declared.budget.Budget.{Budget}
use Rattle.tv_farkas.specs.declared.fault.CoverFault.{CoverFault}
use Rattle.tv_farkas.specs.declared.fault.CoverFault.TheVariants as covers
use Rattle.tv_cover.specs.Covering.{IsCoverFault}
use Rattle.tv_candidates.specs.declared.candidate.Candidate.{Candidate}
use Rattle.tv_candidates.specs.Inductive.{IsInductive}
use Rattle.tv_invariant.specs.Asking.{IsStrengthened, HasFalseParts, RefusesStrengthening}
use Rattle.tv_invariant.specs.Pieces.{ArePiecesOf}
use Rattle.tv_rank.specs.Given.{lists}
use Rattle.tv_rank.specs.Ways.{rows_at}
use Rattle.tv_cert.specs.declared.claim.Claim.{Claim}
use Rattle.tv_shape.specs.declared.certificate.Certificate.{Certificate}
use Rattle.tv_lexrank.specs.declared.fault.RankFault.{RankFault}
use Rattle.tv_lexrank.specs.declared.fault.RankFault.TheVariants as ranking
use Rattle.tv_lexrank.specs.Certified.{SaysProved}
use Rattle.tv_lexrank.specs.First.{RefusesFirst}
use Rattle.tv_lexrank.specs.Outcomes.{Refuses}
use Rattle.tv_lexrank.specs.Parts.{IsStuck}
use Rattle.tv_settling.specs.declared.fault.EndFault.{EndFault}
use Rattle.tv_settling.specs.declared.fault.EndFault.TheVariants.{Solve, Cover, Rank, Memory}
use Rattle.tv_shape.specs.Certificates.{IsSettling}

-- some cases of the program inside one component, each with a rational point, have a barrier each: no linear terms rank them
pub record IsStuckAlone (about : CaseSystem) : Type 0 where
  pub set : List ℕ
  pub barriers : List (List ℤ)
  pub stuck : IsStuck about [] set barriers

-- the attempt without known rows gives a certificate that every run ends, or it is stuck
abbrev pub IsFirstEnd : CaseSystem → Claim → Option Certificate → Type 0
IsFirstEnd about claim None = IsStuckAlone about
IsFirstEnd about claim (Some c) = IsSettling about claim c × SaysProved c.verdict

-- a system of the attempt without known rows was not settled
abbrev pub IsFirstFault : CaseSystem → Budget → EndFault → Type 0
IsFirstFault about budget (Solve system e) = RefusesFirst about budget.pivots (ranking.Solve system e)
IsFirstFault about budget (Cover f) = ⊥
IsFirstFault about budget (Rank set barriers) = ⊥
IsFirstFault about budget Memory = Unit {0}

-- ---- under rows that hold on every run

-- the rows of the list, as pieces
abbrev pub UnderRows : CaseSystem → List Candidate → (Region → Type 0) → Type 0
UnderRows about list Holds = (known : Region) × ArePiecesOf about list known × Holds known

-- it is not settled that the rows are closed, or that all values at the start meet those that are known there
abbrev pub IsUncovered : CaseSystem → Budget → CoverFault → Region → Type 0
IsUncovered about budget f known =
    Refuses about known.pieces.items budget (ranking.Cover f)
    ⊎ IsCoverFault about.variables (rows_at known.pieces.items about.start ∷ []) [] budget.pivots budget.splits f

-- why the attempt under the rows of the list gives no certificate
abbrev pub RefusesUnder : CaseSystem → List Candidate → Budget → EndFault → Type 0
RefusesUnder about list budget (Solve system e) = UnderRows about list (λ known. Refuses about known.pieces.items budget (ranking.Solve system e))
RefusesUnder about list budget (Cover f) = UnderRows about list (IsUncovered about budget f)
RefusesUnder about list budget (Rank set barriers) = UnderRows about list (λ known. IsStuck about known.pieces.items set.items (lists barriers.items))
RefusesUnder about list budget Memory = Unit {0}

-- a question that was not settled, as it is handed on
abbrev pub handed_on : CoverFault → EndFault
handed_on (covers.Splits path) = Cover (covers.Splits path)
handed_on (covers.Solve rows fault) = Cover (covers.Solve rows fault)
handed_on (covers.Wide column) = Cover (covers.Wide column)
handed_on covers.Memory = Memory

-- no case is found to lead out of the known rows
abbrev pub IsClosed : RankFault → Type 0
IsClosed (ranking.Open taken values) = ⊥
IsClosed (ranking.Cover f) = Unit {0}
IsClosed (ranking.Solve system e) = Unit {0}
IsClosed ranking.Memory = Unit {0}

-- a refusal of ranks under known rows, as it is handed on
abbrev pub unranked : RankFault → EndFault
unranked (ranking.Open taken values) = Memory
unranked (ranking.Cover f) = handed_on f
unranked (ranking.Solve system e) = Solve system e
unranked ranking.Memory = Memory

-- the rows that were found: the greatest inductive part of what was offered
pub record AreFound (about : CaseSystem) (Given : List (List Candidate) → Type 0) (list : List Candidate) : Type 0 where
  pub strengthened : IsStrengthened about Given list
  pub inductive : IsInductive about list
  pub least : HasFalseParts about list

-- the attempt under the rows that were found gives no certificate
abbrev pub RefusesThere : CaseSystem → (List (List Candidate) → Type 0) → Budget → EndFault → Type 0
RefusesThere about Given budget e = (list : List Candidate) × AreFound about Given list × RefusesUnder about list budget e

-- why there is no certificate under rows that are found, where the proposers give what `Given` says: also where it is not settled which
-- rows they are
abbrev pub RefusesFound : CaseSystem → (List (List Candidate) → Type 0) → Budget → EndFault → Type 0
RefusesFound about Given budget (Solve system e) = RefusesThere about Given budget (Solve system e)
RefusesFound about Given budget (Cover f) = RefusesStrengthening about Given budget.pivots budget.splits f ⊎ RefusesThere about Given budget (Cover f)
RefusesFound about Given budget (Rank set barriers) = RefusesThere about Given budget (Rank set barriers)
RefusesFound about Given budget Memory = Unit {0}
