-- Certificates and refusals, as they are handed on.
use Rattle.std.proofs.Common.{inl, inr, List}
use Rattle.std.specs.Prelude.{Result, Ok, Err}
use Rattle.std.specs.Result.{IfErr}
use Rattle.tv_cases.specs.LinearCases.{CaseSystem}
use Rattle.tv_farkas.specs.declared.budget.Budget.{Budget}
use Rattle.tv_farkas.specs.declared.fault.CoverFault.{CoverFault}
use Rattle.tv_farkas.specs.declared.fault.CoverFault.TheVariants as covers
use Rattle.tv_linear.specs.declared.region.Region.{Region}
use Rattle.tv_candidates.specs.declared.candidate.Candidate.{Candidate}
use Rattle.tv_invariant.specs.Pieces.{ArePiecesOf}
use Rattle.tv_settling.specs.declared.fault.EndFault.{EndFault}
use Rattle.tv_settling.specs.declared.fault.EndFault.TheVariants.{Solve, Cover, Rank, Memory}
use Rattle.tv_linear.specs.declared.region.Piece.{Piece}
use Rattle.tv_lexrank.specs.declared.fault.RankFault.{RankFault}
use Rattle.tv_lexrank.specs.declared.fault.RankFault.TheVariants as ranking
use Rattle.tv_lexrank.specs.Outcomes.{Refuses}
use Rattle.tv_settling.specs.Closed.{AreKept}
use Rattle.tv_settling.specs.Ends.{IsUncovered, RefusesUnder, handed_on, IsClosed, unranked, AreFound, RefusesFound}

-- ---- refusals
pub under_handed : (about : CaseSystem) (list : List Candidate) (budget : Budget) (known : Region) → ArePiecesOf about list known → (f : CoverFault) → IsUncovered about budget f known → RefusesUnder about list budget (handed_on f)
under_handed about list budget known are (covers.Splits path) h = (known, are, h)
under_handed about list budget known are (covers.Solve rows fault) h = (known, are, h)
under_handed about list budget known are (covers.Wide column) h = (known, are, h)
under_handed about list budget known are covers.Memory h = tt

pub under_unranked : (about : CaseSystem) (list : List Candidate) (budget : Budget) (known : Region) → ArePiecesOf about list known → (e : RankFault) → Refuses about known.pieces.items budget e → RefusesUnder about list budget (unranked e)
under_unranked about list budget known are (ranking.Open taken values) h = tt
under_unranked about list budget known are (ranking.Cover f) h = under_handed about list budget known are f (inl h)
under_unranked about list budget known are (ranking.Solve system e) h = (known, are, h)
under_unranked about list budget known are ranking.Memory h = tt

-- rows that are kept are closed
pub closed_kept : (about : CaseSystem) (budget : Budget) (known : List Piece) → AreKept about known → (e : RankFault) → Refuses about known budget e → IsClosed e
closed_kept about budget known kept (ranking.Open taken values) h = kept taken values.items h
closed_kept about budget known kept (ranking.Cover f) h = tt
closed_kept about budget known kept (ranking.Solve system e) h = tt
closed_kept about budget known kept ranking.Memory h = tt

found_fault : (about : CaseSystem) (Given : List (List Candidate) → Type 0) (budget : Budget) (list : List Candidate) → AreFound about Given list → (e : EndFault) → RefusesUnder about list budget e → RefusesFound about Given budget e
found_fault about Given budget list found (Solve system e) h = (list, found, h)
found_fault about Given budget list found (Cover f) h = inr (list, found, h)
found_fault about Given budget list found (Rank set barriers) h = (list, found, h)
found_fault about Given budget list found Memory h = tt

-- a refusal under the rows that were found ends the search
pub found_refusal : {A : Type 0} (about : CaseSystem) (Given : List (List Candidate) → Type 0) (budget : Budget) (list : List Candidate) (r : Result A EndFault) → AreFound about Given list → IfErr r (RefusesUnder about list budget) → IfErr r (RefusesFound about Given budget)
found_refusal about Given budget list (Ok c) found h = h
found_refusal about Given budget list (Err e) found h = found_fault about Given budget list found e h
