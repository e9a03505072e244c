-- Refusals as they are handed on, and what visits say.
use Rattle.std.proofs.Common.{inl, inr, ℕ, List, length, arith, ap}
use Rattle.std.specs.Prelude.{Contains, Result, Ok, Err, IfOk}
use Rattle.std.specs.Result.{IfErr}
use Rattle.tv_linear.specs.Linear.{Linear}
use Rattle.tv_linear.specs.declared.region.Piece.{Piece}
use Rattle.tv_linear.specs.declared.region.Region.{Region}
use Rattle.tv_program.specs.Systems.{System}
use Rattle.tv_formula.specs.Properties.{Property}
use Rattle.tv_cases.specs.LinearCases.{CaseSystem}
use Rattle.tv_farkas.specs.declared.budget.Budget.{Budget}
use Rattle.tv_farkas.specs.declared.fault.CoverFault.{CoverFault}
use Rattle.tv_farkas.specs.declared.fault.CoverFault.TheVariants as covers
use Rattle.tv_candidates.specs.declared.candidate.Candidate.{Candidate}
use Rattle.tv_invariant.specs.Pieces.{ArePiecesOf}
use Rattle.tv_rank.specs.Ways.{rows_at, case_at}
use Rattle.tv_lexrank.specs.declared.fault.RankFault.{RankFault}
use Rattle.tv_lexrank.specs.declared.fault.RankFault.TheVariants as ranking
use Rattle.tv_lexrank.specs.Closing.{RefusesClosed}
use Rattle.tv_lexrank.specs.First.{AreComponents}
use Rattle.tv_lexrank.specs.Known.{AreBare}
use Rattle.tv_finitely.specs.declared.fault.VisitFault.{VisitFault}
use Rattle.tv_finitely.specs.declared.fault.VisitFault.TheVariants.{Rank, Solve, Cover, Memory}
use Rattle.tv_finitely.specs.declared.visits.Visits.{Visits}
use Rattle.tv_finitely.specs.Finite.{HoldsFinitely}
use Rattle.tv_finitely.specs.Found.{AreVisits, RefusesBegun, RefusesShown, RefusesUnder}
use Rattle.tv_finitely.specs.Obligations.{visits_of}
use Rattle.tv_finitely.specs.Parts.{RefusesAttempt}
use Rattle.tv_finitely.specs.Refusals.{RefusesFirst, RefusesRows, handed_on, IsClosed, unranked, AreKept, AreFound, RefusesFinitely}
use Rattle.tv_finitely.specs.Splits.{SplitSystem, IsSplitOf}
use Rattle.tv_finitely.proofs.Soundness.{holds_finitely}

-- ---- under known rows
-- a refusal of the cover of the start, or of what a step leads into
pub begun_shown : (about : CaseSystem) (known : List Piece) (budget : Budget) (e : RankFault) → RefusesBegun about known budget e → RefusesShown about known budget e
begun_shown about known budget (ranking.Solve system e) h = h
begun_shown about known budget (ranking.Open taken values) h = absurd h
begun_shown about known budget (ranking.Cover f) h = inr h
begun_shown about known budget ranking.Memory h = tt

pub closed_shown : (about : CaseSystem) (known : List Piece) (budget : Budget) (e : RankFault) → RefusesClosed about known budget e → RefusesShown about known budget e
closed_shown about known budget (ranking.Solve system e) h = h
closed_shown about known budget (ranking.Open taken values) h = h
closed_shown about known budget (ranking.Cover f) h = inl h
closed_shown about known budget ranking.Memory h = tt

pub shown_under : (s : SplitSystem) (known : List Piece) (budget : Budget) (e : RankFault) → RefusesShown s.system known budget e → RefusesUnder s known budget e
shown_under s known budget (ranking.Solve system e) h = absurd h
shown_under s known budget (ranking.Open taken values) h = h
shown_under s known budget (ranking.Cover f) h = h
shown_under s known budget ranking.Memory h = tt

pub attempt_under : (s : SplitSystem) (known : List Piece) (numbers : List ℕ) (budget : Budget) → AreComponents s.system numbers → (e : RankFault) → RefusesAttempt s known numbers budget.pivots e → RefusesUnder s known budget e
attempt_under s known numbers budget are (ranking.Solve system e) h = (numbers, are, h)
attempt_under s known numbers budget are (ranking.Open taken values) h = absurd h
attempt_under s known numbers budget are (ranking.Cover f) h = absurd h
attempt_under s known numbers budget are ranking.Memory h = tt

-- ---- where no rows are known
none_among : (known : List Piece) (l : ℕ) (r : Linear) → AreBare known → Contains (rows_at known l) r → ⊥
none_among known l r bare c = (let e = ap length (bare l) in let q = c.1 in omega (arith, e, q))

pub never_open : (s : SplitSystem) (known : List Piece) (budget : Budget) (taken : ℕ) (values : _) → AreBare known → RefusesUnder s known budget (ranking.Open taken values) → ⊥
never_open s known budget taken values bare h = none_among known h.new.location h.row bare h.among

pub never_uncovered : (s : SplitSystem) (known : List Piece) (budget : Budget) (f : CoverFault) → AreBare known → RefusesUnder s known budget (ranking.Cover f) → ⊥
never_uncovered s known budget f bare (inl (k, h)) = (let e = ap length (bare (case_at s.system.cases k).to) in let l = h.some in omega (arith, e, l))
never_uncovered s known budget f bare (inr h) = (let e = ap length (bare s.system.start) in let l = h.some in omega (arith, e, l))

-- ---- under the rows of a list
handed : (s : SplitSystem) (list : List Candidate) (budget : Budget) (known : Region) → ArePiecesOf s.system list known → (f : CoverFault) → RefusesUnder s known.pieces.items budget (ranking.Cover f) → RefusesRows s list budget (handed_on f)
handed s list budget known are (covers.Splits path) h = (known, are, h)
handed s list budget known are (covers.Solve rows fault) h = (known, are, h)
handed s list budget known are (covers.Wide column) h = (known, are, h)
handed s list budget known are covers.Memory h = tt

pub under_unranked : (s : SplitSystem) (list : List Candidate) (budget : Budget) (known : Region) → ArePiecesOf s.system list known → (e : RankFault) → RefusesUnder s known.pieces.items budget e → RefusesRows s list budget (unranked e)
under_unranked s list budget known are (ranking.Open taken values) h = tt
under_unranked s list budget known are (ranking.Cover f) h = handed s list budget known are f h
under_unranked s list budget known are (ranking.Solve system e) h = (known, are, h)
under_unranked s list budget known are ranking.Memory h = tt

-- rows that are kept are closed
pub closed_kept : (s : SplitSystem) (budget : Budget) (known : List Piece) → AreKept s.system known → (e : RankFault) → RefusesUnder s known budget e → IsClosed e
closed_kept s budget known kept (ranking.Open taken values) h = kept taken values.items h
closed_kept s budget known kept (ranking.Cover f) h = tt
closed_kept s budget known kept (ranking.Solve system e) h = tt
closed_kept s budget known kept ranking.Memory h = tt

-- ---- under the rows that are found
found_fault : (s : SplitSystem) (Given : List (List Candidate) → Type 0) (budget : Budget) (list : List Candidate) → AreFound s.system Given list → (e : VisitFault) → RefusesRows s list budget e → RefusesFinitely s Given budget e
found_fault s Given budget list found (Rank set barriers) h = (list, found, h)
found_fault s Given budget list found (Solve system e) h = inr (list, found, h)
found_fault s Given budget list found (Cover f) h = inr (list, found, h)
found_fault s Given budget list found Memory h = tt

pub found_refusal : {A : Type 0} (s : SplitSystem) (Given : List (List Candidate) → Type 0) (budget : Budget) (list : List Candidate) (r : Result A VisitFault) → AreFound s.system Given list → IfErr r (RefusesRows s list budget) → IfErr r (RefusesFinitely s Given budget)
found_refusal s Given budget list (Ok c) found h = h
found_refusal s Given budget list (Err e) found h = found_fault s Given budget list found e h

-- a refusal of the first attempt
pub first_refusal : (s : SplitSystem) (Given : List (List Candidate) → Type 0) (budget : Budget) (e : VisitFault) → RefusesFirst s budget e → RefusesFinitely s Given budget e
first_refusal s Given budget (Rank set barriers) h = absurd h
first_refusal s Given budget (Solve system e) h = inl h
first_refusal s Given budget (Cover f) h = absurd h
first_refusal s Given budget Memory h = tt

-- ---- what visits say
pub visits_hold : (s : SplitSystem) (p : System) (f : Property) → IsSplitOf p f s → (v : Visits) → AreVisits s v → HoldsFinitely p f
visits_hold s p f split v h = holds_finitely s (visits_of v) h.shape h.met p f split

pub found_hold : (s : SplitSystem) (p : System) (f : Property) → IsSplitOf p f s → (r : Result Visits VisitFault) → IfOk r (AreVisits s) → IfOk r (λ v. HoldsFinitely p f)
found_hold s p f split (Ok v) h = visits_hold s p f split v h
found_hold s p f split (Err e) h = h
