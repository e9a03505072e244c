-- What refusals of ranks under known rows show.
use Rattle.std.specs.Prelude.{ℕ, suc, List, [], ◌∷◌, ◌++◌, map, Vec}
use Rattle.std.specs.Global.{Global}
use Rattle.tv_linear.specs.Linear.{Linear}
use Rattle.tv_linear.specs.declared.region.Piece.{Piece}
use Rattle.tv_cases.specs.LinearCases.{CaseSystem}
use Rattle.tv_simplex.specs.declared.fault.SolveFault.{SolveFault}
use Rattle.tv_farkas.specs.declared.budget.Budget.{Budget}
use Rattle.tv_farkas.specs.declared.fault.CoverFault.{CoverFault}
use Rattle.tv_cover.specs.Covering.{IsCoverFault}
use Rattle.tv_derived.specs.Scopes.{Scope, Placed, placed}
use Rattle.tv_derived.specs.Faults.{IsRefusalOf, IsUnsolvedList}
use Rattle.tv_cover_refusals.specs.Covers.{IsSpentOnTargets}
use Rattle.tv_rank.specs.Ways.{rows_at}
use Rattle.tv_rank.specs.declared.name.Name.TheVariants as name
use Rattle.tv_lexrank.specs.Known.{AreKnown}
use Rattle.tv_lexrank.specs.Closing.{IsUnsettled}
use Rattle.tv_lexrank.specs.Sorting.{NamesInside}

-- The rows of pieces, as rows handed in. The first piece has the rows that are known at location `l`.
abbrev pub handed_from : ℕ → List Piece → List Placed
handed_from l [] = []
handed_from l (p ∷ ps) = map (placed l) p.poly.rows.items ++ handed_from (suc l) ps

abbrev pub handed_known : List Piece → List Placed
handed_known known = handed_from 0 known

-- where it is not settled whether a case leads into the known rows, this shows a path that has spent the splits, a list that was not solved
-- or a row that is too wide, each over rows derived from these, with one target
abbrev pub StepsRefuse : CaseSystem → Type 0
StepsRefuse about =
    (known : List Piece) (budget : Budget) (k : ℕ) (fault : CoverFault) → AreKnown about known → IsUnsettled about known budget k fault
    → IsRefusalOf about (handed_known known) 1 budget.pivots (IsSpentOnTargets about (handed_known known) 1 1 budget.splits) fault

-- so does a refusal of the cover of all values at the start by the rows that are known there, with no case on the way
abbrev pub StartRefuses : CaseSystem → Type 0
StartRefuses about =
    (known : List Piece) (pivots splits : ℕ) (fault : CoverFault) → IsCoverFault about.variables (rows_at known about.start ∷ []) [] pivots splits fault
    → IsRefusalOf about (handed_known known) 0 pivots (IsSpentOnTargets about (handed_known known) 1 0 splits) fault

-- the rows by which a refusal names the system of a case are a list derived from the known rows, and its system has the fault
abbrev pub RowsRefuse : CaseSystem → Type 0
RowsRefuse about =
    (known : List Piece) (numbers : List ℕ) (component pivots : ℕ) (rows : Vec Linear Global) (e : SolveFault) → AreKnown about known
    → NamesInside about known numbers component pivots (name.Rows rows) e
    → (f : Scope) × IsUnsolvedList about (handed_known known) f 0 pivots rows.items e
