-- Why no certificate was made.
use Rattle.std.specs.Prelude.{◌≡◌, ◌⊎◌, ℕ, List, [], ◌∷◌}
use Rattle.tv_linear.specs.declared.region.Piece.{Piece}
use Rattle.tv_linear.specs.declared.region.Region.{Region}
use Rattle.tv_cases.specs.LinearCases.{CaseSystem}
use Rattle.tv_farkas.specs.EmptyPaths.{IsEmptyFault}
use Rattle.tv_farkas.specs.declared.budget.Budget.{Budget}
use Rattle.tv_farkas.specs.declared.fault.CoverFault.{CoverFault}
use Rattle.tv_farkas.specs.declared.fault.CoverFault.TheVariants.{Memory}
use Rattle.tv_cover.specs.Covering.{IsCoverFault}
use Rattle.tv_candidates.specs.declared.candidate.Candidate.{Candidate}
use Rattle.tv_invariant.specs.Pieces.{ArePiecesOf}
use Rattle.tv_rank.specs.Ways.{rows_at}
use Rattle.tv_lexrank.specs.Closing.{IsUnsettled}

-- it was not settled whether some case leads into the known rows
abbrev pub IsStepUnsettled : CaseSystem → List Piece → Budget → CoverFault → Type 0
IsStepUnsettled about known budget f = (k : ℕ) × IsUnsettled about known budget k f

-- it was not settled whether all values at the start meet the rows that are known there
abbrev pub IsStartUnsettled : CaseSystem → List Piece → Budget → CoverFault → Type 0
IsStartUnsettled about known budget f = IsCoverFault about.variables (rows_at known about.start ∷ []) [] budget.pivots budget.splits f

-- it was not settled whether an integer point meets the rows that are known at the location
abbrev pub IsPointUnsettled : CaseSystem → List Piece → ℕ → Budget → CoverFault → Type 0
IsPointUnsettled about known location budget f = IsEmptyFault about.variables (rows_at known location) budget.pivots budget.splits f

-- one of these was not settled, with this fault, or there was no memory
abbrev pub RefusesOver : CaseSystem → List Piece → ℕ → Budget → CoverFault → Type 0
RefusesOver about known location budget f =
    (f ≡ Memory) ⊎ (IsStepUnsettled about known budget f ⊎ (IsStartUnsettled about known budget f ⊎ IsPointUnsettled about known location budget f))

-- the same over pieces of the list
abbrev pub RefusesSafety : CaseSystem → List Candidate → ℕ → Budget → CoverFault → Type 0
RefusesSafety about list location budget f =
    (f ≡ Memory) ⊎ ((known : Region) × ArePiecesOf about list known × RefusesOver about known.pieces.items location budget f)
