-- Fixpoints that are to come to an end, in programs whose states are all ranked.
use Rattle.std.specs.Prelude.{◌≡◌, ◌⊎◌, List, ◌∷◌, true}
use Rattle.tv_program.specs.Steps.{State}
use Rattle.tv_formula.specs.declared.tree.Path.TheVariants.{Every}
use Rattle.tv_linear.specs.declared.region.Piece.{Piece}
use Rattle.tv_linear.specs.declared.region.Region.{Region}
use Rattle.tv_cases.specs.LinearCases.{CaseSystem}
use Rattle.tv_cert.specs.declared.node.Node.{Node}
use Rattle.tv_known.specs.Cycles.{IsStateOf}
use Rattle.tv_known.specs.Rounds.{Goes, must_end}
use Rattle.tv_region.specs.StepRegions.{InState}
use Rattle.tv_pre.specs.declared.ranked_along.RankedAlong.{RankedAlong}
use Rattle.tv_pre.specs.declared.ranked_along.RankedAlong.TheVariants.{Everywhere, Unsettled, Untold}
use Rattle.tv_pre.specs.declared.sides.Sides.{Sides}
use Rattle.tv_farkas.specs.declared.budget.Budget.{Budget}
use Rattle.tv_pre.specs.Along.{arguments, AreWithin, IsAlong}
use Rattle.tv_pre.specs.Built.{IsFaultOf}
use Rattle.tv_pre.specs.Fixed.{OnWay, AtEnd}
use Rattle.tv_pre.specs.Pieces.{InPieces}
use Rattle.tv_pre.specs.Unserved.{AreTameCases, SomeIsBeside, IsUnservedBy}

-- each state of the program is in the pieces
abbrev pub HasAll : CaseSystem → List Piece → Type 0
HasAll about qs = (s : State) → IsStateOf about s → InPieces qs s

-- the states on the way with a step; all of them where going back is exact
abbrev pub AreGoing : CaseSystem → Sides → Region → Type 0
AreGoing about sides region = AreWithin about (AreTameCases about) (λ s. OnWay sides s × Goes about s) region

-- each state of the program is at the end, or on the way with a step
abbrev pub AllGo : CaseSystem → Sides → Type 0
AllGo about sides = (s : State) → IsStateOf about s → AtEnd sides s ⊎ (OnWay sides s × Goes about s)

-- where going back is exact, some state is neither at the end nor on the way with a step
abbrev pub IsBesideIfTame : CaseSystem → Sides → Type 0
IsBesideIfTame about sides = AreTameCases about → SomeIsBeside about (λ s. OnWay sides s) (λ s. AtEnd sides s)

-- the ranks do not serve for the fixpoint of these sides, if it is to come to its end on every run
abbrev pub IsUnservedAlong : CaseSystem → Sides → Type 0
IsUnservedAlong about sides =
    sides.path ≡ Every → must_end sides.shape ≡ true → IsUnservedBy about sides.shape (InState sides.first.now) (InState sides.second.now)

-- The part of the fixpoint has all states, and each is at the end or on the way with a step; or the nodes of its arguments and the states at
-- its end are given back, and some state is neither, where going back is exact, or that was not settled.
abbrev pub IsRankedAlong : CaseSystem → Sides → List Node → Region → RankedAlong → Type 0
IsRankedAlong about sides children end (Everywhere part) =
    IsAlong about 2 (end ∷ arguments sides) sides children part × HasAll about part.region.pieces.items × AllGo about sides
IsRankedAlong about sides children end (Untold nodes region fault) = (nodes.items ≡ children) × (region ≡ end)
IsRankedAlong about sides children end (Unsettled nodes region) = (nodes.items ≡ children) × (region ≡ end) × IsBesideIfTame about sides

-- what it shows that it was not settled whether some state is neither
abbrev pub IsUntoldAlong : CaseSystem → Budget → Sides → Region → RankedAlong → Type 0
IsUntoldAlong about budget sides end (Everywhere part) = Unit {0}
IsUntoldAlong about budget sides end (Unsettled nodes region) = Unit {0}
IsUntoldAlong about budget sides end (Untold nodes region fault) = IsFaultOf about budget 2 (end ∷ arguments sides) fault
