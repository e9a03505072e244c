use Rattle.std.specs.Prelude.{◌≡◌, ℕ}
use Rattle.tv_simplex.specs.declared.system.System.{System}
use Rattle.tv_simplex.specs.declared.answer.Answer.{Answer}
use Rattle.tv_simplex.specs.declared.answer.Answer.TheVariants.{Solution, Barrier}
use Rattle.tv_simplex.specs.declared.fault.SolveFault.{SolveFault}
use Rattle.tv_simplex.specs.declared.fault.SolveFault.TheVariants.{Width, Scale, Pivots, Size, Memory}
use Rattle.tv_simplex.specs.Systems.{Equations}
use Rattle.tv_simplex.specs.Chains.{IsArtificial}
use Rattle.tv_simplex.specs.Outcomes.{IsSolutionOf, IsBarrierOf, GivesSolution, GivesBarrier, IsWide, HasNoScale, AreUnsettled}

-- the plain form of a system
abbrev pub equations : System → Equations
equations s = record { rows = s.rows; columns = s.columns; entries = s.entries; right = s.right.items }

-- the answer solves the system, or shows that nothing does
abbrev pub IsAnswer : Equations → Answer → Type 0
IsAnswer s (Solution values scale) = IsSolutionOf s values.items scale
IsAnswer s (Barrier y) = IsBarrierOf s y.items

-- the answer is what the last basis of the chain gives
abbrev pub GivesAnswer : Equations → Answer → Type 0
GivesAnswer s (Solution values scale) = GivesSolution s values.items scale
GivesAnswer s (Barrier y) = GivesBarrier s y.items

-- what a refusal shows of the chain of the system
abbrev pub IsFault : Equations → ℕ → SolveFault → Type 0
IsFault s pivots (Width basis row column) = IsWide s basis.items row column
IsFault s pivots (Scale basis) = HasNoScale s basis.items
IsFault s pivots (Pivots bases) = (bases ≡ pivots) × AreUnsettled s bases
IsFault s pivots (Size rows columns) = ⊥
IsFault s pivots Memory = Unit {0}

-- the refusal at a place of the system itself, with the artificial basis, or for want of memory
abbrev pub IsFirstRefusal : Equations → ℕ → ℕ → SolveFault → Type 0
IsFirstRefusal s row column (Width basis r c) = IsArtificial s.rows s.columns basis.items × (r ≡ row) × (c ≡ column)
IsFirstRefusal s row column (Scale basis) = ⊥
IsFirstRefusal s row column (Pivots bases) = ⊥
IsFirstRefusal s row column (Size rows columns) = ⊥
IsFirstRefusal s row column Memory = Unit {0}

-- the refusal is not for the budget
abbrev pub IsNotSpent : SolveFault → Type 0
IsNotSpent (Width basis row column) = Unit {0}
IsNotSpent (Scale basis) = Unit {0}
IsNotSpent (Pivots bases) = ⊥
IsNotSpent (Size rows columns) = Unit {0}
IsNotSpent Memory = Unit {0}
