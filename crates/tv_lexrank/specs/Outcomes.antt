-- What is answered of the cases under known rows.
use Rattle.std.specs.Prelude.{ℕ, List}
use Rattle.tv_linear.specs.declared.region.Piece.{Piece}
use Rattle.tv_cases.specs.LinearCases.{CaseSystem}
use Rattle.tv_farkas.specs.declared.budget.Budget.{Budget}
use Rattle.tv_rank.specs.Given.{lists}
use Rattle.tv_lexrank.specs.declared.fault.RankFault.{RankFault}
use Rattle.tv_lexrank.specs.declared.fault.RankFault.TheVariants as fault
use Rattle.tv_lexrank.specs.declared.ranked.Ranked.{Ranked}
use Rattle.tv_lexrank.specs.declared.ranked.Ranked.TheVariants as ranked
use Rattle.tv_lexrank.specs.Attempt.{RefusesAttempt}
use Rattle.tv_lexrank.specs.Closing.{RefusesClosed}
use Rattle.tv_lexrank.specs.First.{AreComponents}
use Rattle.tv_lexrank.specs.Nodes.{IsRankedBy}
use Rattle.tv_lexrank.specs.Parts.{IsStuck}

-- a node that shows that every run from the known states ends, with what shows each case, or a set of cases that is stuck under the known rows
abbrev pub IsAnswer : CaseSystem → List Piece → Ranked → Type 0
IsAnswer about known (ranked.Node node shown) = IsRankedBy about known node shown.items
IsAnswer about known (ranked.Stuck set barriers) = IsStuck about known set.items (lists barriers.items)

-- A refusal: a case leads out of the known rows, or it is not settled whether it does, or the system that it names is not settled, for numbers
-- of the components.
abbrev pub Refuses : CaseSystem → List Piece → Budget → RankFault → Type 0
Refuses about known budget (fault.Open taken values) = RefusesClosed about known budget (fault.Open taken values)
Refuses about known budget (fault.Cover f) = RefusesClosed about known budget (fault.Cover f)
Refuses about known budget (fault.Solve system e) =
    (numbers : List ℕ) × AreComponents about numbers × RefusesAttempt about known numbers budget.pivots (fault.Solve system e)
Refuses about known budget fault.Memory = Unit {0}
