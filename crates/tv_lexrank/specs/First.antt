use Rattle.std.specs.Prelude.{◌≡◌, ℕ, List, [], length}
use Rattle.tv_linear.specs.declared.region.Piece.{Piece}
use Rattle.tv_cases.specs.LinearCases.{LinearCase, CaseSystem}
use Rattle.tv_graph.specs.declared.Arc.{Arc}
use Rattle.tv_graph.specs.Graph.{HasNoGap}
use Rattle.tv_lexrank.specs.declared.fault.RankFault.{RankFault}
use Rattle.tv_lexrank.specs.declared.fault.RankFault.TheVariants as fault
use Rattle.tv_rank.specs.Given.{lists}
use Rattle.tv_lexrank.specs.declared.ranked.Ranked.{Ranked}
use Rattle.tv_lexrank.specs.declared.ranked.Ranked.TheVariants as ranked
use Rattle.tv_lexrank.specs.Nodes.{IsRankedBy}
use Rattle.tv_lexrank.specs.Parts.{AreGrouped, IsStuck}
use Rattle.tv_lexrank.specs.Known.{AreBare}
use Rattle.tv_lexrank.specs.Attempt.{NeverRises, RefusesAttempt}

-- the arc of a case in the location graph
abbrev pub arc_of : LinearCase → Arc
arc_of c = record { from = c.from; to = c.to }

-- Numbers of the components, from 0 up to some number without a gap: one for each location; locations with one number reach each other, and
-- no case leads to a greater number, so that locations that reach each other have one number.
pub record AreComponents (about : CaseSystem) (numbers : List ℕ) : Type 0 where
  pub one_each : length numbers ≡ about.locations
  pub grouped : AreGrouped about numbers
  pub never_rises : NeverRises about numbers
  pub no_gap : HasNoGap numbers

-- what the first attempt gives: a node that shows that every run ends, with what shows each case, or a set of cases that is stuck without
-- known rows
abbrev pub IsOutcome : CaseSystem → Ranked → Type 0
IsOutcome about (ranked.Node node shown) = IsRankedBy about [] node shown.items
IsOutcome about (ranked.Stuck set barriers) = IsStuck about [] set.items (lists barriers.items)

abbrev pub IsNode : Ranked → Type 0
IsNode (ranked.Node node shown) = Unit {0}
IsNode (ranked.Stuck set barriers) = ⊥

-- a refusal is of the system that it names, for numbers of the components and no known rows
abbrev pub RefusesFirst : CaseSystem → ℕ → RankFault → Type 0
RefusesFirst about pivots (fault.Solve system e) =
    (numbers : List ℕ) × (known : List Piece) × AreComponents about numbers × AreBare known × RefusesAttempt about known numbers pivots (fault.Solve system e)
RefusesFirst about pivots (fault.Open taken values) = ⊥
RefusesFirst about pivots (fault.Cover f) = ⊥
RefusesFirst about pivots fault.Memory = Unit {0}
