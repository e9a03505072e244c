-- The node of nested terms.
use Rattle.std.specs.Prelude.{ℕ}
use Rattle.tv_cases.specs.Systems.{cases_of}
use Rattle.tv_formula.specs.Properties.{term}
use Rattle.tv_cert.specs.declared.node.Node.{Node}
use Rattle.tv_cert.specs.Claims.{about_with}
use Rattle.tv_cert.specs.Nodes.{pieces_of, entries}
use Rattle.tv_cert.specs.Obligations.{AllMet}
use Rattle.tv_shape.specs.Fitting.{NodesFit}
use Rattle.tv_nested.specs.declared.ranking.Ranking.{Ranking}
use Rattle.tv_nested.specs.NodePieces.{ArePieces}

-- The node shows that every run ends: it fits, all its obligations are met, whatever number it has, and it has the pieces of the ranking.
pub record IsRankedNode (r : Ranking) (node : Node) : Type 0 where
  pub fits : NodesFit (about_with (cases_of r.about.now)) term node
  pub met : (number : ℕ) → AllMet (entries number (about_with (cases_of r.about.now)) term node)
  pub pieces : ArePieces r (pieces_of node)
