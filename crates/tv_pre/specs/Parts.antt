-- Regions where formulas hold, with the nodes that show it.
use Rattle.std.specs.Prelude.{ℕ, ◌+◌, ◌≤◌, List, [], ◌∷◌}
use Rattle.tv_formula.specs.Limits.{operators}
use Rattle.tv_formula.specs.Properties.{Property, Properties, none, more}
use Rattle.std.specs.List.{flat_map}
use Rattle.tv_linear.specs.declared.region.Piece.{Piece}
use Rattle.tv_linear.specs.declared.region.Region.{Region}
use Rattle.tv_cases.specs.LinearCases.{CaseSystem}
use Rattle.tv_cert.specs.declared.node.Node.{Node}
use Rattle.tv_cert.specs.Claims.{about_with}
use Rattle.tv_cert.specs.Nodes.{pieces_of, entries}
use Rattle.tv_cert.specs.Obligations.{AllMet}
use Rattle.tv_cert.specs.Shapes.{HasShape}
use Rattle.tv_shape.specs.Fitting.{NodeNarrow, GoesWithin}
use Rattle.tv_pre.specs.Pieces.{AreMarked}

-- The node shows the formula where its pieces are: it has the shape and narrow numbers, it fits at any depth that leaves room for the
-- operators of the formula, and its obligations and those of the nodes below it are met, whatever number it has.
pub record Shows (about : CaseSystem) (f : Property) (node : Node) : Type 0 where
  pub shape : HasShape (about_with about) f node
  pub narrow : NodeNarrow node
  pub within : (depth : ℕ) → depth + operators f ≤ 256 → GoesWithin depth node
  pub met : (number : ℕ) → AllMet (entries number (about_with about) f node)

-- the pieces of the node are those of the region, in order
pub record IsPart (about : CaseSystem) (f : Property) (region : Region) (node : Node) : Type 0 where
  pub shows : Shows about f node
  pub pieces : AreMarked (pieces_of node) region.pieces.items

-- one for each formula, in order
abbrev pub AreParts : CaseSystem → Properties → List Region → List Node → Type 0
AreParts about none [] [] = Unit {0}
AreParts about none [] (node ∷ nodes) = ⊥
AreParts about none (region ∷ regions) nodes = ⊥
AreParts about (more f fs) [] nodes = ⊥
AreParts about (more f fs) (region ∷ regions) [] = ⊥
AreParts about (more f fs) (region ∷ regions) (node ∷ nodes) = IsPart about f region node × AreParts about fs regions nodes

-- the pieces of all regions, in order
abbrev pub joined_pieces : List Region → List Piece
joined_pieces regions = flat_map (λ r. r.pieces.items) regions
