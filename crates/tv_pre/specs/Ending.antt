-- Termination by rounds.
use Rattle.std.specs.Prelude.{◌⊎◌, ℕ, suc, List, [], ◌∷◌, ◌++◌, All, pos, false}
use Rattle.std.specs.List.{flat_map}
use Rattle.tv_formula.specs.declared.tree.Path.TheVariants.{Every}
use Rattle.tv_linear.specs.declared.region.Piece.{Piece}
use Rattle.tv_linear.specs.declared.region.Region.{Region}
use Rattle.tv_cases.specs.LinearCases.{CaseSystem}
use Rattle.tv_cert.specs.declared.node.Marked.{Marked}
use Rattle.tv_cert.specs.Claims.{about_with}
use Rattle.tv_cert.specs.Obligations.{Obligation, steps_of, step_fall}
use Rattle.tv_cert.specs.Shapes.{PieceShape}
use Rattle.tv_region.specs.Regions.{IsRegion}
use Rattle.tv_pre.specs.declared.growing.Grown.{Grown}
use Rattle.tv_pre.specs.Pieces.{InPieces, AreMarked}
use Rattle.tv_pre.specs.Inclusions.{OfPieces, LeadsTo}
use Rattle.tv_shape.specs.Made.{Offers}
use Rattle.tv_pre.specs.Questions.{Question, AsksOf, AsksSteps}
use Rattle.tv_pre.specs.Ranked.{EachOf, IsRankBelow}

-- each step from the states of the layer leads into these pieces
pub record IsEndLayer (about : CaseSystem) (earlier : List Piece) (layer : Region) : Type 0 where
  pub over : IsRegion about.variables about.locations layer
  pub leads : OfPieces about layer.pieces.items (LeadsTo about Every (InPieces earlier))

-- so it is with each layer and the pieces of all before it
abbrev pub AreEndLayers : CaseSystem → List Piece → List Region → Type 0
AreEndLayers about earlier [] = Unit {0}
AreEndLayers about earlier (layer ∷ layers) = IsEndLayer about earlier layer × AreEndLayers about (earlier ++ layer.pieces.items) layers

-- what is asked of the pieces of a layer, and of all layers
abbrev pub AsksEndLayer : CaseSystem → List Piece → Region → Question → Type 0
AsksEndLayer about earlier layer = AsksOf (λ q. AsksSteps about q earlier) layer.pieces.items

abbrev pub AsksEndLayers : CaseSystem → List Piece → List Region → Question → Type 0
AsksEndLayers about earlier [] a = ⊥
AsksEndLayers about earlier (layer ∷ layers) a = AsksEndLayer about earlier layer a ⊎ AsksEndLayers about (earlier ++ layer.pieces.items) layers a

-- what a piece owes each step from which leads into these pieces by a fall
abbrev pub end_owes : CaseSystem → ℕ → List Marked → Marked → List Obligation
end_owes about number all p = steps_of number (about_with about) p all (step_fall (about_with about) p)

-- the pieces of a node up to a round, whose rank is the number of their round, and the proofs of what they owe
pub record IsEnding (about : CaseSystem) (grown : Grown) : Type 0 where
  pub over : IsRegion about.variables about.locations grown.region
  pub below : EachOf (IsRankBelow about.variables (pos (suc grown.round))) grown.pieces.items
  pub same : AreMarked grown.pieces.items grown.region.pieces.items
  pub shape : All (PieceShape about 1 false) grown.pieces.items
  pub offers : (number : ℕ) (later : List Marked) → Offers (flat_map (end_owes about number (grown.pieces.items ++ later)) grown.pieces.items) grown.proofs.items
