-- Fixpoints that are to come to an end, by rounds.
use Rattle.std.specs.Prelude.{◌≡◌, ◌⊎◌, ℕ, suc, ◌<◌, ◌^◌, List, [], ◌∷◌, ◌++◌, length, map, All, pos, true, false}
use Rattle.std.specs.List.{flat_map}
use Rattle.tv_program.specs.Steps.{State}
use Rattle.tv_formula.specs.declared.tree.Path.{Path}
use Rattle.tv_formula.specs.declared.tree.Path.TheVariants.{Every, Any}
use Rattle.tv_linear.specs.Arithmetic.{constant_row}
use Rattle.tv_linear.specs.declared.region.Piece.{Piece}
use Rattle.tv_linear.specs.declared.region.Region.{Region}
use Rattle.tv_cases.specs.LinearCases.{CaseSystem, CaseSteps}
use Rattle.tv_cert.specs.declared.node.Kind.TheVariants as kind
use Rattle.tv_cert.specs.declared.node.Mark.TheVariants.{Done, Go}
use Rattle.tv_cert.specs.declared.node.Marked.{Marked}
use Rattle.tv_cert.specs.Claims.{about_with}
use Rattle.tv_cert.specs.Obligations.{Obligation, steps_of, step_fall, choice_of, choice_into, choice_fall}
use Rattle.tv_cert.specs.Shapes.{PieceShape}
use Rattle.tv_cert.specs.Targets.{owed_nothing}
use Rattle.tv_known.specs.Rounds.{GoesInto}
use Rattle.tv_region.specs.Regions.{IsRegion, lists_at}
use Rattle.tv_pre.specs.declared.growing.Grown.{Grown}
use Rattle.tv_pre.specs.declared.sides.Sides.{Sides}
use Rattle.tv_pre.specs.Pieces.{InPieces, AreMarked, marked_as}
use Rattle.tv_pre.specs.Inclusions.{OfPieces}
use Rattle.tv_shape.specs.Made.{Offers}
use Rattle.tv_pre.specs.Questions.{Question, chooses, AsksOf, AsksSteps}
use Rattle.tv_pre.specs.Fixed.{OnWay, fixed_owes, AsksWay}
use Rattle.tv_pre.specs.Ranked.{EachOf, IsRankBelow}

-- the region has all states of the program, by one piece without rows at each location
pub record IsEverywhere (about : CaseSystem) (region : Region) : Type 0 where
  pub over : IsRegion about.variables about.locations region
  pub bare : (l : ℕ) → (lists_at l region.pieces.items ≡ [] ∷ []) ⊎ (lists_at l region.pieces.items ≡ [])
  pub all : (s : State) → s.location < about.locations → InPieces region.pieces.items s

-- what a piece owes from which some step leads into these pieces by a fall, and with Every all do
abbrev pub come_of : CaseSystem → ℕ → Path → Marked → List Marked → List Obligation
come_of about number Every p ps =
    choice_of number kind.Successor (about_with about) p false (λ c draws. owed_nothing) ∷ steps_of number (about_with about) p ps (step_fall (about_with about) p)
come_of about number Any p ps =
    choice_of number kind.Choice (about_with about) p false (choice_into (about_with about) ps (choice_fall (about_with about) p)) ∷ []

-- whether some step leads from the piece into all states, and each step into the pieces; or whether some step leads into them
abbrev pub AsksCome : CaseSystem → Path → Piece → List Piece → Question → Type 0
AsksCome about Every q into a = ((all : Region) × IsEverywhere about all × (a ≡ chooses q false all.pieces.items)) ⊎ AsksSteps about q into a
AsksCome about Any q into a = a ≡ chooses q false into

-- ---- layers
-- the states of the layer are on the way, and go into these pieces
pub record IsNextLayer (about : CaseSystem) (sides : Sides) (earlier : List Piece) (layer : Region) : Type 0 where
  pub over : IsRegion about.variables about.locations layer
  pub hold : OfPieces about layer.pieces.items (OnWay sides)
  pub goes : OfPieces about layer.pieces.items (GoesInto (CaseSteps about) sides.path (InPieces earlier))

-- so it is with each layer and the pieces of all before it
abbrev pub AreNextLayers : CaseSystem → Sides → List Piece → List Region → Type 0
AreNextLayers about sides earlier [] = Unit {0}
AreNextLayers about sides earlier (layer ∷ layers) = IsNextLayer about sides earlier layer × AreNextLayers about sides (earlier ++ layer.pieces.items) layers

-- what is asked of the pieces of a layer, and of all layers
abbrev pub AsksLayer : CaseSystem → Sides → List Piece → Region → Question → Type 0
AsksLayer about sides earlier layer = AsksOf (λ q b. AsksWay sides q b ⊎ AsksCome about sides.path q earlier b) layer.pieces.items

abbrev pub AsksLayers : CaseSystem → Sides → List Piece → List Region → Question → Type 0
AsksLayers about sides earlier [] a = ⊥
AsksLayers about sides earlier (layer ∷ layers) a = AsksLayer about sides earlier layer a ⊎ AsksLayers about sides (earlier ++ layer.pieces.items) layers a

-- ---- the node as it grows
-- the pieces of a node up to a round, and the proofs of what they owe: those that are done, and then those of the layers, whose rank is the
-- number of their round
pub record IsGrown (about : CaseSystem) (sides : Sides) (grown : Grown) : Type 0 where
  pub over : IsRegion about.variables about.locations grown.region
  pub done : List Piece
  pub rest : List Piece
  pub whole : grown.region.pieces.items ≡ done ++ rest
  pub count : grown.count ≡ length done
  pub ranked : List Marked
  pub parts : grown.pieces.items ≡ map (marked_as about.variables Done []) done ++ ranked
  pub below : EachOf (IsRankBelow about.variables (pos (suc grown.round))) ranked
  pub same : AreMarked grown.pieces.items grown.region.pieces.items
  pub shape : All (PieceShape about 1 true) grown.pieces.items
  pub offers : (number : ℕ) (first second later : List Marked) → AreMarked first sides.first.now.pieces.items → AreMarked second sides.second.now.pieces.items →
      Offers (flat_map (fixed_owes about sides number (grown.pieces.items ++ later) first second false) (map (marked_as about.variables Done []) done)
      ++ flat_map (fixed_owes about sides number (grown.pieces.items ++ later) first second true) ranked) grown.proofs.items

-- the second node is the first one with the pieces of a layer, whose rank is the number of the round, and the same proofs
pub record HasLayer (n : ℕ) (old : Grown) (layer : Region) (new : Grown) : Type 0 where
  pub count : new.count ≡ old.count
  pub round : new.round ≡ suc old.round
  pub small : new.round < 2 ^ 32
  pub variables : new.region.variables ≡ old.region.variables
  pub locations : new.region.locations ≡ old.region.locations
  pub whole : new.region.pieces.items ≡ old.region.pieces.items ++ layer.pieces.items
  pub pieces : new.pieces.items ≡ old.pieces.items ++ map (marked_as n Go (constant_row n (pos new.round) ∷ [])) layer.pieces.items
  pub proofs : new.proofs.items ≡ old.proofs.items
