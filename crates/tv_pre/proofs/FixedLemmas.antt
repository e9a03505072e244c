-- The nodes of fixpoints.
use Rattle.std.proofs.Common.{◌≡◌, ℕ, List, [], ◌∷◌, ◌++◌, map, Bool, true, false, refl, sym, ◌∙◌, subst}
use Rattle.std.specs.List.{flat_map}
use Rattle.tv_formula.specs.declared.tree.Path.{Path}
use Rattle.tv_formula.specs.declared.tree.Shape.{Shape}
use Rattle.tv_formula.specs.Properties.{Property, fix, none, more}
use Rattle.tv_linear.specs.Linear.{Linear}
use Rattle.tv_linear.specs.declared.region.Piece.{Piece}
use Rattle.tv_linear.specs.declared.region.Region.{Region}
use Rattle.tv_cases.specs.LinearCases.{CaseSystem}
use Rattle.tv_cert.specs.declared.node.Mark.{Mark}
use Rattle.tv_cert.specs.declared.node.Marked.{Marked}
use Rattle.tv_cert.specs.declared.node.Node.{Node}
use Rattle.tv_cert.specs.declared.node.Proof.{Proof}
use Rattle.tv_cert.specs.Claims.{about_with}
use Rattle.tv_cert.specs.NodeViews.{pieces_list}
use Rattle.tv_cert.specs.Obligations.{Obligation, fix_of, first_of, second_of}
use Rattle.tv_cert.specs.Pieces.{goes, is_go}
use Rattle.tv_cert.specs.Shapes.{may_rank}
use Rattle.tv_pre.specs.Pieces.{AreMarked, marked_as}
use Rattle.tv_shape.specs.Made.{Offers}
use Rattle.tv_pre.specs.Parts.{IsPart, AreParts}
use Rattle.tv_pre.specs.Making.{IsMade}
use Rattle.tv_pre.specs.Around.{AreKids}
use Rattle.tv_pre.proofs.NodeLemmas.{states, part_made, are_kids}
use Rattle.tv_pre.proofs.ShapeLemmas.{first_marked, second_marked}
use Rattle.std.proofs.lemmas.Grind.{flat_map-append}

-- each of the pieces has the mark
abbrev pub EachGoes : Bool → List Marked → Type 0
EachGoes go [] = Unit {0}
EachGoes go (p ∷ ps) = (goes p ≡ go) × EachGoes go ps

pub each_goes : (n : ℕ) (mark : Mark) (ranks : List Linear) (qs : List Piece) → EachGoes (is_go mark) (map (marked_as n mark ranks) qs)
each_goes n mark ranks [] = tt
each_goes n mark ranks (q ∷ qs) = (refl, each_goes n mark ranks qs)

flat_each : (go : Bool) (F : Bool → Marked → List Obligation) (ps : List Marked) → EachGoes go ps → flat_map (λ p. F (goes p) p) ps ≡ flat_map (F go) ps
flat_each go F [] h = refl
flat_each go F (p ∷ ps) h = λ i. F (h.0 i) p ++ flat_each go F ps h.1 i

-- the pieces that are done and then those that go on
two_marks : (F : Bool → Marked → List Obligation) (ps qs : List Marked) → EachGoes false ps → EachGoes true qs → flat_map (λ p. F (goes p) p) (ps ++ qs) ≡ flat_map (F false) ps ++ flat_map (F true) qs
two_marks F ps qs d o = flat_map-append (λ p. F (goes p) p) ps qs ∙ (λ i. flat_each false F ps d i ++ flat_each true F qs o i)

pub fixed_part : (about : CaseSystem) (path : Path) (shape : Shape) (f g : Property) (region : Region) (node : Node) (m : ℕ) (ps qs : List Marked) (first second : Region) (nodes : List Node) (proofs : List Proof) →
    IsMade about region true m (ps ++ qs) nodes proofs node → (may_rank (states about (fix path shape f g)) ≡ false → m ≡ 0) → EachGoes false ps → EachGoes true qs →
    AreParts about (more f (more g none)) (first ∷ second ∷ []) nodes →
    ((number : ℕ) (a b : List Marked) → AreMarked a first.pieces.items → AreMarked b second.pieces.items →
    Offers (flat_map (λ p. fix_of number (about_with about) path shape (ps ++ qs) a b p false) ps ++ flat_map (λ p. fix_of number (about_with about) path shape (ps ++ qs) a b p true) qs) proofs) →
    IsPart about (fix path shape f g) region node
fixed_part about path shape f g region node m ps qs first second nodes proofs made ranked d o below offers =
    part_made about (fix path shape f g) region node m (ps ++ qs) (first ∷ second ∷ []) nodes proofs made tt ranked below (λ number.
    subst (λ os. Offers os proofs) (sym (two_marks (λ go p. fix_of number (about_with about) path shape (ps ++ qs) (first_of kids) (second_of kids) p go) ps qs d o))
    (offers number (first_of kids) (second_of kids) (first_marked kids first (second ∷ []) marked) (second_marked kids first second [] marked)))
  where
    kids : List (List Marked)
    kids = map pieces_list nodes

    marked : AreKids (map pieces_list nodes) (first ∷ second ∷ [])
    marked = are_kids about (more f (more g none)) (first ∷ second ∷ []) nodes below
