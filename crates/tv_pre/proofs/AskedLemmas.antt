-- Questions about regions that are built of the atoms of a formula.
use Rattle.std.proofs.Common.{◌≡◌, inl, inr, ℕ, suc, List, [], ◌∷◌, ◌++◌, sym, ap, ◌∙◌, subst, arith, Bool, true, false}
use Rattle.std.specs.Prelude.{Contains}
use Rattle.std.proofs.lemmas.List.{append-nil}
use Rattle.std.proofs.lemmas.List.Elements.{Contains-append_cases}
use Rattle.tv_formula.specs.declared.tree.Path.{Path}
use Rattle.tv_formula.specs.declared.tree.Path.TheVariants.{Every, Any}
use Rattle.tv_formula.specs.declared.tree.Shape.{Shape}
use Rattle.tv_formula.specs.declared.tree.Shape.TheVariants.{Until, Weak, Release, Strong}
use Rattle.tv_linear.specs.declared.region.Piece.{Piece}
use Rattle.tv_linear.specs.declared.region.Region.{Region}
use Rattle.tv_cases.specs.LinearCases.{CaseSystem}
use Rattle.tv_cases.proofs.ContainsLemmas.{Contains-here, Contains-later, Contains-cases, Contains-none}
use Rattle.tv_cert.specs.Obligations.{hold_side, end_sides}
use Rattle.tv_cert.specs.Statements.{Statement}
use Rattle.tv_pre.specs.declared.sides.Sides.{Sides}
use Rattle.tv_pre.specs.Parts.{joined_pieces}
use Rattle.tv_pre.specs.Questions.{Question, lies, chooses, AsksEach, AsksSteps, AsksNext, AsksStay}
use Rattle.tv_pre.specs.Fixed.{AsksEnds, AsksWay, AsksStaying}
use Rattle.tv_pre.specs.Growing.{AsksCome, AsksLayer, AsksLayers}
use Rattle.tv_pre.specs.Along.{arguments}
use Rattle.tv_pre.specs.Built.{IsBuilt, of_everywhere, AreBuilt, ArePiecesBuilt, IsAsked, of_place, of_steps, of_choice}
use Rattle.tv_pre.proofs.BuiltLemmas.{asked_to, pieces_of, hold_built}
use Rattle.std.proofs.lemmas.Grind.{flat_map-append}

module _ (about : CaseSystem) (s : Statement) (h : ℕ) where
  -- ---- pieces
  one_later : (own into : List Piece) (q : Piece) (a : Question) → a ≡ lies q into → ArePiecesBuilt about s h own → Contains own q → ArePiecesBuilt about s h into → IsAsked about s (suc h) a
  one_later own into q a e f m g = subst (IsAsked about s (suc h)) (sym e) (asked_to about s h (suc h) (lies q into) (omega arith) (of_place h own into q f m g))

  pub steps_asked : (own into : List Piece) (q : Piece) (a : Question) → ArePiecesBuilt about s h own → Contains own q → ArePiecesBuilt about s h into → AsksSteps about q into a → IsAsked about s (suc h) a
  steps_asked own into q a f m g w = subst (IsAsked about s (suc h)) (sym w.3) (of_steps h own into q w.0 f m g w.1 w.2)

  choice_asked : (own into : List Piece) (q : Piece) (stop : Bool) (a : Question) → ArePiecesBuilt about s h own → Contains own q → ArePiecesBuilt about s h into → a ≡ chooses q stop into → IsAsked about s (suc h) a
  choice_asked own into q stop a f m g e = subst (IsAsked about s (suc h)) (sym e) (of_choice h own into q stop f m g)

  pub place_asked : (own into : List Piece) (q : Piece) (a : Question) → ArePiecesBuilt about s h own → Contains own q → ArePiecesBuilt about s h into → a ≡ lies q into → IsAsked about s h a
  place_asked own into q a f m g e = subst (IsAsked about s h) (sym e) (of_place h own into q f m g)

  pub each_asked : (own : List Piece) (q : Piece) (regions : List Region) (a : Question) → ArePiecesBuilt about s h own → Contains own q → AreBuilt about s h regions → AsksEach q regions a → IsAsked about s h a
  each_asked own q regions a f m g w = place_asked own w.0.pieces.items q a f m (pieces_of about s h w.0 (g w.0 w.1)) w.2

  pub next_asked : (path : Path) (own into : List Piece) (q : Piece) (a : Question) → ArePiecesBuilt about s h own → Contains own q → ArePiecesBuilt about s h into → AsksNext about path q into a → IsAsked about s (suc h) a
  next_asked Every own into q a f m g w = steps_asked own into q a f m g w
  next_asked Any own into q a f m g w = choice_asked own into q false a f m g w

  stay_asked : (path : Path) (own into : List Piece) (q : Piece) (a : Question) → ArePiecesBuilt about s h own → Contains own q → ArePiecesBuilt about s h into → AsksStay about path q into a → IsAsked about s (suc h) a
  stay_asked Every own into q a f m g w = steps_asked own into q a f m g w
  stay_asked Any own into q a f m g w = choice_asked own into q true a f m g w

  come_asked : (path : Path) (own into : List Piece) (q : Piece) (a : Question) → ArePiecesBuilt about s h own → Contains own q → ArePiecesBuilt about s h into → AsksCome about path q into a → IsAsked about s (suc h) a
  come_asked Every own into q a f m g (inl w) = choice_asked own w.0.pieces.items q false a f m (pieces_of about s h w.0 (of_everywhere h w.0 w.1)) w.2
  come_asked Every own into q a f m g (inr w) = steps_asked own into q a f m g w
  come_asked Any own into q a f m g w = choice_asked own into q false a f m g w

  pub append_built : (earlier : List Piece) (r : Region) → ArePiecesBuilt about s h earlier → IsBuilt about s h r → ArePiecesBuilt about s h (earlier ++ r.pieces.items)
  append_built earlier r f b = record {
    regions = f.regions ++ r ∷ [];
    built = λ x c. elim (Contains-append_cases f.regions (r ∷ []) x c) [
      | inl k ↦ f.built x k
      | inr k ↦ elim (Contains-cases r x [] k) [ inl e ↦ subst (IsBuilt about s h) e b | inr n ↦ absurd (Contains-none x n) ]
    ];
    whole = ap (λ ps. ps ++ r.pieces.items) f.whole ∙ ap (λ ps. joined_pieces f.regions ++ ps) (sym (append-nil r.pieces.items)) ∙ sym (flat_map-append (λ (z : Region). z.pieces.items) f.regions (r ∷ []));
  }

  -- ---- sides
  module _ (sides : Sides) (below : AreBuilt about s h (arguments sides)) where
    ends_built : (shape : Shape) (a b : Region) → AreBuilt about s h (a ∷ b ∷ []) → AreBuilt about s h (end_sides shape a b)
    ends_built Until a b m = λ x c. elim (Contains-cases b x [] c) [ inl e ↦ subst (IsBuilt about s h) e (hold_built about s h Release a b m) | inr n ↦ absurd (Contains-none x n) ]
    ends_built Weak a b m = λ x c. elim (Contains-cases b x [] c) [ inl e ↦ subst (IsBuilt about s h) e (hold_built about s h Release a b m) | inr n ↦ absurd (Contains-none x n) ]
    ends_built Release a b m = m
    ends_built Strong a b m = m

    pub ends_asked : (done : List Piece) (a : Question) → ArePiecesBuilt about s h done → AsksEnds sides done a → IsAsked about s (suc h) a
    ends_asked done a f w = asked_to about s h (suc h) a (omega arith) (each_asked done w.0 (end_sides sides.shape sides.first.now sides.second.now) a f w.1 (ends_built sides.shape sides.first.now sides.second.now below) w.2)

    way_asked : (own : List Piece) (q : Piece) (a : Question) → ArePiecesBuilt about s h own → Contains own q → AsksWay sides q a → IsAsked about s (suc h) a
    way_asked own q a f m e =
        let hold = hold_side sides.shape sides.first.now sides.second.now in
        one_later own hold.pieces.items q a e f m (pieces_of about s h hold (hold_built about s h sides.shape sides.first.now sides.second.now below))

    pub staying_asked : (done onward own : List Piece) (a : Question) → ArePiecesBuilt about s h done → ArePiecesBuilt about s h onward → ArePiecesBuilt about s h own → AsksStaying about sides done onward own a → IsAsked about s (suc h) a
    staying_asked done onward own a f g k (inl w) = ends_asked done a f w
    staying_asked done onward own a f g k (inr w) = elim w.2 [
      | inl e ↦ way_asked onward w.0 a g w.1 e
      | inr e ↦ stay_asked sides.path onward own w.0 a g w.1 k e
    ]

    layer_asked : (earlier : List Piece) (layer : Region) (a : Question) → ArePiecesBuilt about s h earlier → IsBuilt about s h layer → AsksLayer about sides earlier layer a → IsAsked about s (suc h) a
    layer_asked earlier layer a f b w =
        let own = pieces_of about s h layer b in
        elim w.2 [
          | inl e ↦ way_asked layer.pieces.items w.0 a own w.1 e
          | inr e ↦ come_asked sides.path layer.pieces.items earlier w.0 a own w.1 f e
        ]

    pub layers_asked : (earlier : List Piece) (layers : List Region) (a : Question) → ArePiecesBuilt about s h earlier → AreBuilt about s h layers → AsksLayers about sides earlier layers a → IsAsked about s (suc h) a
    layers_asked earlier [] a f b w = absurd w
    layers_asked earlier (layer ∷ layers) a f b (inl w) = layer_asked earlier layer a f (b layer (Contains-here layer layers)) w
    layers_asked earlier (layer ∷ layers) a f b (inr w) =
        layers_asked (earlier ++ layer.pieces.items) layers a (append_built earlier layer f (b layer (Contains-here layer layers))) (λ x c. b x (Contains-later layer x layers c)) w
