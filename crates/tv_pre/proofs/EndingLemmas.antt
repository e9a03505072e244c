-- Nodes of termination that grow by rounds.
use Rattle.tv_shape.specs.Made.{Offers}
use Rattle.std.proofs.Common.{◌≡◌, ℕ, suc, List, [], ◌∷◌, ◌++◌, map, All, refl, sym, ap, ◌∙◌, subst, pos, Vec, false}
use Rattle.std.specs.Global.{Global}
use Rattle.std.specs.List.{flat_map}
use Rattle.std.proofs.lemmas.List.{append_assoc, append-nil}
use Rattle.std.proofs.lemmas.List.Elements.{All-nil, All-cons, All-append}
use Rattle.tv_formula.specs.Properties.{term}
use Rattle.tv_linear.specs.Linear.{Linear, IsWithin, columns}
use Rattle.tv_linear.specs.Arithmetic.{constant_row}
use Rattle.tv_linear.specs.declared.region.Piece.{Piece}
use Rattle.tv_linear.specs.declared.region.Region.{Region}
use Rattle.tv_cases.specs.LinearCases.{CaseSystem}
use Rattle.tv_cert.specs.declared.node.Mark.TheVariants.{Go}
use Rattle.tv_cert.specs.declared.node.Marked.{Marked}
use Rattle.tv_cert.specs.declared.node.Node.{Node}
use Rattle.tv_cert.specs.declared.node.Proof.{Proof}
use Rattle.tv_cert.specs.Claims.{about_with}
use Rattle.tv_cert.specs.Nodes.{piece_of}
use Rattle.tv_cert.specs.Shapes.{PieceShape}
use Rattle.tv_region.specs.Regions.{IsPieceOf, IsRegion}
use Rattle.tv_pre.specs.declared.growing.Grown.{Grown}
use Rattle.tv_pre.specs.Ending.{AreEndLayers, AsksEndLayers, IsEnding, end_owes}
use Rattle.tv_pre.specs.Growing.{HasLayer}
use Rattle.tv_pre.specs.Making.{IsMade}
use Rattle.tv_pre.specs.Offers.{Adds}
use Rattle.tv_pre.specs.Parts.{IsPart, joined_pieces}
use Rattle.tv_pre.specs.Pieces.{AreMarked, marked_as}
use Rattle.tv_pre.specs.Questions.{Question}
use Rattle.tv_pre.specs.Ranked.{EachOf, IsRankBelow, IsLayered}
use Rattle.tv_pre.proofs.GrowingLemmas.{each_so, each_append, each_ranked, still_below, not_below_zero, row_columns}
use Rattle.tv_pre.proofs.NodeLemmas.{part_made}
use Rattle.tv_pre.proofs.PieceLemmas.{are_marked, marked_append, marked_shape}
use Rattle.tv_pre.proofs.ShapeLemmas.{flat_same}
use Rattle.std.proofs.lemmas.Grind.{flat_map-append}

-- a piece of the next layer
pub descends : (about : CaseSystem) (old : Grown) → IsEnding about old → (k : ℕ) → k ≡ suc old.round → IsWithin 62 (pos k) → (q : Piece) (later : List Marked) →
    IsLayered about.variables q [] old.region.pieces.items (marked_as about.variables Go (constant_row about.variables (pos k) ∷ []) q) (old.pieces.items ++ later)
descends about old g k e small q later = record {
  rank = pos k;
  dones = [];
  ranked = old.pieces.items;
  later = later;
  parts = refl;
  marked = (refl, refl);
  ranks = refl;
  low = not_below_zero k;
  small = small;
  done_with = tt;
  below = subst (λ m. EachOf (IsRankBelow about.variables (pos m)) old.pieces.items) (sym e) g.below;
  done_are = tt;
  all_are = g.same;
}

-- one more layer
pub end_next : (about : CaseSystem) (old new : Grown) (proofs : Vec Proof Global) (layer : Region) → IsEnding about old → IsRegion about.variables about.locations layer →
    HasLayer about.variables (record { count = old.count; round = old.round; region = old.region; pieces = old.pieces; proofs = proofs }) layer new →
    ((number : ℕ) (later : List Marked) →
    Adds (flat_map (end_owes about number (new.pieces.items ++ later)) (map (marked_as about.variables Go (constant_row about.variables (pos new.round) ∷ [])) layer.pieces.items)) old.proofs.items proofs.items) →
    IsEnding about new
end_next about old new proofs layer g over has adds = record {
  over = record {
    variables = has.variables ∙ g.over.variables;
    locations = has.locations ∙ g.over.locations;
    pieces = subst (All (IsPieceOf n about.locations)) (sym has.whole) (All-append (IsPieceOf n about.locations) old.region.pieces.items layer.pieces.items g.over.pieces over.pieces);
  };
  below = subst (EachOf (IsRankBelow n (pos (suc new.round)))) (sym has.pieces)
      (each_append (IsRankBelow n (pos (suc new.round))) old.pieces.items added
      (each_so (IsRankBelow n (pos (suc old.round))) (IsRankBelow n (pos (suc new.round))) (λ p. still_below n old.round new.round p has.round) old.pieces.items g.below) (each_ranked n new.round layer.pieces.items));
  same =
      subst (λ ps. AreMarked ps new.region.pieces.items) (sym has.pieces)
      (subst (AreMarked (old.pieces.items ++ added)) (sym has.whole) (marked_append old.pieces.items added old.region.pieces.items layer.pieces.items g.same (are_marked n Go ranks layer.pieces.items)));
  shape = subst (All (PieceShape about 1 false)) (sym has.pieces)
      (All-append (PieceShape about 1 false) old.pieces.items added g.shape
      (marked_shape about 1 false Go ranks (All-cons (λ r. columns r ≡ n) (constant_row n (pos new.round)) [] (row_columns n (pos new.round)) (All-nil (λ r. columns r ≡ n))) refl (λ e. refl) layer.pieces.items over.pieces));
  offers = offered;
}
  where
    n : ℕ
    n = about.variables

    ranks : List Linear
    ranks = constant_row about.variables (pos new.round) ∷ []

    added : List Marked
    added = map (marked_as about.variables Go (constant_row about.variables (pos new.round) ∷ [])) layer.pieces.items

    offered : (number : ℕ) (later : List Marked) → Offers (flat_map (end_owes about number (new.pieces.items ++ later)) new.pieces.items) new.proofs.items
    offered number later =
        let all : List Marked = new.pieces.items ++ later in
        let there : old.pieces.items ++ (added ++ later) ≡ all = sym (append_assoc old.pieces.items added later) ∙ ap (λ ps. ps ++ later) (sym has.pieces) in
        let before : Offers (flat_map (end_owes about number all) old.pieces.items) old.proofs.items =
        subst (λ ps. Offers (flat_map (end_owes about number ps) old.pieces.items) old.proofs.items) there (g.offers number (added ++ later))
        in
        let whole : Offers (flat_map (end_owes about number all) old.pieces.items ++ flat_map (end_owes about number all) added) proofs.items =
        adds number later (flat_map (end_owes about number all) old.pieces.items) before
        in
        subst (Offers (flat_map (end_owes about number all) new.pieces.items)) (sym has.proofs)
        (subst (λ ps. Offers (flat_map (end_owes about number all) ps) proofs.items) (sym has.pieces)
        (subst (λ os. Offers os proofs.items) (sym (flat_map-append (end_owes about number all) old.pieces.items added)) whole))

-- ---- the layers that are left
pub record AreEndLeft (about : CaseSystem) (all : List Region) (earlier : List Piece) (left : List Region) : Type 0 where
  pub layers : AreEndLayers about earlier left
  pub pieces : earlier ++ joined_pieces left ≡ joined_pieces all
  pub asks : (a : Question) → AsksEndLayers about earlier left a → AsksEndLayers about [] all a

-- ---- the part
pub ending_part : (about : CaseSystem) (grown : Grown) (node : Node) → IsEnding about grown → (nodes : List Node) → nodes ≡ [] → IsMade about grown.region false 1 grown.pieces.items nodes grown.proofs.items node → IsPart about term grown.region node
ending_part about grown node is nodes e made =
    let ps : List Marked = grown.pieces.items in
    part_made about term grown.region node 1 ps [] [] grown.proofs.items
    (subst (λ kids. IsMade about grown.region false 1 ps kids grown.proofs.items node) e made) tt (λ f. absurd (let no : ⊥ = cc in no)) tt (λ number.
    subst (λ os. Offers os grown.proofs.items) (flat_same (end_owes about number ps) (piece_of number (about_with about) term ps []) (λ p. refl) ps)
    (subst (λ all. Offers (flat_map (end_owes about number all) ps) grown.proofs.items) (append-nil ps) (is.offers number [])))
