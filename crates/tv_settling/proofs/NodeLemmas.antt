-- The node fits and is met.
use Rattle.tv_shape.specs.Made.{HasOwn, IsFitted, IsOffered}
use Rattle.std.proofs.Common.{◌≡◌, ℕ, zero, suc, ◌<◌, List, [], ◌∷◌, ◌++◌, Some, Bool, true, false, arith, refl, sym, ap, ◌∙◌, subst}
use Rattle.std.specs.Prelude.{slice_get, not}
use Rattle.std.specs.List.{AllZip, flat_map}
use Rattle.std.proofs.lemmas.List.{append-nil}
use Rattle.std.proofs.lemmas.List.Elements.{All-nil, All-cons}
use Rattle.std.proofs.lemmas.Grind.{flat_map-append}
use Rattle.tv_linear.specs.Linear.{columns}
use Rattle.tv_formula.specs.Forms.{never_at}
use Rattle.tv_formula.specs.Properties.{truth, at, negated}
use Rattle.tv_cert.specs.declared.node.Marked.{Marked}
use Rattle.tv_cert.specs.declared.node.Node.{Node}
use Rattle.tv_cert.specs.declared.node.Proof.{Proof}
use Rattle.tv_cert.specs.NodeViews.{pieces_list}
use Rattle.tv_cert.specs.Obligations.{Obligation, atom_of, truth_targets}
use Rattle.tv_cert.specs.Nodes.{piece_of, own_of}
use Rattle.tv_cert.specs.Pieces.{pieces_at}
use Rattle.tv_cert.specs.Shapes.{PieceShape}
use Rattle.tv_cert.proofs.NodeLemmas.{pieces_are}
use Rattle.tv_lexrank.proofs.MetLemmas.{over_at}
use Rattle.tv_points.specs.Nodes.{IsWholeNode, whole_piece}
use Rattle.tv_points.proofs.BareMet.{atoms_offered, whole_shape}
use Rattle.tv_shape.proofs.MadeLemmas.{node_fitted}
use Rattle.tv_settling.specs.Below.{pieces_below, elsewhere}
use Rattle.tv_settling.specs.Nodes.{system_of, asked, known_piece, known_there, known_pieces, pieces_elsewhere, owed_at, AreShownBelow, ShowsNever}
use Rattle.tv_settling.specs.declared.barrier.Barrier.{Barrier}
use Rattle.tv_settling.proofs.BelowLemmas.{each_below, length_below, elsewhere_placed, elsewhere_short, each_elsewhere}
use Rattle.tv_settling.proofs.ShownLemmas.{known_placed, known_found}
use Rattle.tv_linear.proofs.ListLaws.{zip_both}

-- ---- the children
module _ (b : Barrier) where
  abbrev n : ℕ
  n = (system_of b).variables

  -- at a piece elsewhere a cover into one target without rows is owed
  abbrev OwesNothing : ℕ → Marked → Type 0
  OwesNothing number q = piece_of number (asked b) (negated (at b.location)) (pieces_elsewhere b) [] q ≡ atom_of number (asked b) q ([] ∷ []) ∷ []

  pub elsewhere_fitted : (node : Node) → IsWholeNode node (pieces_elsewhere b) → IsFitted (asked b) (negated (at b.location)) 2 node
  elsewhere_fitted node h = node_fitted (asked b) (negated (at b.location)) 2 node (pieces_elsewhere b) 0 [] h.proofs h.own (record {
    said = tt;
    ranked = λ e. refl;
    small = omega arith;
    bounded = (
        let many = length_below (elsewhere n b.location) (elsewhere_placed n b.location) (system_of b).locations (elsewhere_short n b.location) in
        let bounded = b.about.now.are_cases.few_locations in
        omega (arith, many, bounded)
        );
    each = each_elsewhere n b.location (PieceShape (system_of b) 0 false) (system_of b).locations (λ l inside other. whole_shape (system_of b) false l inside);
    offered = λ number. atoms_offered (asked b) number (piece_of number (asked b) (negated (at b.location)) (pieces_elsewhere b) []) (pieces_elsewhere b) h.proofs
        (each_elsewhere n b.location (OwesNothing number) (system_of b).locations
        (λ l inside other. ap (λ (z : Bool). atom_of number (asked b) (whole_piece n l) (truth_targets (not z)) ∷ []) other)) h.bare;
    below = tt;
    shallow = omega arith;
  })

  pub false_fitted : (node : Node) → IsWholeNode node [] → IsFitted (asked b) (truth false) 2 node
  false_fitted node h = node_fitted (asked b) (truth false) 2 node [] 0 [] h.proofs h.own (record {
    said = tt;
    ranked = λ e. refl;
    small = omega arith;
    bounded = omega arith;
    each = All-nil (PieceShape (system_of b) 0 false);
    offered = λ number. atoms_offered (asked b) number (piece_of number (asked b) (truth false) [] []) [] h.proofs (All-nil (λ q. piece_of number (asked b) (truth false) [] [] q ≡ atom_of number (asked b) q ([] ∷ []) ∷ [])) h.bare;
    below = tt;
    shallow = omega arith;
  })

  -- ---- the node's own parts
  known_shape : (l : ℕ) → l < (system_of b).locations → PieceShape (system_of b) 0 true (known_piece b l)
  known_shape l inside = record {
    place = inside;
    poly = refl;
    rows = over_at n b.known.now.pieces.items l b.known_rows.over;
    ranks = All-nil (λ r. columns r ≡ n);
    many = refl;
    marks = λ e. refl;
  }

  abbrev kids : List (List Marked)
  kids = pieces_elsewhere b ∷ [] ∷ []

  abbrev owes : ℕ → Marked → List Obligation
  owes number = piece_of number (asked b) (never_at b.location) (known_pieces b) kids

  all_offered : (number l : ℕ) (proofs : List Proof) → AreShownBelow b l proofs → AllZip IsOffered (flat_map (owes number) (pieces_below (known_there b) l)) proofs
  all_offered number zero proofs h = subst (λ z. AllZip IsOffered [] z) (sym h) tt
  all_offered number (suc l) proofs (front, below, shown) =
      subst (λ z. AllZip IsOffered (flat_map (owes number) (pieces_below (known_there b) (suc l))) z) (sym shown.parts)
      (subst (λ z. AllZip IsOffered z (front ++ shown.more)) (sym (flat_map-append (owes number) (pieces_below (known_there b) l) (known_piece b l ∷ []) ∙ ap (λ z. flat_map (owes number) (pieces_below (known_there b) l) ++ z) (append-nil (owes number (known_piece b l)))))
      (zip_both IsOffered (flat_map (owes number) (pieces_below (known_there b) l)) (owed_at b number l) front shown.more (all_offered number l front below) (shown.each number)))

  module _ (node : Node) (pieces : List Marked) (children : List Node) (proofs : List Proof) (away never : Node) (same : pieces ≡ known_pieces b) (own : HasOwn node pieces 0 children proofs) (parts : children ≡ away ∷ never ∷ []) (away_is : IsWholeNode away (pieces_elsewhere b)) (never_is : IsWholeNode never []) (shown : AreShownBelow b (system_of b).locations proofs) where
    owned : HasOwn node (known_pieces b) 0 (away ∷ never ∷ []) proofs
    owned = subst (λ ps. HasOwn node ps 0 (away ∷ never ∷ []) proofs) same (subst (λ ns. HasOwn node pieces 0 ns proofs) parts own)

    pieces_of_kids : pieces_list away ∷ pieces_list never ∷ [] ≡ kids
    pieces_of_kids = (λ i. away_is.own.pieces_are i ∷ never_is.own.pieces_are i ∷ [])

    fitted : IsFitted (asked b) (never_at b.location) 1 node
    fitted = node_fitted (asked b) (never_at b.location) 1 node (known_pieces b) 0 (away ∷ never ∷ []) proofs owned (record {
      said = tt;
      ranked = λ e. refl;
      small = omega arith;
      bounded = (
          let many = length_below (known_there b) (known_placed b) (system_of b).locations (λ l. omega arith) in
          let bounded = b.about.now.are_cases.few_locations in
          omega (arith, many, bounded)
          );
      each = each_below (known_there b) (known_placed b) (PieceShape (system_of b) 0 true) (system_of b).locations
          (λ l inside. All-cons (PieceShape (system_of b) 0 true) (known_piece b l) [] (known_shape l inside) (All-nil (PieceShape (system_of b) 0 true)));
      offered = λ number. subst (λ ks. AllZip IsOffered (own_of number (asked b) (never_at b.location) (known_pieces b) ks) proofs) (sym pieces_of_kids)
          (all_offered number (system_of b).locations proofs shown);
      below = (elsewhere_fitted away away_is, (false_fitted never never_is, tt));
      shallow = omega arith;
    })

    pub node_shows : ShowsNever b node
    node_shows = record {
      fitted = fitted;
      pieces = λ l inside. record {
        piece = known_piece b l;
        first = subst (λ ps. slice_get (pieces_at ps l) 0 ≡ Some (known_piece b l)) (sym (pieces_are node ∙ owned.pieces_are)) (known_found b l inside);
        has = refl;
      };
    }
