-- What is so of what was found is so of a copy.
use Rattle.std.proofs.Common.{◌≡◌, ℕ, ◌≤◌, length, sym, ◌∙◌, subst, Bool}
use Rattle.std.specs.Prelude.{List, IfSome}
use Rattle.tv_formula.specs.Properties.{Property}
use Rattle.tv_linear.specs.declared.region.Piece.{Piece}
use Rattle.tv_linear.specs.declared.region.Region.{Region}
use Rattle.tv_cases.specs.Comparisons.{comparison_lists}
use Rattle.tv_cases.specs.LinearCases.{CaseSystem}
use Rattle.tv_cert.specs.declared.node.Node.{Node}
use Rattle.tv_cert.specs.Nodes.{pieces_of}
use Rattle.tv_cert.specs.Pieces.{pieces_at}
use Rattle.tv_cert.specs.Statements.{Statement, ends, stated}
use Rattle.tv_copy.specs.SameNodes.{SameNode}
use Rattle.tv_copy.specs.SameRegions.{SamePiece, SameRegion}
use Rattle.tv_copy.proofs.Carrying.{zip_carried}
use Rattle.tv_copy.proofs.NodeLaws.{same_pieces, node_shaped, node_narrow, node_within, node_met}
use Rattle.tv_known.specs.Sizes.{count}
use Rattle.tv_lexrank.specs.Nodes.{IsPieceAt, ShowsEnd}
use Rattle.tv_rank.specs.Ways.{rows_at}
use Rattle.tv_pre.specs.declared.outcome.Found.{Found}
use Rattle.tv_pre.specs.Built.{of_same}
use Rattle.tv_pre.specs.Copies.{SameFound}
use Rattle.tv_pre.specs.Finding.{IsGapFor, IsFound, steps_back}
use Rattle.tv_pre.specs.KnownStates.{HasKnownStates}
use Rattle.tv_pre.specs.Parts.{Shows}
use Rattle.tv_pre.specs.Pieces.{IsMarked, AreMarked}
use Rattle.tv_pre.proofs.SameRegionLemmas.{same_over, same_state, state_same, same_count}

shows_same : (about : CaseSystem) (f : Property) (a b : Node) → SameNode a b → Shows about f a → Shows about f b
shows_same about f a b e h = record {
  shape = node_shaped about (stated (comparison_lists about.variables) f) a b e h.shape;
  narrow = node_narrow a b e h.narrow;
  within = λ depth l. node_within depth a b e (h.within depth l);
  met = λ number. node_met number about (stated (comparison_lists about.variables) f) a b e (h.met number);
}

marked_same : (a b : Node) (r s : Region) → SameNode a b → SameRegion r s → AreMarked (pieces_of a) r.pieces.items → AreMarked (pieces_of b) s.pieces.items
marked_same a b r s e w h =
    subst (λ ps. AreMarked ps s.pieces.items) (sym (same_pieces a b e))
    (zip_carried IsMarked SamePiece (λ m p q k x. (x.0 ∙ sym k.location, x.1 ∙ sym k.rows)) (pieces_of a) r.pieces.items s.pieces.items w.pieces h)

pub found_same : (about : CaseSystem) (last : ℕ) (s : Statement) (a b : Found) → SameFound a b → IsFound about last s a → IsFound about last s b
found_same about last s a b e h = record {
  over = same_over about.variables about.locations a.part.region b.part.region e.region h.over;
  shows = λ f w.
      (let p = h.shows f w in record {
        shows = shows_same about f a.part.node b.part.node e.node p.shows;
        pieces = marked_same a.part.node b.part.node a.part.region b.part.region e.node e.region p.pieces;
      });
  built = of_same (steps_back last s) a.part.region b.part.region h.built e.region;
  size = e.size ∙ h.size;
  gap = subst (λ g. IfSome g (IsGapFor about last s)) (sym e.gap) h.gap;
  full = λ none f w rows t is out. h.full (sym e.gap ∙ none) f w rows t is (λ m. out (same_state a.part.region b.part.region t e.region m));
  bounded = λ plain m is f w l. subst (λ k. k ≤ count about.cases m f l) (sym (same_count l a.part.region b.part.region e.region)) (h.bounded plain m is f w l);
}

-- a copy of a node that shows that every run ends shows it too
pub ends_same : (about : CaseSystem) (known : List Piece) (a b : Node) → SameNode a b → ShowsEnd about known a → ShowsEnd about known b
ends_same about known a b e h = record {
  fits = record {
    shape = node_shaped about ends a b e h.fits.shape;
    narrow = node_narrow a b e h.fits.narrow;
    depth = node_within 1 a b e h.fits.depth;
  };
  met = λ number. node_met number about ends a b e (h.met number);
  pieces = λ l w. subst (λ ps. IsPieceAt ps l (rows_at known l)) (sym (same_pieces a b e)) (h.pieces l w);
  single = λ l w. subst (λ ps. length (pieces_at ps l) ≡ 1) (sym (same_pieces a b e)) (h.single l w);
}

-- a copy of what was found of a statement is found of one that is equal
pub copy_same : (about : CaseSystem) (last : ℕ) (s t : Statement) (a b : Found) → s ≡ t → IsFound about last s a → SameFound a b → IsFound about last t b
copy_same about last s t a b e f h = subst (λ z. IsFound about last z b) e (found_same about last s a b h f)

-- and it has the known states as that one has them
pub copy_known : (about : CaseSystem) (last : ℕ) (alone : Bool) (s t : Statement) (a b : Found) → s ≡ t → HasKnownStates about last alone s a → SameFound a b → HasKnownStates about last alone t b
copy_known about last alone s t a b e h same =
    subst (λ z. HasKnownStates about last alone z b) e (record {
      states = λ tame f w rows.
          (let set = h.states tame f w rows in record {
            all = λ u is k. same_state a.part.region b.part.region u same.region (set.all u is k);
            only = λ so u is m. set.only so u is (state_same a.part.region b.part.region u same.region m);
          });
    })
