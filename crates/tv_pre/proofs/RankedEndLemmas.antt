-- The node of a ranking as a part.
use Rattle.std.proofs.Common.{◌≡◌, ℕ, suc, ◌+◌, ◌<◌, ◌≤◌, List, [], ◌∷◌, ◌++◌, length, map, get_or, take, All, Some, slice_get, Bool, true, false, cond, ◌==◌, arith, sym, ap, ◌∙◌, subst}
use Rattle.std.proofs.Math.Seq.{take-suc}
use Rattle.std.proofs.lemmas.List.Elements.{All-nil, All-cons, All-head, All-tail, All-push}
use Rattle.tv_formula.specs.Properties.{term, none}
use Rattle.tv_linear.specs.Linear.{columns}
use Rattle.tv_linear.specs.declared.region.Piece.{Piece}
use Rattle.tv_linear.specs.declared.region.Region.{Region}
use Rattle.tv_cases.specs.LinearCases.{CaseSystem}
use Rattle.tv_cert.specs.declared.node.Marked.{Marked}
use Rattle.tv_cert.specs.declared.node.Node.{Node, Node', Row_of-Node, end_of-Node, more_of-Node}
use Rattle.tv_cert.specs.Claims.{about_with}
use Rattle.tv_cert.specs.NodeViews.{pieces_list}
use Rattle.tv_cert.specs.Nodes.{pieces_of}
use Rattle.tv_cert.specs.Obligations.{About}
use Rattle.tv_cert.specs.Pieces.{place_of, rows_of, pieces_at}
use Rattle.tv_cert.specs.Shapes.{HasShape, HaveShapes}
use Rattle.tv_cert.proofs.NodeLemmas.{pieces_are}
use Rattle.tv_shape.specs.Fitting.{GoesWithin, KidsGoWithin}
use Rattle.tv_shape.proofs.MadeLemmas.{shapes_shallow}
use Rattle.tv_region.specs.Regions.{IsPieceOf, IsRegion}
use Rattle.tv_lexrank.specs.Nodes.{IsPieceAt, IsRankedNode}
use Rattle.tv_pre.specs.Growing.{IsEverywhere}
use Rattle.tv_pre.specs.Parts.{IsPart}
use Rattle.tv_pre.specs.Pieces.{ArePieces, IsMarked, AreMarked}
use Rattle.tv_pre.specs.Ranked.{EachOf}
use Rattle.tv_pre.proofs.ComingLemmas.{everywhere_is, first_bare}
use Rattle.tv_pre.proofs.OfferLemmas.{lists_marked}
use Rattle.tv_pre.proofs.PieceLemmas.{marked_append}
use Rattle.tv_linear.proofs.ListLaws.{take_past}
use Rattle.tv_cases.proofs.Updated.{same_number}

-- ---- the pieces of the node
-- its pieces are at locations of the program
shaped_places : (about : CaseSystem) (node : Node) → HasShape (about_with about) term node → All (λ p. place_of p < about.locations) (pieces_of node)
shaped_places about (Node' ps m shape kids proofs) h k d l = (h.0.each k d l).place

abbrev IsBareList : List Marked → Type 0
IsBareList ps = EachOf (λ p. rows_of p ≡ []) ps

one_bare : (ps : List Marked) (q : Marked) → length ps ≡ 1 → slice_get ps 0 ≡ Some q → rows_of q ≡ [] → map rows_of ps ≡ [] ∷ []
one_bare [] q l e b = absurd (omega (arith, l))
one_bare (p ∷ r ∷ ps) q l e b = absurd (omega (arith, l))
one_bare (p ∷ []) q l e b = ap (λ rows. rows ∷ []) (ap rows_of (got e) ∙ b)
  where
    got : Some p ≡ Some q → p ≡ q
    got e = cc

bare_there : (ps : List Marked) → map rows_of ps ≡ [] ∷ [] → IsBareList ps
bare_there [] e = tt
bare_there (p ∷ r ∷ ps) e = absurd (let l = ap length e in omega (arith, l))
bare_there (p ∷ []) e = (first_bare p e, tt)

pub single_bare : (about : CaseSystem) (node : Node) → IsRankedNode about node → (l : ℕ) → l < about.locations → map rows_of (pieces_at (pieces_of node) l) ≡ [] ∷ []
single_bare about node h l d =
    let p : IsPieceAt (pieces_of node) l [] = h.pieces l d in
    one_bare (pieces_at (pieces_of node) l) p.piece (h.single l d) p.first p.has

first_kept : (b : Bool) (p : Marked) (ps : List Marked) → b ≡ true → IsBareList (cond b (p ∷ ps) ps) → rows_of p ≡ []
first_kept true p ps e h = h.0
first_kept false p ps e h = absurd (let no : ⊥ = cc in no)

rest_kept : (b : Bool) (p : Marked) (ps : List Marked) → IsBareList (cond b (p ∷ ps) ps) → IsBareList ps
rest_kept true p ps h = h.1
rest_kept false p ps h = h

each_bare : (m : ℕ) (ps : List Marked) → All (λ p. place_of p < m) ps → ((l : ℕ) → l < m → IsBareList (pieces_at ps l)) → All (λ p. rows_of p ≡ []) ps
each_bare m [] places h = All-nil (λ p. rows_of p ≡ [])
each_bare m (p ∷ ps) places h =
    let at = All-head (λ q. place_of q < m) p ps places in
    All-cons (λ q. rows_of q ≡ []) p ps (first_kept (place_of p == place_of p) p (pieces_at ps (place_of p)) (same_number (place_of p)) (h (place_of p) at))
    (each_bare m ps (All-tail (λ q. place_of q < m) p ps places) (λ l d. rest_kept (place_of p == l) p (pieces_at ps l) (h l d)))

pub ranked_bare : (about : CaseSystem) (node : Node) → IsRankedNode about node → All (λ p. rows_of p ≡ []) (pieces_list node)
ranked_bare about node h =
    subst (All (λ p. rows_of p ≡ [])) (pieces_are node)
    (each_bare about.locations (pieces_of node) (shaped_places about node h.fits.shape) (λ l d. bare_there (pieces_at (pieces_of node) l) (single_bare about node h l d)))

-- ---- pieces without rows
pub marked_more : (ps : List Marked) (i : ℕ) (p : Marked) (old new : List Piece) (q : Piece) → i < length ps → p ≡ get_or ps i p → new ≡ old ++ q ∷ [] → IsMarked p q → AreMarked (take i ps) old → AreMarked (take (i + 1) ps) new
marked_more ps i p old new q l e same m h =
    let more : take (i + 1) ps ≡ take i ps ++ p ∷ [] =
    ap (λ k. take k ps) (let g : i + 1 ≡ suc i = omega arith in g) ∙ take-suc ps i p l ∙ ap (λ x. take i ps ++ x ∷ []) (sym e)
    in
    subst (AreMarked (take (i + 1) ps)) (sym same) (subst (λ xs. AreMarked xs (old ++ q ∷ [])) (sym more) (marked_append (take i ps) (p ∷ []) old (q ∷ []) h (m, tt)))

pub marked_none : (ps : List Marked) (qs : List Piece) → qs ≡ [] → AreMarked (take 0 ps) qs
marked_none [] qs e = subst (AreMarked []) (sym e) tt
marked_none (p ∷ ps) qs e = subst (AreMarked []) (sym e) tt

pub marked_whole : (ps : List Marked) (i : ℕ) (qs : List Piece) → length ps ≤ i → AreMarked (take i ps) qs → AreMarked ps qs
marked_whole ps i qs l h = subst (λ xs. AreMarked xs qs) (take_past ps i l) h

pub over_more : (about : CaseSystem) (old new : List Piece) (q : Piece) → new ≡ old ++ q ∷ [] → q.location < about.locations → q.poly.columns ≡ about.variables → q.poly.rows.items ≡ [] → ArePieces about old → ArePieces about new
over_more about old new q same place wide bare h =
    subst (ArePieces about) (sym same) (All-push (IsPieceOf about.variables about.locations) old q h (record {
      place = place;
      width = wide;
      even = subst (All (λ r. columns r ≡ about.variables)) (sym bare) (All-nil (λ r. columns r ≡ about.variables));
    }))

-- ---- the part
no_kids_within : {k : _} (about : About) (depth : ℕ) (kids : Row_of-Node k) → HaveShapes about none kids → KidsGoWithin depth kids
no_kids_within about depth end_of-Node h = tt
no_kids_within about depth (more_of-Node a kids) h = absurd h

term_within : (about : CaseSystem) (node : Node) (depth : ℕ) → HasShape (about_with about) term node → depth ≤ 256 → GoesWithin depth node
term_within about (Node' ps m shape kids proofs) depth h d = (
  omega (arith, d),
  shapes_shallow depth _ proofs.items d h.0.offered,
  no_kids_within (about_with about) (depth + 1) kids h.1,
)

pub ranked_part : (about : CaseSystem) (node : Node) (region : Region) → IsRankedNode about node → AreMarked (pieces_list node) region.pieces.items → IsPart about term region node
ranked_part about node region h same = record {
  shows = record {
    shape = h.fits.shape;
    narrow = h.fits.narrow;
    within = λ depth d. term_within about node depth h.fits.shape (omega (arith, d));
    met = h.met;
  };
  pieces = subst (λ ps. AreMarked ps region.pieces.items) (sym (pieces_are node)) same;
}

pub ranked_everywhere : (about : CaseSystem) (node : Node) (region : Region) → IsRankedNode about node → IsRegion about.variables about.locations region → AreMarked (pieces_list node) region.pieces.items → IsEverywhere about region
ranked_everywhere about node region h over same =
    let ps = pieces_of node in
    let are : AreMarked ps region.pieces.items = subst (λ ps. AreMarked ps region.pieces.items) (sym (pieces_are node)) same in
    everywhere_is about region over (λ l d. sym (lists_marked l ps region.pieces.items are) ∙ single_bare about node h l d)
