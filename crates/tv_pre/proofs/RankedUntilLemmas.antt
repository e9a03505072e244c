-- Nodes of fixpoints with the ranks of another node.
use Rattle.std.proofs.Common.{◌≡◌, ℕ, ◌<◌, List, [], ◌∷◌, ◌++◌, map, length, All, Some, slice_get, Bool, true, false, cond, if◌then◌else◌, ◌==◌, refl, sym, ap, ◌∙◌, subst}
use Rattle.std.specs.List.{AllZip}
use Rattle.std.proofs.lemmas.List.Elements.{All-nil, All-cons, All-head, All-tail}
use Rattle.tv_linear.specs.Linear.{Linear, columns}
use Rattle.tv_linear.specs.declared.region.Piece.{Piece}
use Rattle.tv_formula.specs.Properties.{term}
use Rattle.tv_cases.specs.LinearCases.{CaseSystem}
use Rattle.tv_cert.specs.declared.node.Marked.{Marked}
use Rattle.tv_cert.specs.declared.node.Node.{Node, Node', out-Node, outs-Node'}
use Rattle.tv_cert.specs.Claims.{about_with}
use Rattle.tv_cert.specs.Nodes.{pieces_of}
use Rattle.tv_cert.specs.Pieces.{place_of, ranks_of, goes, pieces_at}
use Rattle.tv_cert.specs.Shapes.{PieceShape, HasShape}
use Rattle.tv_region.specs.Regions.{IsPieceOf}
use Rattle.tv_lexrank.specs.Nodes.{IsRankedNode}
use Rattle.tv_lexrank.specs.Shown.{first_ranks, ranks_there}
use Rattle.tv_pre.specs.Lowering.{IsRankedAs, IsPlaced}
use Rattle.tv_pre.specs.Pieces.{IsMarked, AreMarked, ArePieces}
use Rattle.tv_pre.specs.Ranked.{EachOf}
use Rattle.tv_pre.specs.RankedUntil.{ranked_as}
use Rattle.tv_pre.proofs.FixedLemmas.{EachGoes}

-- ---- the ranks of the first piece at a location
pub first_found : (ps : List Marked) (q : Marked) → slice_get ps 0 ≡ Some q → ranks_of q ≡ first_ranks ps
first_found [] q e = absurd (let no : ⊥ = cc in no)
first_found (p ∷ ps) q e = ap ranks_of (got e)
  where
    got : Some p ≡ Some q → q ≡ p
    got e = cc

-- ---- pieces with the ranks of a node
pub ranked_marked : (n : ℕ) (ranked : List Marked) (qs : List Piece) → AreMarked (map (ranked_as n ranked) qs) qs
ranked_marked n ranked [] = tt
ranked_marked n ranked (q ∷ qs) = ((refl, refl), ranked_marked n ranked qs)

pub ranked_each : (n : ℕ) (ranked : List Marked) (qs : List Piece) → EachOf (IsRankedAs ranked) (map (ranked_as n ranked) qs)
ranked_each n ranked [] = tt
ranked_each n ranked (q ∷ qs) = ((refl, refl), ranked_each n ranked qs)

pub ranked_goes : (n : ℕ) (ranked : List Marked) (qs : List Piece) → EachGoes true (map (ranked_as n ranked) qs)
ranked_goes n ranked [] = tt
ranked_goes n ranked (q ∷ qs) = (refl, ranked_goes n ranked qs)

pub zip_ranked : (ranked : List Marked) (R : Marked → Piece → Type 0) → ((p : Marked) (q : Piece) → IsMarked p q → IsRankedAs ranked p → R p q) → (ps : List Marked) (qs : List Piece) → AreMarked ps qs → EachOf (IsRankedAs ranked) ps → AllZip R ps qs
zip_ranked ranked R h [] [] z e = tt
zip_ranked ranked R h [] (q ∷ qs) z e = absurd z
zip_ranked ranked R h (p ∷ ps) [] z e = absurd z
zip_ranked ranked R h (p ∷ ps) (q ∷ qs) z e = (h p q z.0 e.0, zip_ranked ranked R h ps qs z.1 e.1)

-- ---- their shape
-- there are m ranks, over the variables
pub record AreRanks (about : CaseSystem) (m : ℕ) (ranks : List Linear) : Type 0 where
  pub even : All (λ r. columns r ≡ about.variables) ranks
  pub many : length ranks ≡ m

go_ranks : (about : CaseSystem) (m : ℕ) (p : Marked) → PieceShape about m false p → AreRanks about m (ranks_of p)
go_ranks about m p h = record { even = h.ranks; many = h.many ∙ ap (λ b. if b then m else 0) (h.marks refl) }

kept_ranks : (about : CaseSystem) (m : ℕ) (b : Bool) (p q : Marked) (ps : List Marked) → PieceShape about m false p → (slice_get ps 0 ≡ Some q → AreRanks about m (ranks_of q)) → slice_get (cond b (p ∷ ps) ps) 0 ≡ Some q → AreRanks about m (ranks_of q)
kept_ranks about m true p q ps h rest e = subst (λ x. AreRanks about m (ranks_of x)) (got e) (go_ranks about m p h)
  where
    got : Some p ≡ Some q → p ≡ q
    got e = cc
kept_ranks about m false p q ps h rest e = rest e

found_ranks : (about : CaseSystem) (m l : ℕ) (ps : List Marked) (q : Marked) → All (PieceShape about m false) ps → slice_get (pieces_at ps l) 0 ≡ Some q → AreRanks about m (ranks_of q)
found_ranks about m l [] q h e = absurd (let no : ⊥ = cc in no)
found_ranks about m l (p ∷ ps) q h e =
    kept_ranks about m (place_of p == l) p q (pieces_at ps l) (All-head (PieceShape about m false) p ps h) (found_ranks about m l ps q (All-tail (PieceShape about m false) p ps h)) e

shaped_ranks : (about : CaseSystem) (l : ℕ) (node : Node) (q : Marked) → HasShape (about_with about) term node → slice_get (pieces_at (pieces_of node) l) 0 ≡ Some q → AreRanks about (out-Node node).ranks (ranks_of q)
shaped_ranks about l (Node' ps m shape kids proofs) q h e =
    subst (λ k. AreRanks about k (ranks_of q)) (sym (ap (λ x. x.ranks) (outs-Node' ps m shape kids proofs))) (found_ranks about m l ps q h.0.each e)

pub node_ranks : (about : CaseSystem) (node : Node) → IsRankedNode about node → (l : ℕ) → l < about.locations → AreRanks about (out-Node node).ranks (ranks_there (pieces_of node) l)
node_ranks about node h l d =
    let p = h.pieces l d in
    subst (AreRanks about (out-Node node).ranks) (first_found (pieces_at (pieces_of node) l) p.piece p.first) (shaped_ranks about l node p.piece h.fits.shape p.first)

pub ranked_shape : (about : CaseSystem) (node : Node) → IsRankedNode about node → (qs : List Piece) → ArePieces about qs → All (PieceShape about (out-Node node).ranks true) (map (ranked_as about.variables (pieces_of node)) qs)
ranked_shape about node h [] over = All-nil (PieceShape about (out-Node node).ranks true)
ranked_shape about node h (q ∷ qs) over =
    let p = All-head (IsPieceOf about.variables about.locations) q qs over in
    let ranks = node_ranks about node h q.location p.place in
    All-cons (PieceShape about (out-Node node).ranks true) (ranked_as about.variables (pieces_of node) q) (map (ranked_as about.variables (pieces_of node)) qs)
    (record { place = p.place; poly = refl; rows = p.even; ranks = ranks.even; many = ranks.many; marks = λ e. refl })
    (ranked_shape about node h qs (All-tail (IsPieceOf about.variables about.locations) q qs over))

-- ---- a piece of the node
pub placed : (ranked : List Marked) (ps qs : List Marked) (done onward own : List Piece) (p : Marked) (q : Piece) → AreMarked (ps ++ qs) own → AreMarked ps done → EachOf (λ p. goes p ≡ false) ps → EachOf (IsRankedAs ranked) qs → IsMarked p q → IsRankedAs ranked p →
    IsPlaced ranked q done own p (ps ++ qs)
placed ranked ps qs done onward own p q same dones gone go m h = record {
  dones = ps;
  onward = qs;
  parts = refl;
  marked = m;
  ranks = h.1 ∙ ap (ranks_there ranked) m.0;
  done_with = gone;
  go_on = go;
  done_are = dones;
  all_are = same;
}
