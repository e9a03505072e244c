-- A node whose own obligations are offered proofs, over parts, is a part.
use Rattle.std.proofs.Common.{◌≡◌, ◌⊎◌, inl, inr, ℕ, ◌+◌, ◌≤◌, List, [], ◌∷◌, length, map, All, false, arith, refl, sym, ap, ◌∙◌, subst}
use Rattle.tv_formula.specs.Limits.{operators, most_operators}
use Rattle.tv_formula.specs.Properties.{Property, truth, compare, at, term, negated, all_of, some_of, next, fix, Properties, none, more}
use Rattle.tv_linear.specs.declared.region.Region.{Region}
use Rattle.tv_cases.specs.LinearCases.{CaseSystem}
use Rattle.tv_cert.specs.declared.node.Marked.{Marked}
use Rattle.tv_cert.specs.declared.node.Proof.{Proof}
use Rattle.tv_cert.specs.declared.node.Node.{Node, Node', Row_of-Node, end_of-Node, more_of-Node, items-the_row-Node, outs-Node'}
use Rattle.tv_cert.specs.Claims.{about_with}
use Rattle.tv_cert.specs.NodeViews.{pieces_list}
use Rattle.tv_cert.specs.Nodes.{parts, kid_pieces, kid_entries, size, own_of}
use Rattle.tv_cert.specs.Obligations.{AllMet, paired}
use Rattle.tv_cert.specs.Statements.{Statement, stated}
use Rattle.tv_cert.specs.Shapes.{OwnShape, KidsShape, HaveShapes, IsSaid, may_rank, may_be_done}
use Rattle.tv_cert.proofs.StatedLemmas.{parts-stated, entries_are}
use Rattle.tv_cert.proofs.NodeLemmas.{out_is, pieces_are, kid_pieces_are}
use Rattle.tv_shape.specs.Depths.{proof_splits}
use Rattle.tv_shape.specs.Fitting.{KidsNarrow, KidsGoWithin}
use Rattle.tv_shape.specs.Narrow.{PieceNarrow, ProofNarrow}
use Rattle.tv_shape.proofs.MadeLemmas.{all_met, all_shaped, all_narrow, all_shallow}
use Rattle.tv_shape.specs.Made.{Offers}
use Rattle.tv_pre.specs.Pieces.{AreMarked}
use Rattle.tv_pre.specs.Parts.{IsPart, AreParts}
use Rattle.tv_pre.specs.Around.{AreKids}
use Rattle.tv_pre.specs.Making.{IsMade}
use Rattle.tv_cert.proofs.FailingLemmas.{all_join}
use Rattle.std.proofs.Math.Nat.{le-max_left, le-max_right}

-- ---- children

kids_shape : {k : _} (about : CaseSystem) (fs : Properties) (regions : List Region) (row : Row_of-Node k) → AreParts about fs regions (items-the_row-Node k row) → HaveShapes (about_with about) fs row
kids_shape about none [] end_of-Node h = tt
kids_shape about none [] (more_of-Node a row) h = absurd h
kids_shape about none (r ∷ regions) row h = absurd h
kids_shape about (more f fs) [] row h = absurd h
kids_shape about (more f fs) (r ∷ regions) end_of-Node h = absurd h
kids_shape about (more f fs) (r ∷ regions) (more_of-Node a row) h = (h.0.shows.shape, kids_shape about fs regions row h.1)

kids_narrow : {k : _} (about : CaseSystem) (fs : Properties) (regions : List Region) (row : Row_of-Node k) → AreParts about fs regions (items-the_row-Node k row) → KidsNarrow row
kids_narrow about none [] end_of-Node h = tt
kids_narrow about none [] (more_of-Node a row) h = absurd h
kids_narrow about none (r ∷ regions) row h = absurd h
kids_narrow about (more f fs) [] row h = absurd h
kids_narrow about (more f fs) (r ∷ regions) end_of-Node h = absurd h
kids_narrow about (more f fs) (r ∷ regions) (more_of-Node a row) h = (h.0.shows.narrow, kids_narrow about fs regions row h.1)

kids_within : {k : _} (about : CaseSystem) (depth : ℕ) (fs : Properties) (regions : List Region) (row : Row_of-Node k) → depth + most_operators fs ≤ 256 → AreParts about fs regions (items-the_row-Node k row) → KidsGoWithin depth row
kids_within about depth none [] end_of-Node d h = tt
kids_within about depth none [] (more_of-Node a row) d h = absurd h
kids_within about depth none (r ∷ regions) row d h = absurd h
kids_within about depth (more f fs) [] row d h = absurd h
kids_within about depth (more f fs) (r ∷ regions) end_of-Node d h = absurd h
kids_within about depth (more f fs) (r ∷ regions) (more_of-Node a row) d h =
    let left = le-max_left (operators f) (most_operators fs) in
    let right = le-max_right (operators f) (most_operators fs) in
    (h.0.shows.within depth (omega (arith, left, d)), kids_within about depth fs regions row (omega (arith, right, d)) h.1)

kids_met : {k : _} (about : CaseSystem) (number : ℕ) (fs : Properties) (regions : List Region) (row : Row_of-Node k) → AreParts about fs regions (items-the_row-Node k row) → AllMet (kid_entries number (about_with about) fs row)
kids_met about number none [] end_of-Node h = tt
kids_met about number none [] (more_of-Node a row) h = absurd h
kids_met about number none (r ∷ regions) row h = absurd h
kids_met about number (more f fs) [] row h = absurd h
kids_met about number (more f fs) (r ∷ regions) end_of-Node h = absurd h
kids_met about number (more f fs) (r ∷ regions) (more_of-Node a row) h = all_join _ _ (h.0.shows.met number) (kids_met about (number + size a) fs regions row h.1)

no_kids_within : {k : _} (about : CaseSystem) (depth : ℕ) (fs : Properties) (regions : List Region) (row : Row_of-Node k) → fs ≡ none → AreParts about fs regions (items-the_row-Node k row) → KidsGoWithin depth row
no_kids_within about depth none [] end_of-Node e h = tt
no_kids_within about depth none [] (more_of-Node a row) e h = absurd h
no_kids_within about depth none (r ∷ regions) row e h = absurd h
no_kids_within about depth (more f fs) regions row e h = absurd cc

-- the pieces of children are those of their regions
pub are_kids : (about : CaseSystem) (fs : Properties) (regions : List Region) (nodes : List Node) → AreParts about fs regions nodes → AreKids (map pieces_list nodes) regions
are_kids about none [] [] h = tt
are_kids about none [] (a ∷ nodes) h = absurd h
are_kids about none (r ∷ regions) nodes h = absurd h
are_kids about (more f fs) [] nodes h = absurd h
are_kids about (more f fs) (r ∷ regions) [] h = absurd h
are_kids about (more f fs) (r ∷ regions) (a ∷ nodes) h = (subst (λ ps. AreMarked ps r.pieces.items) (pieces_are a) h.0.pieces, are_kids about fs regions nodes h.1)

deeper : (f : Property) → (parts f ≡ none) ⊎ (most_operators (parts f) + 1 ≤ operators f)
deeper (truth b) = inl refl
deeper (compare r a b) = inl refl
deeper (at l) = inl refl
deeper term = inl refl
deeper (negated f) = inl refl
deeper (all_of fs) = inr (omega arith)
deeper (some_of fs) = inr (omega arith)
deeper (next path f) = inr (omega arith)
deeper (fix path shape f g) = inr (omega arith)

-- ---- the node
-- what a node of the formula is to show
abbrev pub states : CaseSystem → Property → Statement
states about f = stated (about_with about).tests f

pub part_made : (about : CaseSystem) (f : Property) (region : Region) (node : Node) (m : ℕ) (pieces : List Marked) (regions : List Region) (kids : List Node) (proofs : List Proof) → IsMade about region (may_be_done (states about f)) m pieces kids proofs node → IsSaid (states about f) → (may_rank (states about f) ≡ false → m ≡ 0) → AreParts about (parts f) regions kids → ((number : ℕ) → Offers (own_of number (about_with about) f pieces (map pieces_list kids)) proofs) → IsPart about f region node
part_made about f region (Node' ps m' shape row list) m pieces regions kids proofs made said ranked below offers = record {
  shows = record {
    shape = (own_shape, subst (λ ss. KidsShape about ss row) (sym (parts-stated (about_with about) f)) (kids_shape about (parts f) regions row row_parts));
    narrow = (
      record {
        count = (let e = ap length pieces_same in let bounded = made.bounded in omega (arith, e, bounded));
        ranks = (let e = ranks_same in let small = made.small in omega (arith, e, small));
        pieces = subst (All PieceNarrow) (sym pieces_same) made.own.narrow;
        offered = subst (All ProofNarrow) (sym proofs_same) (all_narrow (own_of 0 (about_with about) f pieces (map pieces_list kids)) proofs (offers 0));
      },
      kids_narrow about (parts f) regions row row_parts,
    );
    within = λ depth d. (
      omega (arith, d),
      subst (All (λ p. depth + proof_splits p ≤ 384)) (sym proofs_same) (all_shallow depth (own_of 0 (about_with about) f pieces (map pieces_list kids)) proofs (omega (arith, d)) (offers 0)),
      kids_at depth d,
    );
    met = λ number. subst AllMet (sym (entries_are number (about_with about) f ps m' shape row list))
        (all_join _ _ (kids_met about (number + 1) (parts f) regions row row_parts) (subst AllMet (sym (own_are number)) (all_met (own_of number (about_with about) f pieces (map pieces_list kids)) proofs (offers number))));
  };
  pieces = subst (λ qs. AreMarked qs region.pieces.items) (sym pieces_same) made.are.same;
}
  where
    pieces_same : ps ≡ pieces
    pieces_same = sym (ap (λ x. x.pieces) (outs-Node' ps m' shape row list)) ∙ made.own.pieces_are

    ranks_same : m' ≡ m
    ranks_same = sym (ap (λ x. x.ranks) (outs-Node' ps m' shape row list)) ∙ made.own.ranks_are

    proofs_same : list.items ≡ proofs
    proofs_same = sym (ap (λ x. x.proofs.items) (outs-Node' ps m' shape row list)) ∙ made.own.proofs_are

    kids_same : items-the_row-Node _ row ≡ kids
    kids_same = sym (out_is ps m' shape row list) ∙ made.own.children_are

    row_parts : AreParts about (parts f) regions (items-the_row-Node _ row)
    row_parts = subst (AreParts about (parts f) regions) (sym kids_same) below

    lists_same : kid_pieces row ≡ map pieces_list kids
    lists_same = kid_pieces_are row ∙ ap (map pieces_list) kids_same

    own_are : (number : ℕ) → paired (own_of number (about_with about) f ps (kid_pieces row)) list.items ≡ paired (own_of number (about_with about) f pieces (map pieces_list kids)) proofs
    own_are number = (λ i. paired (own_of number (about_with about) f (pieces_same i) (lists_same i)) (proofs_same i))

    kids_at : (depth : ℕ) → depth + operators f ≤ 256 → KidsGoWithin (depth + 1) row
    kids_at depth d = elim (deeper f) [
      | inl e ↦ no_kids_within about (depth + 1) (parts f) regions row e row_parts
      | inr l ↦ kids_within about (depth + 1) (parts f) regions row (omega (arith, d, l)) row_parts
    ]

    plain : OwnShape about (states about f) m pieces (map pieces_list kids) proofs
    plain = record {
      said = said;
      ranked = ranked;
      small = made.small;
      each = made.are.shape;
      offered = all_shaped (own_of 0 (about_with about) f pieces (map pieces_list kids)) proofs (offers 0);
    }

    own_shape : OwnShape about (states about f) m' ps (kid_pieces row) list.items
    own_shape = subst (λ z. OwnShape about (states about f) z ps (kid_pieces row) list.items) (sym ranks_same)
        (subst (λ z. OwnShape about (states about f) m z (kid_pieces row) list.items) (sym pieces_same)
        (subst (λ z. OwnShape about (states about f) m pieces z list.items) (sym lists_same)
        (subst (λ z. OwnShape about (states about f) m pieces (map pieces_list kids) z) (sym proofs_same) plain)))
