-- The pieces of atoms.
use Rattle.std.proofs.Common.{◌≡◌, ℕ, zero, suc, ◌+◌, ◌^◌, ◌<◌, ◌≤◌, List, [], ◌∷◌, ◌++◌, length, map, take, All, Some, slice_get, Bool, true, false, cond, not, ◌==◌, nat_eq, arith, refl, sym, ap, ◌∙◌, subst}
use Rattle.std.specs.List.{flat_map}
use Rattle.std.proofs.lemmas.Bool.Decides.{nat_tests}
use Rattle.std.proofs.lemmas.List.{append_assoc, append-nil, map-append, map_push}
use Rattle.std.proofs.lemmas.List.Elements.{All-push}
use Rattle.tv_formula.specs.Properties.{Property, truth, compare, at, term, negated, all_of, some_of, next, fix, none}
use Rattle.tv_linear.specs.Linear.{Linear, IsNarrow}
use Rattle.tv_linear.specs.declared.cover.CoverTree.{CoverTree}
use Rattle.tv_linear.specs.declared.region.Piece.{Piece}
use Rattle.tv_linear.specs.declared.region.Region.{Region}
use Rattle.tv_linear.proofs.ListLaws.{take_more}
use Rattle.tv_cases.specs.LinearCases.{CaseSystem}
use Rattle.tv_cert.specs.declared.node.Mark.TheVariants.{Go}
use Rattle.tv_cert.specs.declared.node.Marked.{Marked}
use Rattle.tv_cert.specs.declared.node.Node.{Node}
use Rattle.tv_cert.specs.declared.node.Proof.{Proof}
use Rattle.tv_cert.specs.declared.node.Proof.TheVariants.{Covered}
use Rattle.tv_cert.specs.Claims.{about_with}
use Rattle.tv_cert.specs.Obligations.{Obligation, truth_targets, atom_of}
use Rattle.tv_cert.specs.Pieces.{place_of, rows_of, pieces_at}
use Rattle.tv_cert.specs.Shapes.{IsSaid, may_be_done}
use Rattle.tv_cover.specs.Targets.{AreEven}
use Rattle.tv_region.specs.Regions.{IsPieceOf, lists_at}
use Rattle.tv_choice.specs.Leading.{piece_rows}
use Rattle.tv_pre.specs.Pieces.{ArePieces, marked_as}
use Rattle.tv_shape.specs.Made.{Offers}
use Rattle.tv_pre.specs.Atoms.{test_lists, IsTestOf, atom_piece, atom_pieces, IsOwnCover, AreAtoms, AreAllAtoms, atom_owes}
use Rattle.tv_pre.specs.declared.test.Test.{Test}
use Rattle.tv_pre.specs.declared.test.Test.TheVariants.{Rows, Here, Elsewhere}
use Rattle.tv_pre.specs.Making.{IsMade, plain_pieces}
use Rattle.tv_cert.specs.NodeViews.{pieces_list}
use Rattle.tv_cert.specs.Nodes.{parts, piece_of}
use Rattle.tv_pre.specs.Parts.{IsPart, AreParts}
use Rattle.tv_pre.proofs.ShapeLemmas.{flat_same}
use Rattle.tv_pre.proofs.AddLemmas.{adds_one, one_done}
use Rattle.tv_pre.proofs.LineLemmas.{own_offered}
use Rattle.tv_pre.proofs.NodeLemmas.{states, part_made}
use Rattle.tv_pre.proofs.OfferLemmas.{lists_marked}
use Rattle.tv_pre.proofs.PieceLemmas.{are_marked}
use Rattle.tv_cert.proofs.JoinedLemmas.{pieces_at-append}
use Rattle.std.proofs.lemmas.Grind.{flat_map-append}
use Rattle.std.proofs.lemmas.Bool.{eq-eqb, ne_eqb}

-- ---- one more piece
pub one_atom : (about : CaseSystem) (l k count : ℕ) (lists : List (List Linear)) (rows : List Linear) (q : Piece) (tree : CoverTree) (pieces now new : List Piece) (proofs offered more : List Proof) →
    l < about.locations → k < 2 ^ 32 → slice_get lists k ≡ Some rows → AreEven about.variables rows → All IsNarrow rows →
    q.location ≡ l → q.poly.columns ≡ about.variables → piece_rows q ≡ rows → count ≡ length rows → IsOwnCover count k tree →
    new ≡ now ++ q ∷ [] → more ≡ offered ++ Covered tree ∷ [] →
    AreAtoms about l lists (take k lists) pieces proofs now offered → AreAtoms about l lists (take (k + 1) lists) pieces proofs new more
one_atom about l k count lists rows q tree pieces now new proofs offered more inside bounded got even narrow place wide same many own e f h = record {
  over = subst (ArePieces about) (sym e) (All-push (IsPieceOf about.variables about.locations) now q h.over (record {
    place = subst (λ z. z < about.locations) (sym place) inside;
    width = wide;
    even = subst (AreEven about.variables) (sym same) even;
  }));
  marked =
      ap (map mark) e ∙ map_push mark now q
      ∙ (λ i. h.marked i ++ one i ∷ [])
      ∙ append_assoc (map mark pieces) (map piece (take k lists)) (piece rows ∷ [])
      ∙ ap (λ ps. map mark pieces ++ ps) (sym (ap (map piece) taken ∙ map_push piece (take k lists) rows));
  adds = λ number. one_done (λ rs. atom_of number (about_with about) (piece rs) lists) lists k rows proofs offered more got
      (adds_one (atom_of number (about_with about) (piece rows) lists) (Covered tree) offered more f (own_offered about number l k count rows lists tree got many bounded narrow own)) (h.adds number);
}
  where
    mark : Piece → Marked
    mark = marked_as about.variables Go []

    piece : List Linear → Marked
    piece = atom_piece about.variables l

    taken : take (k + 1) lists ≡ take k lists ++ rows ∷ []
    taken = take_more lists k rows got

    one : marked_as about.variables Go [] q ≡ atom_piece about.variables l rows
    one = λ i. atom_piece' (place i) (same i)
      where
        atom_piece' : ℕ → List Linear → Marked
        atom_piece' z rs = atom_piece about.variables z rs

-- ---- the locations
pub one_location : (about : CaseSystem) (test : Test) (l : ℕ) (lists : List (List Linear)) (pieces new : List Piece) (proofs more : List Proof) → lists ≡ test_lists test l → AreAllAtoms about test l pieces proofs → AreAtoms about l lists lists pieces proofs new more → AreAllAtoms about test (l + 1) new more
one_location about test l lists pieces new proofs more same h g = subst (λ k. AreAllAtoms about test k new more) (let e : suc l ≡ l + 1 = omega arith in e) (record {
  over = g.over;
  marked = g.marked ∙ (λ i. h.marked i ++ map (atom_piece about.variables l) (same i));
  offers = λ number.
      subst (λ os. Offers os more) (sym (flat_map-append (owes number) (atom_pieces about.variables test l) (map (atom_piece about.variables l) (test_lists test l)) ∙ ap (λ os. flat_map (owes number) (atom_pieces about.variables test l) ++ os) (own number (test_lists test l))))
      (subst (λ ls. Offers (flat_map (owes number) (atom_pieces about.variables test l) ++ map (λ rs. atom_of number (about_with about) (atom_piece about.variables l rs) ls) ls) more) same (g.adds number (flat_map (owes number) (atom_pieces about.variables test l)) (h.offers number)));
})
  where
    owes : ℕ → Marked → List Obligation
    owes number = atom_owes about test number

    own : (number : ℕ) (ls : List (List Linear)) → flat_map (atom_owes about test number) (map (atom_piece about.variables l) ls) ≡ map (λ rs. atom_of number (about_with about) (atom_piece about.variables l rs) (test_lists test l)) ls
    own number [] = refl
    own number (rs ∷ ls) = ap (λ os. atom_of number (about_with about) (atom_piece about.variables l rs) (test_lists test l) ∷ os) (own number ls)

-- ---- the formula
equal_tests : (l k m : ℕ) → l ≡ k → (m == k) ≡ (m == l)
equal_tests l k m e = ap (λ z. m == z) (sym e)

test_owes : (about : CaseSystem) (test : Test) (f : Property) (number : ℕ) (ps : List Marked) (kids : List (List Marked)) (p : Marked) → IsTestOf about.variables test f → atom_owes about test number p ≡ piece_of number (about_with about) f ps kids p
test_owes about (Rows lists) (truth b) number ps kids p h = λ i. atom_of number (about_with about) p (h i) ∷ []
test_owes about (Rows lists) (compare r a b) number ps kids p h = λ i. atom_of number (about_with about) p (h i) ∷ []
test_owes about (Rows lists) (at l) number ps kids p h = absurd h
test_owes about (Rows lists) term number ps kids p h = absurd h
test_owes about (Rows lists) (negated f) number ps kids p h = absurd h
test_owes about (Rows lists) (all_of fs) number ps kids p h = absurd h
test_owes about (Rows lists) (some_of fs) number ps kids p h = absurd h
test_owes about (Rows lists) (next path f) number ps kids p h = absurd h
test_owes about (Rows lists) (fix path shape f g) number ps kids p h = absurd h
test_owes about (Here k) (truth b) number ps kids p h = absurd h
test_owes about (Here k) (compare r a b) number ps kids p h = absurd h
test_owes about (Here k) (at l) number ps kids p h = λ i. atom_of number (about_with about) p (truth_targets (equal_tests l k (place_of p) h i)) ∷ []
test_owes about (Here k) term number ps kids p h = absurd h
test_owes about (Here k) (negated f) number ps kids p h = absurd h
test_owes about (Here k) (all_of fs) number ps kids p h = absurd h
test_owes about (Here k) (some_of fs) number ps kids p h = absurd h
test_owes about (Here k) (next path f) number ps kids p h = absurd h
test_owes about (Here k) (fix path shape f g) number ps kids p h = absurd h
test_owes about (Elsewhere k) (truth b) number ps kids p h = absurd h
test_owes about (Elsewhere k) (compare r a b) number ps kids p h = absurd h
test_owes about (Elsewhere k) (at l) number ps kids p h = absurd h
test_owes about (Elsewhere k) term number ps kids p h = absurd h
test_owes about (Elsewhere k) (negated (truth b)) number ps kids p h = absurd h
test_owes about (Elsewhere k) (negated (compare r a b)) number ps kids p h = absurd h
test_owes about (Elsewhere k) (negated (at l)) number ps kids p h = λ i. atom_of number (about_with about) p (truth_targets (not (equal_tests l k (place_of p) h i))) ∷ []
test_owes about (Elsewhere k) (negated term) number ps kids p h = absurd h
test_owes about (Elsewhere k) (negated (negated f)) number ps kids p h = absurd h
test_owes about (Elsewhere k) (negated (all_of fs)) number ps kids p h = absurd h
test_owes about (Elsewhere k) (negated (some_of fs)) number ps kids p h = absurd h
test_owes about (Elsewhere k) (negated (next path f)) number ps kids p h = absurd h
test_owes about (Elsewhere k) (negated (fix path shape f g)) number ps kids p h = absurd h
test_owes about (Elsewhere k) (all_of fs) number ps kids p h = absurd h
test_owes about (Elsewhere k) (some_of fs) number ps kids p h = absurd h
test_owes about (Elsewhere k) (next path f) number ps kids p h = absurd h
test_owes about (Elsewhere k) (fix path shape f g) number ps kids p h = absurd h

test_head : (about : CaseSystem) (test : Test) (f : Property) → IsTestOf about.variables test f → IsSaid (states about f) × (parts f ≡ none)
test_head about test (truth b) h = (tt, refl)
test_head about test (compare r a b) h = (tt, refl)
test_head about test (at l) h = (tt, refl)
test_head about test term h = (tt, refl)
test_head about test (negated (at l)) h = (tt, refl)
test_head about test (negated term) h = (tt, refl)
test_head about (Rows lists) (negated (truth b)) h = absurd h
test_head about (Here k) (negated (truth b)) h = absurd h
test_head about (Elsewhere k) (negated (truth b)) h = absurd h
test_head about (Rows lists) (negated (compare r a b)) h = absurd h
test_head about (Here k) (negated (compare r a b)) h = absurd h
test_head about (Elsewhere k) (negated (compare r a b)) h = absurd h
test_head about (Rows lists) (negated (negated f)) h = absurd h
test_head about (Here k) (negated (negated f)) h = absurd h
test_head about (Elsewhere k) (negated (negated f)) h = absurd h
test_head about (Rows lists) (negated (all_of fs)) h = absurd h
test_head about (Here k) (negated (all_of fs)) h = absurd h
test_head about (Elsewhere k) (negated (all_of fs)) h = absurd h
test_head about (Rows lists) (negated (some_of fs)) h = absurd h
test_head about (Here k) (negated (some_of fs)) h = absurd h
test_head about (Elsewhere k) (negated (some_of fs)) h = absurd h
test_head about (Rows lists) (negated (next path f)) h = absurd h
test_head about (Here k) (negated (next path f)) h = absurd h
test_head about (Elsewhere k) (negated (next path f)) h = absurd h
test_head about (Rows lists) (negated (fix path shape f g)) h = absurd h
test_head about (Here k) (negated (fix path shape f g)) h = absurd h
test_head about (Elsewhere k) (negated (fix path shape f g)) h = absurd h
test_head about (Rows lists) (all_of fs) h = absurd h
test_head about (Here k) (all_of fs) h = absurd h
test_head about (Elsewhere k) (all_of fs) h = absurd h
test_head about (Rows lists) (some_of fs) h = absurd h
test_head about (Here k) (some_of fs) h = absurd h
test_head about (Elsewhere k) (some_of fs) h = absurd h
test_head about (Rows lists) (next path f) h = absurd h
test_head about (Here k) (next path f) h = absurd h
test_head about (Elsewhere k) (next path f) h = absurd h
test_head about (Rows lists) (fix path shape f g) h = absurd h
test_head about (Here k) (fix path shape f g) h = absurd h
test_head about (Elsewhere k) (fix path shape f g) h = absurd h

pub atom_part : (about : CaseSystem) (test : Test) (f : Property) (region : Region) (node : Node) (children : List Node) (proofs : List Proof) → IsTestOf about.variables test f → children ≡ [] → AreAllAtoms about test about.locations region.pieces.items proofs → ((ends : Bool) → IsMade about region ends 0 (plain_pieces about.variables region) children proofs node) → IsPart about f region node
atom_part about test f region node children proofs h empty all made =
    part_made about f region node 0 plain [] children proofs (made (may_be_done (states about f))) (test_head about test f h).0 (λ e. refl)
    (subst (λ cs. AreParts about (parts f) [] cs) (sym empty) (subst (λ fs. AreParts about fs [] []) (sym (test_head about test f h).1) tt))
    (λ number.
    subst (λ os. Offers os proofs) (flat_same (atom_owes about test number) (piece_of number (about_with about) f plain (map pieces_list children)) (λ p. test_owes about test f number plain (map pieces_list children) p h) plain)
    (subst (λ ps. Offers (flat_map (atom_owes about test number) ps) proofs) (sym all.marked) (all.offers number)))
  where
    plain : List Marked
    plain = plain_pieces about.variables region

-- ---- the lists at a location
cond_none : {A : Type 0} (b : Bool) (x : A) (xs : List A) → b ≡ false → cond b (x ∷ xs) xs ≡ xs
cond_none true x xs e = absurd (let no : ⊥ = cc in no)
cond_none false x xs e = refl

cond_here : {A : Type 0} (b : Bool) (x : A) (xs : List A) → b ≡ true → cond b (x ∷ xs) xs ≡ x ∷ xs
cond_here true x xs e = refl
cond_here false x xs e = absurd (let no : ⊥ = cc in no)

abbrev lists_there : List Marked → ℕ → List (List Linear)
lists_there ps l = map rows_of (pieces_at ps l)

here_lists : (n k l : ℕ) (ls : List (List Linear)) → k ≡ l → lists_there (map (atom_piece n k) ls) l ≡ ls
here_lists n k l [] e = refl
here_lists n k l (rs ∷ ls) e = ap (map rows_of) (cond_here (k == l) (atom_piece n k rs) (pieces_at (map (atom_piece n k) ls) l) (eq-eqb k l e)) ∙ ap (λ zs. rs ∷ zs) (here_lists n k l ls e)

other_lists : (n k l : ℕ) (ls : List (List Linear)) → (k ≡ l → ⊥) → pieces_at (map (atom_piece n k) ls) l ≡ []
other_lists n k l [] e = refl
other_lists n k l (rs ∷ ls) e = cond_none (k == l) (atom_piece n k rs) (pieces_at (map (atom_piece n k) ls) l) (ne_eqb k l e) ∙ other_lists n k l ls e

none_past : (n : ℕ) (test : Test) (k l : ℕ) → k ≤ l → pieces_at (atom_pieces n test k) l ≡ []
none_past n test zero l h = refl
none_past n test (suc k) l h =
    pieces_at-append (atom_pieces n test k) (map (atom_piece n k) (test_lists test k)) l
    ∙ (λ i. none_past n test k l (omega (arith, h)) i ++ other_lists n k l (test_lists test k) (λ e. omega (arith, h, e)) i)

atoms_at : (n : ℕ) (test : Test) (k l : ℕ) → l < k → lists_there (atom_pieces n test k) l ≡ test_lists test l
atoms_at n test zero l h = absurd (omega (arith, h))
atoms_at n test (suc k) l h =
    ap (map rows_of) (pieces_at-append (atom_pieces n test k) (map (atom_piece n k) (test_lists test k)) l)
    ∙ map-append rows_of (pieces_at (atom_pieces n test k) l) (pieces_at (map (atom_piece n k) (test_lists test k)) l)
    ∙ by_place n test k l h (nat_eq k l) refl (λ d. atoms_at n test k l d)
  where
    by_place : (n : ℕ) (test : Test) (k l : ℕ) → l < suc k → (b : Bool) → nat_eq k l ≡ b → (l < k → lists_there (atom_pieces n test k) l ≡ test_lists test l) → lists_there (atom_pieces n test k) l ++ lists_there (map (atom_piece n k) (test_lists test k)) l ≡ test_lists test l
    by_place n test k l h true e rest = (let is : k ≡ l = grind (arith, nat_tests, e) in
        (λ i. map rows_of (none_past n test k l (omega (arith, is)) i) ++ here_lists n k l (test_lists test k) is i) ∙ ap (test_lists test) is)
    by_place n test k l h false e rest = (let not_is : k ≡ l → ⊥ = λ is. differs (eq-eqb k l is) e in
        (λ i. rest (below k l h not_is) i ++ map rows_of (other_lists n k l (test_lists test k) not_is i)) ∙ append-nil (test_lists test l))
      where
        differs : (k == l) ≡ true → nat_eq k l ≡ false → ⊥
        differs a b = grind (arith, nat_tests, a, b)

        below : (k l : ℕ) → l < suc k → (k ≡ l → ⊥) → l < k
        below k l h not_is = omega (arith, h, not_is)

pub atom_lists : (about : CaseSystem) (test : Test) (pieces : List Piece) (proofs : List Proof) (l : ℕ) → AreAllAtoms about test about.locations pieces proofs → l < about.locations → lists_at l pieces ≡ test_lists test l
atom_lists about test pieces proofs l all inside =
    sym (lists_marked l (map (marked_as about.variables Go []) pieces) pieces (are_marked about.variables Go [] pieces))
    ∙ ap (λ ps. lists_there ps l) all.marked ∙ atoms_at about.variables test about.locations l inside
