-- Covers of a piece by those of a region as proofs of obligations.
use Rattle.std.proofs.Common.{◌≡◌, ℕ, zero, suc, ◌≤◌, List, [], ◌∷◌, ◌++◌, map, All, Option, None, Some, Bool, true, false, cond, slice_get, ◌==◌, refl, sym, ap, ◌∙◌, subst, ℤ}
use Rattle.std.specs.Option.{option_map}
use Rattle.std.proofs.lemmas.List.Elements.{All-contains}
use Rattle.tv_linear.specs.Linear.{Linear, columns, IsMet}
use Rattle.tv_linear.specs.Known.{Known, given, as_given}
use Rattle.tv_linear.specs.Covers.{IsMetCover}
use Rattle.tv_linear.specs.Depth.{splits}
use Rattle.tv_linear.specs.declared.cover.CoverTree.{CoverTree}
use Rattle.tv_linear.specs.declared.region.Piece.{Piece}
use Rattle.tv_linear.specs.Same.{AreSame, OwedSame}
use Rattle.tv_linear.proofs.SameLemmas.{same_self, all_same, cover_same}
use Rattle.tv_farkas.specs.Trees.{TreeRows}
use Rattle.tv_cases.specs.LinearCases.{CaseSystem}
use Rattle.tv_cert.specs.declared.node.Marked.{Marked}
use Rattle.tv_cert.specs.Pieces.{place_of, rows_of, pieces_at}
use Rattle.tv_cert.specs.Targets.{owed_into, target_rows, no_fall}
use Rattle.tv_cover.specs.Targets.{owed_lists, IsInTarget, IsOutside}
use Rattle.tv_cover.specs.Covering.{IsHole}
use Rattle.tv_region.specs.Regions.{lists_at}
use Rattle.tv_shape.specs.Narrow.{CoverNarrow}
use Rattle.tv_choice.specs.Leading.{piece_rows}
use Rattle.tv_lexrank.proofs.OfferLemmas.{met_shape}
use Rattle.tv_pre.specs.Pieces.{AreMarked}
use Rattle.tv_pre.specs.Offers.{ShowsInside}

-- ---- the pieces of a node that are those of a region
cond_lists : (a b : Bool) (p : Marked) (q : Piece) (ps : List Marked) (ls : List (List Linear)) → a ≡ b → rows_of p ≡ piece_rows q → map rows_of ps ≡ ls → map rows_of (cond a (p ∷ ps) ps) ≡ cond b (piece_rows q ∷ ls) ls
cond_lists true true p q ps ls e r h = λ i. r i ∷ h i
cond_lists true false p q ps ls e r h = absurd (let no : ⊥ = cc in no)
cond_lists false true p q ps ls e r h = absurd (let no : ⊥ = cc in no)
cond_lists false false p q ps ls e r h = h

pub lists_marked : (l : ℕ) (ps : List Marked) (qs : List Piece) → AreMarked ps qs → map rows_of (pieces_at ps l) ≡ lists_at l qs
lists_marked l [] [] h = refl
lists_marked l [] (q ∷ qs) h = absurd h
lists_marked l (p ∷ ps) [] h = absurd h
lists_marked l (p ∷ ps) (q ∷ qs) h = cond_lists (place_of p == l) (q.location == l) p q (pieces_at ps l) (lists_at l qs) (ap (λ z. z == l) h.0.0) h.0.1 (lists_marked l ps qs h.1)

pub got_mapped : {A B : Type 0} (f : A → B) (xs : List A) (k : ℕ) → slice_get (map f xs) k ≡ option_map f (slice_get xs k)
got_mapped f [] k = refl
got_mapped f (x ∷ xs) zero = refl
got_mapped f (x ∷ xs) (suc k) = got_mapped f xs k

pub nil_behind : (n : ℕ) (xs : List Known) → AreSame n xs (xs ++ [])
nil_behind n [] = tt
nil_behind n (x ∷ xs) = (same_self n x, nil_behind n xs)

-- ---- covers
target_owed : (n : ℕ) (found : Option Marked) → OwedSame n (option_map as_given (option_map rows_of found)) (target_rows given no_fall found 0)
target_owed n None = tt
target_owed n (Some q) = nil_behind n (as_given (rows_of q))

pieces_owed : (n l : ℕ) (ps : List Marked) (k j : ℕ) → OwedSame n (owed_lists (map rows_of (pieces_at ps l)) k j) (owed_into ps l given no_fall k j)
pieces_owed n l ps k zero = subst (λ z. OwedSame n (option_map as_given z) (owed_into ps l given no_fall k 0)) (sym (got_mapped rows_of (pieces_at ps l) k)) (target_owed n (slice_get (pieces_at ps l) k))
pieces_owed n l ps k (suc j) = tt

met_into : (n l : ℕ) (ps : List Marked) (rows : List Linear) (tree : CoverTree) → IsMetCover n (owed_lists (map rows_of (pieces_at ps l))) (as_given rows) tree → IsMetCover n (owed_into ps l given no_fall) (as_given rows) tree
met_into n l ps rows tree h = cover_same n (owed_lists (map rows_of (pieces_at ps l))) (owed_into ps l given no_fall) (pieces_owed n l ps) (as_given rows) (as_given rows) (all_same n (as_given rows)) tree h

pub shows_inside : (about : CaseSystem) (q : Piece) (into : List Piece) (lists : List (List Linear)) (n : ℕ) (tree : CoverTree) → n ≡ about.variables → lists ≡ lists_at q.location into → IsMetCover n (owed_lists lists) (as_given (piece_rows q)) tree → TreeRows (λ r. columns r ≡ n) tree → CoverNarrow tree → splits tree ≤ 128 → ShowsInside about q into tree
shows_inside about q into lists n tree wide same met even narrow shallow number k p ps m ms = record {
  shape = (met_shape about.variables (owed_into ps (place_of p) given no_fall) (as_given (rows_of p)) tree (subst (λ v. TreeRows (λ r. columns r ≡ v) tree) wide even) there, shallow);
  met = there;
  narrow = narrow;
}
  where
    at_piece : IsMetCover about.variables (owed_into ps q.location given no_fall) (as_given (piece_rows q)) tree
    at_piece =
        met_into about.variables q.location ps (piece_rows q) tree
        (subst (λ ls. IsMetCover about.variables (owed_lists ls) (as_given (piece_rows q)) tree) (same ∙ sym (lists_marked q.location ps into ms))
        (subst (λ v. IsMetCover v (owed_lists lists) (as_given (piece_rows q)) tree) wide met))

    there : IsMetCover about.variables (owed_into ps (place_of p) given no_fall) (as_given (rows_of p)) tree
    there =
        subst (λ l. IsMetCover about.variables (owed_into ps l given no_fall) (as_given (rows_of p)) tree) (sym m.0)
        (subst (λ rows. IsMetCover about.variables (owed_into ps q.location given no_fall) (as_given rows) tree) (sym m.1) at_piece)

-- ---- no hole
pub outside_not : (xs : List ℤ) (rows : List Linear) → IsOutside xs rows → All (IsMet xs) rows → ⊥
outside_not xs rows o h = o.2 (All-contains (IsMet xs) rows o.0 h o.1)

pub no_hole : (n : ℕ) (lists : List (List Linear)) (rows : List Linear) (xs : List ℤ) → IsInTarget lists xs → IsHole n lists rows xs → ⊥
no_hole n lists rows xs i h = outside_not xs i.rows (All-contains (IsOutside xs) lists i.rows h.outside i.target) i.met
