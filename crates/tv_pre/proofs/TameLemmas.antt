-- Regions of differences, which are made of atoms of differences.
use Rattle.std.proofs.Common.{◌≡◌, ◌⊎◌, inl, inr, ℕ, ◌<◌, List, [], ◌∷◌, ◌++◌, refl, subst, Bool, true, false, cond, ◌==◌, not}
use Rattle.std.specs.Prelude.{All, Contains}
use Rattle.std.proofs.lemmas.List.Elements.{All-head, All-tail}
use Rattle.std.proofs.lemmas.Bool.{eqb-true}
use Rattle.tv_linear.specs.Linear.{Linear}
use Rattle.tv_linear.specs.declared.region.Piece.{Piece}
use Rattle.tv_linear.specs.declared.region.Region.{Region}
use Rattle.tv_cases.specs.LinearCases.{CaseSystem}
use Rattle.tv_cases.proofs.ContainsLemmas.{Contains-here, Contains-later}
use Rattle.tv_cert.specs.Obligations.{truth_targets}
use Rattle.tv_cert.specs.Statements.{Statement, rows, here, elsewhere, ends, never_ends, each_of, one_of, after, along, unsaid}
use Rattle.tv_region.specs.Met.{InSome}
use Rattle.tv_region.specs.Regions.{IsPieceOf, HasRow, lists_at}
use Rattle.tv_region.specs.Differences.{IsDifference, AreOfDifferences, IsOfDifferences}
use Rattle.tv_pre.specs.Built.{HasAtom, atom_lists, IsAtomRegion, IsBuilt, of_atom, of_everywhere, of_nowhere, of_joined, of_same, of_both, of_either, of_rest, of_any, of_every}
use Rattle.tv_pre.specs.Finding.{AreAtomsOfDifferences, IsTameStatement, IsTameFor}
use Rattle.tv_pre.specs.Parts.{joined_pieces}
use Rattle.tv_pre.proofs.SameRegionLemmas.{same_lists}

-- ---- rows of pieces

-- a piece at the location or one after it has the row
in_front : (b : Bool) (rs : List Linear) (rest : List (List Linear)) (r : Linear) (P : Type 0) → (InSome rest r → P) → (b ≡ true → P) → InSome (cond b (rs ∷ rest) rest) r → P
in_front true rs rest r P later now m = now refl
in_front false rs rest r P later now m = later m

row_there : (n m l : ℕ) (pieces : List Piece) (r : Linear) → All (IsPieceOf n m) pieces → InSome (lists_at l pieces) r → l < m
row_there n m l [] r h k = absurd k
row_there n m l (p ∷ pieces) r h k =
    in_front (p.location == l) p.poly.rows.items (lists_at l pieces) r (l < m) (λ w. row_there n m l pieces r (All-tail (IsPieceOf n m) p pieces h) w)
    (λ e. subst (λ x. x < m) (eqb-true p.location l e) (All-head (IsPieceOf n m) p pieces h).place) k

in_either : (l : ℕ) (ps qs : List Piece) (r : Linear) → InSome (lists_at l (ps ++ qs)) r → InSome (lists_at l ps) r ⊎ InSome (lists_at l qs) r
in_either l [] qs r m = inr m
in_either l (p ∷ ps) qs r m = by_test (p.location == l) m (λ w. in_either l ps qs r w) where
  by_test : (b : Bool) → InSome (cond b (p.poly.rows.items ∷ lists_at l (ps ++ qs)) (lists_at l (ps ++ qs))) r → (InSome (lists_at l (ps ++ qs)) r → InSome (lists_at l ps) r ⊎ InSome (lists_at l qs) r) →
      InSome (cond b (p.poly.rows.items ∷ lists_at l ps) (lists_at l ps)) r ⊎ InSome (lists_at l qs) r
  by_test true (inl w) rest = inl (inl w)
  by_test true (inr w) rest = elim (rest w) [ inl x ↦ inl (inr x) | inr x ↦ inr x ]
  by_test false w rest = rest w

joined_row : (l : ℕ) (regions : List Region) (r : Linear) → InSome (lists_at l (joined_pieces regions)) r → (x : Region) × Contains regions x × HasRow x r
joined_row l [] r m = absurd m
joined_row l (x ∷ regions) r m = elim (in_either l x.pieces.items (joined_pieces regions) r m) [
  | inl w ↦ (x, Contains-here x regions, (l, w))
  | inr w ↦ (let later = joined_row l regions r w in (later.0, Contains-later x later.0 regions later.1, later.2))
]

-- ---- atoms
pub truth_rows : (b : Bool) (r : Linear) → InSome (truth_targets b) r → ⊥
truth_rows true r (inl m) = m
truth_rows true r (inr m) = m
truth_rows false r m = m

pub bare_rows : (lists : List (List Linear)) → (lists ≡ [] ∷ []) ⊎ (lists ≡ []) → (r : Linear) → InSome lists r → ⊥
bare_rows lists (inl e) r m = truth_rows true r (subst (λ ls. InSome ls r) e m)
bare_rows lists (inr e) r m = subst (λ ls. InSome ls r) e m

module _ (about : CaseSystem) (s : Statement) (atoms : AreAtomsOfDifferences s) where
  atom_row : (a : Statement) (l : ℕ) (r : Linear) → HasAtom s a → InSome (atom_lists a l) r → IsDifference r
  atom_row (rows lists) l r h m = atoms lists r h m
  atom_row (here k) l r h m = absurd (truth_rows (l == k) r m)
  atom_row (elsewhere k) l r h m = absurd (truth_rows (not (l == k)) r m)
  atom_row ends l r h m = absurd m
  atom_row never_ends l r h m = absurd m
  atom_row (each_of ss) l r h m = absurd m
  atom_row (one_of ss) l r h m = absurd m
  atom_row (after path t) l r h m = absurd m
  atom_row (along path shape t u) l r h m = absurd m
  atom_row unsaid l r h m = absurd m

  atom_differences : (a : Statement) (region : Region) → HasAtom s a → IsAtomRegion about a region → IsOfDifferences region
  atom_differences a region h is r m =
      atom_row a m.0 r h (subst (λ ls. InSome ls r) (is.lists m.0 (row_there about.variables about.locations m.0 region.pieces.items r is.over.pieces m.1)) m.1)

  module _ (cases : AreOfDifferences about) where
    pub built_differences : (h : ℕ) (region : Region) → IsBuilt about s h region → IsOfDifferences region
    built_differences h _ (of_atom _ a region has is) = atom_differences a region has is
    built_differences h _ (of_everywhere _ region is) = λ r m. absurd (bare_rows (lists_at m.0 region.pieces.items) (is.bare m.0) r m.1)
    built_differences h _ (of_nowhere _ region is) = λ r m. absurd (subst (λ ps. InSome (lists_at m.0 ps) r) is.none m.1)
    built_differences _ _ (of_joined h regions region each few is) = λ r m.
        (let w = joined_row m.0 regions r (subst (λ ps. InSome (lists_at m.0 ps) r) is.pieces m.1) in built_differences h w.0 (each w.0 w.1) r w.2)
    built_differences h _ (of_same _ a region f e) = λ r m.
        built_differences h a f r (m.0, subst (λ ls. InSome ls r) (same_lists m.0 a.pieces.items region.pieces.items e.pieces) m.1)
    built_differences h _ (of_both _ a b region f g is) = is.differences (built_differences h a f) (built_differences h b g)
    built_differences h _ (of_either _ a b region f g is) = is.differences (built_differences h a f) (built_differences h b g)
    built_differences h _ (of_rest _ a region f is) = is.differences (built_differences h a f)
    built_differences _ _ (of_any h a region f is) = is.differences cases (built_differences h a f)
    built_differences _ _ (of_every h a region f is) = is.differences cases (built_differences h a f)

-- going back into regions that are made for the statement is exact
pub tame_built : (about : CaseSystem) (s : Statement) → IsTameStatement about s → (h k : ℕ) (a b : Region) → IsBuilt about s h a → IsBuilt about s k b → IsTameFor about a b
tame_built about s (inl none) h k a b x y = inl none
tame_built about s (inr d) h k a b x y = inr (d.0, built_differences about s d.1 d.0 h a x, built_differences about s d.1 d.0 k b y)
