-- Atoms: tests of one state.
use Rattle.tv_shape.specs.Made.{Offers}
use Rattle.std.specs.Prelude.{◌≡◌, ℕ, zero, suc, ◌-◌, ◌<◌, List, [], ◌∷◌, ◌++◌, map, All, ℤ, pos, not, ◌==◌}
use Rattle.tv_formula.specs.Properties.{Property, truth, compare, at, negated}
use Rattle.tv_linear.specs.Linear.{Linear}
use Rattle.tv_linear.specs.Arithmetic.{zeros}
use Rattle.tv_linear.specs.declared.cover.CoverTree.{CoverTree}
use Rattle.tv_linear.specs.declared.cover.CoverTree as cover
use Rattle.tv_linear.specs.declared.region.Piece.{Piece}
use Rattle.tv_linear.specs.declared.region.Region.{Region}
use Rattle.tv_cases.specs.Comparisons.{comparison_lists}
use Rattle.tv_cases.specs.LinearCases.{CaseSystem}
use Rattle.tv_cert.specs.declared.node.Mark.TheVariants.{Go}
use Rattle.tv_cert.specs.MarkedRows.{MarkedRows, marked}
use Rattle.tv_cert.specs.declared.node.Marked.{Marked}
use Rattle.tv_cert.specs.declared.node.Proof.{Proof}
use Rattle.std.specs.List.{flat_map}
use Rattle.tv_cert.specs.Claims.{about_with}
use Rattle.tv_cert.specs.Obligations.{Obligation, truth_targets, atom_of}
use Rattle.tv_cert.specs.Pieces.{place_of}
use Rattle.tv_cover.specs.Targets.{AreEven}
use Rattle.tv_region.specs.Regions.{IsRegion, lists_at}
use Rattle.tv_pre.specs.Pieces.{ArePieces, marked_as}
use Rattle.tv_pre.specs.Offers.{Adds}
use Rattle.tv_pre.specs.declared.test.Test.{Test}
use Rattle.tv_pre.specs.declared.test.Test.TheVariants.{Rows, Here, Elsewhere}

-- at a location where the test is true, one of these lists of rows is met
abbrev pub test_lists : Test → ℕ → List (List Linear)
test_lists (Rows lists) l = map (λ v. v.items) lists.now
test_lists (Here k) l = truth_targets (l == k)
test_lists (Elsewhere k) l = truth_targets (not (l == k))

-- the formula is the test
abbrev pub IsTestOf : ℕ → Test → Property → Type 0
IsTestOf n (Rows lists) (truth b) = map (λ v. v.items) lists.now ≡ truth_targets b
IsTestOf n (Rows lists) (compare r a b) = map (λ v. v.items) lists.now ≡ comparison_lists n r a b
IsTestOf n (Rows lists) f = ⊥
IsTestOf n (Here k) (at l) = l ≡ k
IsTestOf n (Here k) f = ⊥
IsTestOf n (Elsewhere k) (negated (at l)) = l ≡ k
IsTestOf n (Elsewhere k) (negated f) = ⊥
IsTestOf n (Elsewhere k) f = ⊥

-- the rows of a test have n columns
abbrev pub IsEvenTest : ℕ → Test → Type 0
IsEvenTest n (Rows lists) = All (AreEven n) (map (λ v. v.items) lists.now)
IsEvenTest n (Here k) = Unit {0}
IsEvenTest n (Elsewhere k) = Unit {0}

-- the region has at each location the lists of the test
pub record IsTested (about : CaseSystem) (test : Test) (region : Region) : Type 0 where
  pub over : IsRegion about.variables about.locations region
  pub lists : (l : ℕ) → l < about.locations → lists_at l region.pieces.items ≡ test_lists test l

-- ---- the node
-- the piece of the rows at a location, which goes on without ranks
abbrev pub atom_piece : ℕ → ℕ → List Linear → MarkedRows
atom_piece n l rows = marked l n Go rows []

-- the pieces at the first k locations
abbrev pub atom_pieces : ℕ → Test → ℕ → List MarkedRows
atom_pieces n test zero = []
atom_pieces n test (suc k) = atom_pieces n test k ++ map (atom_piece n k) (test_lists test k)

-- the line that shows by itself the row at the place among `count` rows: the row once, and its denial
abbrev pub own_line : ℕ → ℕ → List ℤ
own_line count place = zeros place ++ pos 1 ∷ (zeros (count - place - 1) ++ pos 1 ∷ [])

-- k lines, from a place on
abbrev pub own_lines : ℕ → ℕ → ℕ → List (List ℤ)
own_lines count place zero = []
own_lines count place (suc k) = own_line count place ∷ own_lines count (suc place) k

-- the cover by the target at the place; each row of the target is shown by itself
abbrev pub IsOwnCover : ℕ → ℕ → CoverTree → Type 0
IsOwnCover count place (cover.Split' r p a q b) = ⊥
IsOwnCover count place (cover.Empty ms) = ⊥
IsOwnCover count place (cover.Into target fall lines) = (target ≡ place) × (fall ≡ 0) × (map (λ l. l.items) lines.items ≡ own_lines count 0 count)

-- after some pieces those of these rows at a location were added, which are among the lists, and proofs of what they owe
pub record AreAtoms (about : CaseSystem) (l : ℕ) (lists rows : List (List Linear)) (pieces : List Piece) (proofs : List Proof) (more : List Piece) (offered : List Proof) : Type 0 where
  pub over : ArePieces about more
  pub marked : map (marked_as about.variables Go []) more ≡ map (marked_as about.variables Go []) pieces ++ map (atom_piece about.variables l) rows
  pub adds : (number : ℕ) → Adds (map (λ rs. atom_of number (about_with about) (atom_piece about.variables l rs) lists) rows) proofs offered

-- what a piece of the test owes
abbrev pub atom_owes : CaseSystem → Test → ℕ → Marked → List Obligation
atom_owes about test number p = atom_of number (about_with about) p (test_lists test (place_of p)) ∷ []

-- the pieces are those at the first k locations, and the proofs are of what they owe
pub record AreAllAtoms (about : CaseSystem) (test : Test) (k : ℕ) (pieces : List Piece) (proofs : List Proof) : Type 0 where
  pub over : ArePieces about pieces
  pub marked : map (marked_as about.variables Go []) pieces ≡ atom_pieces about.variables test k
  pub offers : (number : ℕ) → Offers (flat_map (atom_owes about test number) (atom_pieces about.variables test k)) proofs
