-- The pieces of a region with one mark.
use Rattle.std.proofs.Common.{◌≡◌, ℕ, zero, suc, ◌<◌, List, [], ◌∷◌, ◌++◌, length, map, get_or, All, Bool, true, false, if◌then◌else◌, arith, refl, ap}
use Rattle.std.specs.List.{AllZip, flat_map}
use Rattle.tv_pre.specs.Around.{AreKids}
use Rattle.tv_pre.specs.Parts.{joined_pieces}
use Rattle.std.proofs.lemmas.List.Elements.{All-nil, All-cons, All-head, All-tail, All-append}
use Rattle.tv_program.specs.Steps.{State}
use Rattle.tv_linear.specs.Linear.{Linear, columns}
use Rattle.tv_linear.specs.declared.region.Piece.{Piece}
use Rattle.tv_linear.specs.declared.region.Region.{Region}
use Rattle.tv_cases.specs.LinearCases.{CaseSystem}
use Rattle.tv_cert.specs.declared.node.Mark.{Mark}
use Rattle.tv_cert.specs.declared.node.Mark.TheVariants.{Done, Go}
use Rattle.tv_cert.specs.declared.node.Marked.{Marked}
use Rattle.tv_cert.specs.Pieces.{is_go}
use Rattle.tv_cert.specs.Shapes.{PieceShape}
use Rattle.tv_region.specs.Regions.{IsPieceOf, IsRegion}
use Rattle.tv_choice.specs.Leading.{state}
use Rattle.tv_pre.specs.Pieces.{IsMarked, AreMarked, ArePieces, marked_as}
use Rattle.tv_pre.specs.Inclusions.{OfPiece, OfPieces}
use Rattle.tv_pre.specs.Making.{ArePiecesOf, plain_pieces}

pub are_marked : (n : ℕ) (mark : Mark) (ranks : List Linear) (qs : List Piece) → AreMarked (map (marked_as n mark ranks) qs) qs
are_marked n mark ranks [] = tt
are_marked n mark ranks (q ∷ qs) = ((refl, refl), are_marked n mark ranks qs)

-- each pair of a piece of the node and one of the region has what those of the region have
pub zip_marked : (R : Marked → Piece → Type 0) (P : Piece → Type 0) (n : ℕ) (mark : Mark) (ranks : List Linear) → ((q : Piece) → P q → R (marked_as n mark ranks q) q) → (qs : List Piece) → All P qs → AllZip R (map (marked_as n mark ranks) qs) qs
zip_marked R P n mark ranks h [] all = tt
zip_marked R P n mark ranks h (q ∷ qs) all = (h q (All-head P q qs all), zip_marked R P n mark ranks h qs (All-tail P q qs all))

-- m ranks, where pieces go on
abbrev HasRanks : Mark → ℕ → List Linear → Type 0
HasRanks Done m ranks = ranks ≡ []
HasRanks Go m ranks = length ranks ≡ m

ranks_many : (mark : Mark) (m : ℕ) (ranks : List Linear) → HasRanks mark m ranks → length ranks ≡ (if is_go mark then m else 0)
ranks_many Done m ranks h = ap length h
ranks_many Go m ranks h = h

pub marked_shape : (about : CaseSystem) (m : ℕ) (ends : Bool) (mark : Mark) (ranks : List Linear) → All (λ r. columns r ≡ about.variables) ranks → HasRanks mark m ranks → (ends ≡ false → is_go mark ≡ true) → (qs : List Piece) → ArePieces about qs → All (PieceShape about m ends) (map (marked_as about.variables mark ranks) qs)
marked_shape about m ends mark ranks even has may [] h = All-nil (PieceShape about m ends)
marked_shape about m ends mark ranks even has may (q ∷ qs) h =
    let p = All-head (IsPieceOf about.variables about.locations) q qs h in
    All-cons (PieceShape about m ends) (marked_as about.variables mark ranks q) (map (marked_as about.variables mark ranks) qs)
    (record { place = p.place; poly = refl; rows = p.even; ranks = even; many = ranks_many mark m ranks has; marks = may })
    (marked_shape about m ends mark ranks even has may qs (All-tail (IsPieceOf about.variables about.locations) q qs h))

pub plain_of : (about : CaseSystem) (region : Region) (ends : Bool) → ArePieces about region.pieces.items → ArePiecesOf about region ends 0 (plain_pieces about.variables region)
plain_of about region ends h = record {
  same = are_marked about.variables Go [] region.pieces.items;
  shape = marked_shape about 0 ends Go [] (All-nil (λ r. columns r ≡ about.variables)) refl (λ e. refl) region.pieces.items h;
}

-- ---- pieces and their states
there : {A : Type 0} (xs : List A) (k : ℕ) (x : A) → k < length xs → get_or xs k (get_or xs k x) ≡ get_or xs k x
there [] k x l = absurd (omega (arith, l))
there (y ∷ xs) zero x l = refl
there (y ∷ xs) (suc k) x l = there xs k x (omega (arith, l))

-- what the states of pieces have, those of each piece have
pub each_piece : (about : CaseSystem) (qs : List Piece) (set : State → Type 0) → ArePieces about qs → OfPieces about qs set → All (λ q. OfPiece about q set) qs
each_piece about qs set over h k d l xs w =
    let q = get_or qs k d in
    h (state q.location xs) (record { location = (over k d l).place; values = w.width }) (q, (k, l, there qs k d l), record { place = refl; inside = w.met })

pub all_both : {A : Type 0} (P Q : A → Type 0) (xs : List A) → All P xs → All Q xs → All (λ x. P x × Q x) xs
all_both P Q xs h g k d l = (h k d l, g k d l)

pub all_with : {A : Type 0} (P : A → Type 0) (Q : Type 0) (xs : List A) → All P xs → Q → All (λ x. P x × Q) xs
all_with P Q xs h g k d l = (h k d l, g)

-- each piece of a node that is one of the region, where something else is so
pub zip_plain : (about : CaseSystem) (region : Region) (Q : Type 0) → Q → AllZip (λ p q. IsMarked p q × Q) (plain_pieces about.variables region) region.pieces.items
zip_plain about region Q h = by_pieces region.pieces.items
  where
    by_pieces : (qs : List Piece) → AllZip (λ p q. IsMarked p q × Q) (map (marked_as about.variables Go []) qs) qs
    by_pieces [] = tt
    by_pieces (q ∷ qs) = (((refl, refl), h), by_pieces qs)

-- ---- the pieces of some regions together
pub marked_append : (ps more : List Marked) (qs others : List Piece) → AreMarked ps qs → AreMarked more others → AreMarked (ps ++ more) (qs ++ others)
marked_append [] more [] others h g = g
marked_append [] more (q ∷ qs) others h g = absurd h
marked_append (p ∷ ps) more [] others h g = absurd h
marked_append (p ∷ ps) more (q ∷ qs) others h g = (h.0, marked_append ps more qs others h.1 g)

pub joined_marked : (kids : List (List Marked)) (regions : List Region) → AreKids kids regions → AreMarked (flat_map (λ kid. kid) kids) (joined_pieces regions)
joined_marked [] [] h = tt
joined_marked [] (r ∷ regions) h = absurd h
joined_marked (ps ∷ kids) [] h = absurd h
joined_marked (ps ∷ kids) (r ∷ regions) h = marked_append ps (flat_map (λ kid. kid) kids) r.pieces.items (joined_pieces regions) h.0 (joined_marked kids regions h.1)

pub joined_over : (about : CaseSystem) (regions : List Region) → All (IsRegion about.variables about.locations) regions → ArePieces about (joined_pieces regions)
joined_over about [] h = All-nil (IsPieceOf about.variables about.locations)
joined_over about (r ∷ regions) h = All-append (IsPieceOf about.variables about.locations) r.pieces.items (joined_pieces regions) (All-head (IsRegion about.variables about.locations) r regions h).pieces (joined_over about regions (All-tail (IsRegion about.variables about.locations) r regions h))

pub zip_so : {A B : Type 0} (R S : A → B → Type 0) → ((a : A) (b : B) → R a b → S a b) → (xs : List A) (ys : List B) → AllZip R xs ys → AllZip S xs ys
zip_so R S h [] [] z = tt
zip_so R S h [] (y ∷ ys) z = absurd z
zip_so R S h (x ∷ xs) [] z = absurd z
zip_so R S h (x ∷ xs) (y ∷ ys) z = (h x y z.0, zip_so R S h xs ys z.1)
