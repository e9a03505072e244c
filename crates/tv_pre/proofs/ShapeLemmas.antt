-- What the pieces of each shape of node owe.
use Rattle.std.proofs.Common.{◌≡◌, ℕ, List, [], ◌∷◌, ◌++◌, refl, subst}
use Rattle.std.specs.List.{flat_map}
use Rattle.tv_formula.specs.declared.tree.Path.{Path}
use Rattle.tv_formula.specs.declared.tree.Path.TheVariants.{Every, Any}
use Rattle.tv_formula.specs.Properties.{Property, next}
use Rattle.tv_linear.specs.declared.region.Region.{Region}
use Rattle.tv_cases.specs.LinearCases.{CaseSystem}
use Rattle.tv_cert.specs.declared.node.Marked.{Marked}
use Rattle.tv_cert.specs.declared.node.Proof.{Proof}
use Rattle.tv_cert.specs.Claims.{about_with}
use Rattle.tv_cert.specs.Obligations.{first_of, second_of}
use Rattle.tv_cert.specs.Nodes.{piece_of}
use Rattle.tv_pre.specs.Pieces.{AreMarked}
use Rattle.tv_shape.specs.Made.{Offers}
use Rattle.tv_pre.specs.Around.{AreKids, next_of}

pub flat_same : {A B : Type 0} (f g : A → List B) → ((x : A) → f x ≡ g x) → (xs : List A) → flat_map f xs ≡ flat_map g xs
flat_same f g h [] = refl
flat_same f g h (x ∷ xs) = λ i. h x i ++ flat_same f g h xs i

pub first_marked : (kids : List (List Marked)) (r : Region) (rest : List Region) → AreKids kids (r ∷ rest) → AreMarked (first_of kids) r.pieces.items
first_marked [] r rest h = absurd h
first_marked (a ∷ kids) r rest h = h.0

pub second_marked : (kids : List (List Marked)) (r s : Region) (rest : List Region) → AreKids kids (r ∷ s ∷ rest) → AreMarked (second_of kids) s.pieces.items
second_marked [] r s rest h = absurd h
second_marked (a ∷ kids) r s rest h = first_marked kids s rest h.1

next_is : (about : CaseSystem) (number : ℕ) (path : Path) (f : Property) (ps : List Marked) (kids : List (List Marked)) (p : Marked) → next_of about number path p (first_of kids) ≡ piece_of number (about_with about) (next path f) ps kids p
next_is about number Every f ps kids p = refl
next_is about number Any f ps kids p = refl

pub next_owed : (about : CaseSystem) (number : ℕ) (path : Path) (f : Property) (ps all : List Marked) (kids : List (List Marked)) (proofs : List Proof) → Offers (flat_map (λ p. next_of about number path p (first_of kids)) ps) proofs → Offers (flat_map (piece_of number (about_with about) (next path f) all kids) ps) proofs
next_owed about number path f ps all kids proofs h =
    subst (λ os. Offers os proofs) (flat_same (λ p. next_of about number path p (first_of kids)) (piece_of number (about_with about) (next path f) all kids) (next_is about number path f all kids) ps) h
