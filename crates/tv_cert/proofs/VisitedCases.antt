-- The obligations of a piece, one case, child or piece after another.
use Rattle.std.proofs.Common.{◌≡◌, ◌⊎◌, inl, inr, List, [], ◌∷◌, ◌++◌, ap, sym}
use Rattle.std.proofs.lemmas.List.{append-nil}
use Rattle.std.specs.List.{flat_map}
use Rattle.tv_cert.specs.Obligations.{Obligation, end_sides}
use Rattle.tv_formula.specs.declared.tree.Shape.{Shape}
use Rattle.tv_formula.specs.declared.tree.Shape.TheVariants.{Release, Strong}

pub flat_map-one : {A : Type 0} (f : A → List Obligation) (x : A) → flat_map f (x ∷ []) ≡ f x
flat_map-one f x = append-nil (f x)

pub flat_map-cons : {A : Type 0} (f : A → List Obligation) (x : A) (xs : List A) → flat_map f (x ∷ xs) ≡ flat_map f (x ∷ []) ++ flat_map f xs
flat_map-cons f x xs = ap (λ os. os ++ flat_map f xs) (sym (flat_map-one f x))

-- release and strong release ask for both sides at the end
pub sides_both : (shape : Shape) → (shape ≡ Release) ⊎ (shape ≡ Strong) → {A : Type 0} (a b : A) → end_sides shape a b ≡ a ∷ b ∷ []
sides_both shape (inl e) a b = ap (λ s. end_sides s a b) e
sides_both shape (inr e) a b = ap (λ s. end_sides s a b) e
