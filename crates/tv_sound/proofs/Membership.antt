-- What a list contains, by what it was made from.
use Rattle.std.proofs.Common.{zero, suc, List, [], ◌∷◌, arith, sym, subst}
use Rattle.std.specs.Prelude.{Contains}
use Rattle.std.specs.List.{flat_map, AllZip}
use Rattle.std.proofs.lemmas.List.Elements.{Contains-append_left, Contains-append_right}

pub zip_some : {A B : Type 0} (R : A → B → Type 0) (xs : List A) (ys : List B) (x : A) → AllZip R xs ys → Contains xs x → (y : B) × R x y
zip_some R [] ys x h c = absurd (omega arith)
zip_some R (a ∷ xs) [] x h c = absurd h
zip_some R (a ∷ xs) (b ∷ ys) x h (zero, l, e) = (b, subst (λ z. R z b) e h.0)
zip_some R (a ∷ xs) (b ∷ ys) x h (suc k, l, e) = zip_some R xs ys x h.1 (k, omega arith, e)

pub Contains-flat_map : {A B : Type 0} (f : A → List B) (xs : List A) (x : A) (y : B) → Contains xs x → Contains (f x) y → Contains (flat_map f xs) y
Contains-flat_map f [] x y c d = absurd (omega arith)
Contains-flat_map f (a ∷ xs) x y (zero, l, e) d = Contains-append_left (f a) (flat_map f xs) y (subst (λ z. Contains (f z) y) (sym e) d)
Contains-flat_map f (a ∷ xs) x y (suc k, l, e) d = Contains-append_right (f a) (flat_map f xs) y (Contains-flat_map f xs x y (k, omega arith, e) d)
