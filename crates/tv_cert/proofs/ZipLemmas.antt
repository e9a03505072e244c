-- Two lists that are gone over place by place.
use Rattle.std.proofs.Common.{◌≡◌, ◌↔◌, ℕ, ◌+◌, ◌≤◌, List, [], ◌∷◌, length, drop, slice_get, Some, None, refl, ap, subst, arith, sym}
use Rattle.std.specs.List.{AllZip}
use Rattle.std.proofs.Math.ListN.{drop_of_length-le}
use Rattle.std.proofs.lemmas.List.{length-drop}
use Rattle.tv_cases.proofs.LeavingLemmas.{none_left, first_left}

nothing : {A B : Type 0} (R : A → B → Type 0) (ys : List B) → AllZip R [] ys → ys ≡ []
nothing R [] h = refl
nothing R (y ∷ ys) h = absurd h

module _ {A B : Type 0} (R : A → B → Type 0) (xs : List A) (ys : List B) where
  -- the lists agree if what is left of them from the k-th place on does
  abbrev pub ZipsFrom : ℕ → Type 0
  ZipsFrom k = AllZip R xs ys ↔ AllZip R (drop k xs) (drop k ys)

  module _ (k : ℕ) (so_far : ZipsFrom k) where
    module _ (x : A) (e : slice_get xs k ≡ Some x) where
      zip_parts : (y : B) → slice_get ys k ≡ Some y → AllZip R (drop k xs) (drop k ys) ≡ (R x y × AllZip R (drop (k + 1) xs) (drop (k + 1) ys))
      zip_parts y h = λ i. AllZip R (first_left xs k x e i) (first_left ys k y h i)

      pub zip_next : (y : B) → slice_get ys k ≡ Some y → R x y → ZipsFrom (k + 1)
      zip_next y h r = (λ all. (subst (λ (z : Type 0). z) (zip_parts y h) (so_far.0 all)).1, λ rest. so_far.1 (subst (λ (z : Type 0). z) (sym (zip_parts y h)) (r, rest)))

      pub zip_fails : (y : B) → slice_get ys k ≡ Some y → (R x y → ⊥) → AllZip R xs ys → ⊥
      zip_fails y h other all = other (subst (λ (z : Type 0). z) (zip_parts y h) (so_far.0 all)).0

      pub zip_short : slice_get ys k ≡ None → AllZip R xs ys → ⊥
      zip_short h all = subst (λ (z : Type 0). z) (λ i. AllZip R (first_left xs k x e i) (none_left ys k h i)) (so_far.0 all)

    module _ (e : slice_get xs k ≡ None) where
      pub zip_over : length ys ≤ k → AllZip R xs ys
      zip_over past = so_far.1 (subst (λ (z : Type 0). z) (λ i. AllZip R (sym (none_left xs k e) i) (sym (drop_of_length-le ys past) i)) tt)

      pub zip_ends : AllZip R xs ys → length ys ≤ k
      zip_ends all =
          let none = ap length (nothing R (drop k ys) (subst (λ ws. AllZip R ws (drop k ys)) (none_left xs k e) (so_far.0 all))) in
          let long = length-drop k ys in
          omega (arith, none, long)
