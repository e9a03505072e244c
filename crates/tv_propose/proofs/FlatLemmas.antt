-- What is left of lists that are joined.
use Rattle.std.proofs.Common.{◌≡◌, ℕ, zero, suc, ◌+◌, ◌-◌, ◌<◌, ◌≤◌, List, [], ◌∷◌, ◌++◌, length, take, drop, get_or, arith, refl, sym, ap, ◌∙◌}
use Rattle.std.specs.List.{flat_map}

next_of : (n : ℕ) → n + 1 ≡ suc n
next_of n = omega arith

flat_next_suc : {X A : Type 0} (f : X → List A) (d : X) → f d ≡ [] → (xs : List X) (k : ℕ) → flat_map f (drop k xs) ≡ f (get_or xs k d) ++ flat_map f (drop (suc k) xs)
flat_next_suc f d e [] zero = sym (ap (λ ys. ys ++ []) e)
flat_next_suc f d e [] (suc k) = sym (ap (λ ys. ys ++ []) e)
flat_next_suc f d e (x ∷ xs) zero = refl
flat_next_suc f d e (x ∷ xs) (suc k) = flat_next_suc f d e xs k

-- the list at a place, and those after it
pub flat_next : {X A : Type 0} (f : X → List A) (d : X) → f d ≡ [] → (xs : List X) (k : ℕ) → flat_map f (drop k xs) ≡ f (get_or xs k d) ++ flat_map f (drop (k + 1) xs)
flat_next f d e xs k = flat_next_suc f d e xs k ∙ ap (λ i. f (get_or xs k d) ++ flat_map f (drop i xs)) (sym (next_of k))

pub none_past : {A : Type 0} (n : ℕ) (xs : List A) (d : A) → length xs ≤ n → get_or xs n d ≡ d
none_past zero [] d l = refl
none_past zero (x ∷ xs) d l = absurd (omega (arith, l))
none_past (suc n) [] d l = refl
none_past (suc n) (x ∷ xs) d l = none_past n xs d (omega (arith, l))

pub take_one : {A : Type 0} (n : ℕ) (x : A) (xs : List A) → 0 < n → take n (x ∷ xs) ≡ x ∷ take (n - 1) xs
take_one zero x xs l = absurd (omega (arith, l))
take_one (suc n) x xs l = ap (λ k. x ∷ take k xs) (let g : n ≡ suc n - 1 = omega arith in g)
