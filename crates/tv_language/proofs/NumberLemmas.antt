use Rattle.std.proofs.Common.{◌≡◌, ℕ, ◌+◌, ◌-◌, ◌*◌, ◌<◌, ◌≤◌, List, [], ◌∷◌, length, take, drop, get_or, refl, subst, arith, take-append-drop}
use Rattle.std.specs.List.{fold}
use Rattle.std.proofs.lemmas.List.Sums.{fold-append}
use Rattle.std.proofs.lemmas.List.{take_more}
use Rattle.tv_language.specs.Numbers.{value_of_digits}

-- more digits don't make a number smaller
grows : (v : ℕ) (ds : List ℕ) → v ≤ fold (λ v d. 10 * v + (d - 48)) v ds
grows v [] = omega arith
grows v (d ∷ ds) = omega (arith, grows (10 * v + (d - 48)) ds)

pub value-take : (i : ℕ) (ds : List ℕ) → value_of_digits (take i ds) ≤ value_of_digits ds
value-take i ds = subst (λ (all : List ℕ). value_of_digits (take i ds) ≤ value_of_digits all) (take-append-drop i ds) (rw (fold-append (λ v d. 10 * v + (d - 48)) 0 (take i ds) (drop i ds)) (grows (value_of_digits (take i ds)) (drop i ds)))

pub value-take_more : (ds : List ℕ) (i : ℕ) → i < length ds → value_of_digits (take (i + 1) ds) ≡ 10 * value_of_digits (take i ds) + (get_or ds i 0 - 48)
value-take_more ds i lt = rw (take_more ds i 0 lt, fold-append (λ v d. 10 * v + (d - 48)) 0 (take i ds) (get_or ds i 0 ∷ [])) refl
