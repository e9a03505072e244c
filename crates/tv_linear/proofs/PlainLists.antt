use Rattle.std.proofs.Common.{◌≡◌, ℕ, zero, suc, ◌+◌, ◌<◌, ◌≤◌, List, [], ◌∷◌, ◌++◌, map, length, take, get_or, set, replicate, refl, ap, arith, ℤ, pos, ◌+ℤ◌}
use Rattle.std.proofs.lemmas.Grind.{common_steps}
use Rattle.std.specs.Prelude.{All, unsigned_abs}
use Rattle.std.proofs.lemmas.List.Elements.{All-nil, All-cons, All-weaker}
use Rattle.tv_linear.specs.Linear.{IsWithin}
use Rattle.tv_linear.specs.Arithmetic.{zeros, unit, plus_each}
use Rattle.tv_linear.specs.Terms.{table}

pub zeros-are : (w : ℕ) → zeros w ≡ replicate w (pos 0)
zeros-are zero = refl
zeros-are (suc w) = ap (λ zs. pos 0 ∷ zs) (zeros-are w)

pub unit-is : (w column : ℕ) → column < w → unit w column ≡ set (replicate w (pos 0)) column (pos 1)
unit-is zero column h = absurd (omega arith)
unit-is (suc w) zero h = ap (λ zs. pos 1 ∷ zs) (zeros-are w)
unit-is (suc w) (suc column) h = ap (λ zs. pos 0 ∷ zs) (unit-is w column (omega arith))

pub length-plus_each : (xs ys : List ℤ) → length xs ≡ length ys → length (plus_each xs ys) ≡ length xs
length-plus_each [] [] e = refl
length-plus_each [] (y ∷ ys) e = absurd (omega arith)
length-plus_each (x ∷ xs) [] e = absurd (omega arith)
length-plus_each (x ∷ xs) (y ∷ ys) e = ap suc (length-plus_each xs ys (omega arith))

-- also past the end, at defaults that add up
pub get_or-plus_each : (xs ys : List ℤ) (i : ℕ) (d e : ℤ) → length xs ≡ length ys → get_or (plus_each xs ys) i (d +ℤ e) ≡ get_or xs i d +ℤ get_or ys i e
get_or-plus_each [] [] i d e h = refl
get_or-plus_each [] (y ∷ ys) i d e h = absurd (omega arith)
get_or-plus_each (x ∷ xs) [] i d e h = absurd (omega arith)
get_or-plus_each (x ∷ xs) (y ∷ ys) zero d e h = refl
get_or-plus_each (x ∷ xs) (y ∷ ys) (suc i) d e h = get_or-plus_each xs ys i d e (omega arith)

pub length-zeros : (w : ℕ) → length (zeros w) ≡ w
length-zeros zero = refl
length-zeros (suc w) = ap suc (length-zeros w)

pub get_or-zeros : (w i : ℕ) → get_or (zeros w) i (pos 0) ≡ pos 0
get_or-zeros zero i = refl
get_or-zeros (suc w) zero = refl
get_or-zeros (suc w) (suc i) = get_or-zeros w i

pub zeros-small : (w : ℕ) → All (λ z. unsigned_abs z ≤ 0) (zeros w)
zeros-small zero = All-nil (λ z. unsigned_abs z ≤ 0)
zeros-small (suc w) = All-cons (λ z. unsigned_abs z ≤ 0) (pos 0) (zeros w) (omega arith) (zeros-small w)

pub zeros-narrow : (w : ℕ) → All (IsWithin 62) (zeros w)
zeros-narrow w = All-weaker (λ z. unsigned_abs z ≤ 0) (IsWithin 62) (λ z h. omega arith) (zeros w) (zeros-small w)

pub length-unit : (w column : ℕ) → length (unit w column) ≡ w
length-unit zero column = refl
length-unit (suc w) zero = ap suc (length-zeros w)
length-unit (suc w) (suc column) = ap suc (length-unit w column)

pub unit-narrow : (w column : ℕ) → All (IsWithin 62) (unit w column)
unit-narrow zero column = All-nil (IsWithin 62)
unit-narrow (suc w) zero = All-cons (IsWithin 62) (pos 1) (zeros w) (omega arith) (zeros-narrow w)
unit-narrow (suc w) (suc column) = All-cons (IsWithin 62) (pos 0) (unit w column) (omega arith) (unit-narrow w column)

pub map-more : (f : ℤ → ℤ) (xs ys zs : List ℤ) (i : ℕ) (v : ℤ) → i < length xs → ys ≡ map f (take i xs) → v ≡ f (get_or xs i (pos 0)) → zs ≡ ys ++ v ∷ [] → zs ≡ map f (take (i + 1) xs)
map-more f xs ys zs i v h is here more = grind (arith, common_steps)

pub length-table : {A : Type 0} (n : ℕ) (f : ℕ → A) → length (table n f) ≡ n
length-table zero f = refl
length-table (suc n) f = ap suc (length-table n (λ j. f (suc j)))
